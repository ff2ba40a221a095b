use Rattle.std.proofs.Common.{◌+◌, ◌∙◌, length, take, drop, ap, sym, arith, refl}
use Rattle.std.specs.Prelude.{Some}
use Rattle.std.proofs.lemmas.Option.{slice_get_read}
use Rattle.tl_workers.specs.Noted.{NotesValue}
use Rattle.tl_workers.proofs.Notings.{same_long, within_at, asked_at, got_at}
use Rattle.tl_workers.proofs.notes.Notes.entry.Goals as goal

pub index-requires : goal.index-requires
index-requires c =
    let long = same_long c.self.inside.values.items c.self.inside.names.items c.self.inside.entries.items c.args.self.now.kept (ap (λ (v : NotesValue). v.kept) c.self.view_is) in
    omega (arith, long, c.requires, c.self.inside.entries.ok)

pub index-requires-in-OfCall : goal.index-requires-in-OfCall
index-requires-in-OfCall c =
    let long = same_long c.self.inside.values.items c.self.inside.names.items c.self.inside.entries.items c.args.self.now.kept (ap (λ (v : NotesValue). v.kept) c.self.view_is) in
    let at = slice_get_read c.self.inside.entries.items _ c.args.i c.index.result.now refl (omega (arith, long, c.requires)) c.index.ensures ∙ ap Some c.in-OfCall.is in
    let within = within_at _ _ c.self.inside.entries.items c.args.i _ c.self.invariant.0 at in
    omega (arith, within.0, c.self.inside.names.ok)

pub values_at-requires : goal.values_at-requires
values_at-requires c =
    let long = same_long c.self.inside.values.items c.self.inside.names.items c.self.inside.entries.items c.args.self.now.kept (ap (λ (v : NotesValue). v.kept) c.self.view_is) in
    let at = slice_get_read c.self.inside.entries.items _ c.args.i c.index.result.now refl (omega (arith, long, c.requires)) c.index.ensures ∙ ap Some c.in-OfCall.is in
    let within = within_at _ _ c.self.inside.entries.items c.args.i _ c.self.invariant.0 at in
    let values = ap length c.as_slice-values.ensures.value in
    (omega arith, (omega (arith, within.1, values), within.2))

pub values_at-requires-in-OfReceipt : goal.values_at-requires-in-OfReceipt
values_at-requires-in-OfReceipt c =
    let long = same_long c.self.inside.values.items c.self.inside.names.items c.self.inside.entries.items c.args.self.now.kept (ap (λ (v : NotesValue). v.kept) c.self.view_is) in
    let at = slice_get_read c.self.inside.entries.items _ c.args.i c.index.result.now refl (omega (arith, long, c.requires)) c.index.ensures ∙ ap Some c.in-OfReceipt.is in
    let within = within_at _ _ c.self.inside.entries.items c.args.i _ c.self.invariant.0 at in
    let values = ap length c.as_slice-values.ensures.value in
    (omega arith, (omega (arith, within.0, values), within.1))

pub values_at-requires-in-OfReceipt-2 : goal.values_at-requires-in-OfReceipt-2
values_at-requires-in-OfReceipt-2 c =
    let long = same_long c.self.inside.values.items c.self.inside.names.items c.self.inside.entries.items c.args.self.now.kept (ap (λ (v : NotesValue). v.kept) c.self.view_is) in
    let at = slice_get_read c.self.inside.entries.items _ c.args.i c.index.result.now refl (omega (arith, long, c.requires)) c.index.ensures ∙ ap Some c.in-OfReceipt.is in
    let within = within_at _ _ c.self.inside.entries.items c.args.i _ c.self.invariant.0 at in
    let values = ap length c.as_slice-values.ensures.value in
    (omega arith, (omega (arith, within.0, values), within.2))

pub returns-in-OfCall : goal.returns-in-OfCall
returns-in-OfCall c =
    let view = ap (λ (v : NotesValue). v.kept) c.self.view_is in
    let long = same_long c.self.inside.values.items c.self.inside.names.items c.self.inside.entries.items c.args.self.now.kept view in
    let at = slice_get_read c.self.inside.entries.items _ c.args.i c.index.result.now refl (omega (arith, long, c.requires)) c.index.ensures ∙ ap Some c.in-OfCall.is in
    let within = within_at _ _ c.self.inside.entries.items c.args.i _ c.self.invariant.0 at in
    let named = slice_get_read c.self.inside.names.items _ c.in-OfCall.name c.index-in-OfCall.result.now refl within.0 c.index-in-OfCall.ensures ∙ ap Some (sym c.copy.ensures) in
    let part = c.values_at.ensures ∙ ap (λ vs. take c.in-OfCall.args (drop c.in-OfCall.start vs)) c.as_slice-values.ensures.value in
    asked_at c.self.inside.values.items c.self.inside.names.items c.self.inside.entries.items c.args.self.now.kept c.args.i _ _ _ _ _ c.copy.result c.values_at.result.items view at named part

pub returns-in-OfReceipt : goal.returns-in-OfReceipt
returns-in-OfReceipt c =
    let view = ap (λ (v : NotesValue). v.kept) c.self.view_is in
    let long = same_long c.self.inside.values.items c.self.inside.names.items c.self.inside.entries.items c.args.self.now.kept view in
    let at = slice_get_read c.self.inside.entries.items _ c.args.i c.index.result.now refl (omega (arith, long, c.requires)) c.index.ensures ∙ ap Some c.in-OfReceipt.is in
    let first = c.values_at-in-OfReceipt.ensures ∙ ap (λ vs. take c.in-OfReceipt.args (drop c.in-OfReceipt.start vs)) c.as_slice-values.ensures.value in
    let second = c.values_at-in-OfReceipt-2.ensures ∙ ap (λ vs. take c.in-OfReceipt.reply (drop (c.in-OfReceipt.start + c.in-OfReceipt.args) vs)) c.as_slice-values.ensures.value in
    got_at c.self.inside.values.items c.self.inside.names.items c.self.inside.entries.items c.args.self.now.kept c.args.i _ _ _ _ _ _ _
    c.values_at-in-OfReceipt.result.items c.values_at-in-OfReceipt-2.result.items view at first second
