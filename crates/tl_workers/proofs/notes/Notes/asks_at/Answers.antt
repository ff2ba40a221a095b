use Rattle.std.proofs.Common.{◌∙◌, ap, arith, refl}
use Rattle.std.specs.Prelude.{Some}
use Rattle.std.proofs.lemmas.Bool.{eqb-true}
use Rattle.std.proofs.lemmas.Option.{slice_get_read}
use Rattle.tl_workers.specs.Noted.{NotesValue}
use Rattle.tl_workers.proofs.Notings.{same_long, asks_call, asks_other, asks_none}
use Rattle.tl_workers.proofs.notes.Notes.asks_at.Goals as goal

pub index-requires : goal.index-requires
index-requires c =
    let long = same_long c.self.inside.values.items c.self.inside.names.items c.self.inside.entries.items c.args.self.now.kept (ap (λ (v : NotesValue). v.kept) c.self.view_is) in
    omega (arith, long, c.requires, c.self.inside.entries.ok)

pub returns-then-its_epoch-epoch : goal.returns-then-its_epoch-epoch
returns-then-its_epoch-epoch c =
    let view = ap (λ (v : NotesValue). v.kept) c.self.view_is in
    let long = same_long c.self.inside.values.items c.self.inside.names.items c.self.inside.entries.items c.args.self.now.kept view in
    let at = slice_get_read c.self.inside.entries.items _ c.args.i c.index.result.now refl (omega (arith, long, c.requires)) c.index.ensures ∙ ap Some c.in-OfCall.is in
    asks_call c.self.inside.values.items c.self.inside.names.items c.self.inside.entries.items c.args.self.now.kept c.args.i _ _ _ _ _ view at c.args.epoch c.args.call c.if-its_epoch-epoch.true

pub returns-else-its_epoch-epoch : goal.returns-else-its_epoch-epoch
returns-else-its_epoch-epoch c =
    let view = ap (λ (v : NotesValue). v.kept) c.self.view_is in
    let long = same_long c.self.inside.values.items c.self.inside.names.items c.self.inside.entries.items c.args.self.now.kept view in
    let at = slice_get_read c.self.inside.entries.items _ c.args.i c.index.result.now refl (omega (arith, long, c.requires)) c.index.ensures ∙ ap Some c.in-OfCall.is in (
      (λ t. absurd (c.if-its_epoch-epoch.false (eqb-true _ _ t))),
      (λ h. absurd (asks_other c.self.inside.values.items c.self.inside.names.items c.self.inside.entries.items c.args.self.now.kept c.args.i _ _ _ _ _ view at c.args.epoch c.args.call c.if-its_epoch-epoch.false h)),
    )

pub returns-in-OfReceipt : goal.returns-in-OfReceipt
returns-in-OfReceipt c =
    let view = ap (λ (v : NotesValue). v.kept) c.self.view_is in
    let long = same_long c.self.inside.values.items c.self.inside.names.items c.self.inside.entries.items c.args.self.now.kept view in
    let at = slice_get_read c.self.inside.entries.items _ c.args.i c.index.result.now refl (omega (arith, long, c.requires)) c.index.ensures ∙ ap Some c.in-OfReceipt.is in (
      (λ t. absurd (let e : ⊥ = cc in e)),
      (λ h. absurd (asks_none c.self.inside.values.items c.self.inside.names.items c.self.inside.entries.items c.args.self.now.kept c.args.i _ _ _ _ _ _ _ view at c.args.epoch c.args.call h)),
    )
