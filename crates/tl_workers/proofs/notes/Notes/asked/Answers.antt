use Rattle.std.proofs.Common.{◌≡◌, ◌∙◌, ◌++◌, ◌∷◌, [], ap, length, length-append, arith}
use Rattle.tl_workers.specs.Noted.{NotesValue}
use Rattle.tl_workers.specs.declared.session.Did.TheVariants.{Asked}
use Rattle.tl_workers.proofs.Notings.{asked_noted}
use Rattle.tl_workers.proofs.notes.Notes.asked.Goals as goal

pub invariant_of-self : goal.invariant_of-self
invariant_of-self c =
    let starts : c.len-start.result ≡ length c.self.inside.values.items = omega (arith, c.len-start.ensures, c.self.inside.values.ok.0) in
    let noted = asked_noted c.self.inside.values.items c.self.inside.names.items c.self.inside.entries.items c.args.asked.now c.place_of-name.result c.len-start.result c.as_slice-args.result.now
    c.append.new.values.items c.place_of-name.new.names.items c.push_reserved.new.self.items c.self.invariant.0 c.as_slice-args.ensures.fits c.as_slice-args.ensures.value starts c.append.ensures.values
    c.place_of-name.ensures.name c.push_reserved.ensures.items in
    let asks = ap (λ (v : NotesValue). v.asks) c.self.view_is in
    let values = ap length c.append.ensures.values ∙ length-append c.self.inside.values.items c.as_slice-args.result.now in
    let names = ap length c.place_of-name.ensures.name.kept ∙ length-append c.self.inside.names.items c.place_of-name.ensures.name.more in (
      noted.0,
      omega (arith, asks, c.requires, c.self.invariant.1, c.push_reserved.ensures.len, c.push_reserved.ensures.capacity, c.push_reserved.new.self.ok.0, c.self.inside.entries.ok.0),
      (omega (arith, asks, c.requires, c.self.invariant.2, values, c.as_slice-args.ensures.fits, c.append.ensures.room), omega (arith, asks, c.requires, c.self.invariant.2, values, c.as_slice-args.ensures.fits)),
      (omega (arith, asks, c.requires, c.self.invariant.3, names, c.place_of-name.ensures.name.few, c.place_of-name.ensures.room), omega (arith, asks, c.requires, c.self.invariant.3, names, c.place_of-name.ensures.name.few)),
    )

pub returns-clause-kept : goal.returns-clause-kept
returns-clause-kept c =
    let starts : c.len-start.result ≡ length c.self.inside.values.items = omega (arith, c.len-start.ensures, c.self.inside.values.ok.0) in
    let noted = asked_noted c.self.inside.values.items c.self.inside.names.items c.self.inside.entries.items c.args.asked.now c.place_of-name.result c.len-start.result c.as_slice-args.result.now
    c.append.new.values.items c.place_of-name.new.names.items c.push_reserved.new.self.items c.self.invariant.0 c.as_slice-args.ensures.fits c.as_slice-args.ensures.value starts c.append.ensures.values
    c.place_of-name.ensures.name c.push_reserved.ensures.items in
    noted.1 ∙ ap (λ (v : NotesValue). v.kept ++ Asked c.args.asked.now ∷ []) c.self.view_is
