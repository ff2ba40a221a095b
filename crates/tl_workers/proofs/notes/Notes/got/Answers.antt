use Rattle.std.proofs.Common.{◌≡◌, ◌∙◌, ◌++◌, ◌∷◌, [], ap, length, length-append, arith}
use Rattle.tl_workers.specs.Noted.{NotesValue}
use Rattle.tl_workers.specs.declared.session.Did.TheVariants.{Got}
use Rattle.tl_workers.proofs.Notings.{got_noted}
use Rattle.tl_workers.proofs.notes.Notes.got.Goals as goal

pub invariant_of-self : goal.invariant_of-self
invariant_of-self c =
    let starts : c.len-start.result ≡ length c.self.inside.values.items = omega (arith, c.len-start.ensures, c.self.inside.values.ok.0) in
    let noted = got_noted c.self.inside.values.items c.self.inside.names.items c.self.inside.entries.items c.args.receipt.now c.len-start.result c.as_slice-args.result.now c.as_slice-reply.result.now
    c.append.new.values.items c.append-2.new.values.items c.push_reserved.new.self.items c.self.invariant.0 c.as_slice-args.ensures.fits c.as_slice-reply.ensures.fits c.as_slice-args.ensures.value
    c.as_slice-reply.ensures.value starts c.append.ensures.values c.append-2.ensures.values c.push_reserved.ensures.items in
    let gots = ap (λ (v : NotesValue). v.gots) c.self.view_is in
    let first = ap length c.append.ensures.values ∙ length-append c.self.inside.values.items c.as_slice-args.result.now in
    let values = ap length c.append-2.ensures.values ∙ length-append c.append.new.values.items c.as_slice-reply.result.now in (
      noted.0,
      omega (arith, gots, c.requires, c.self.invariant.1, c.push_reserved.ensures.len, c.push_reserved.ensures.capacity, c.push_reserved.new.self.ok.0, c.self.inside.entries.ok.0),
      (
        omega (arith, gots, c.requires, c.self.invariant.2, first, values, c.as_slice-args.ensures.fits, c.as_slice-reply.ensures.fits, c.append.ensures.room, c.append-2.ensures.room),
        omega (arith, gots, c.requires, c.self.invariant.2, first, values, c.as_slice-args.ensures.fits, c.as_slice-reply.ensures.fits),
      ),
      c.self.invariant.3,
    )

pub returns-clause-kept : goal.returns-clause-kept
returns-clause-kept c =
    let starts : c.len-start.result ≡ length c.self.inside.values.items = omega (arith, c.len-start.ensures, c.self.inside.values.ok.0) in
    let noted = got_noted c.self.inside.values.items c.self.inside.names.items c.self.inside.entries.items c.args.receipt.now c.len-start.result c.as_slice-args.result.now c.as_slice-reply.result.now
    c.append.new.values.items c.append-2.new.values.items c.push_reserved.new.self.items c.self.invariant.0 c.as_slice-args.ensures.fits c.as_slice-reply.ensures.fits c.as_slice-args.ensures.value
    c.as_slice-reply.ensures.value starts c.append.ensures.values c.append-2.ensures.values c.push_reserved.ensures.items in
    noted.1 ∙ ap (λ (v : NotesValue). v.kept ++ Got c.args.receipt.now ∷ []) c.self.view_is
