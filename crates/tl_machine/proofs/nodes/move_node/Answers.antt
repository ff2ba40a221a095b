use Rattle.std.proofs.Common.{rules, refl, arith, append-nil, sym}
use Rattle.std.specs.Prelude.{slice_set, None}
use Rattle.tl_machine.proofs.GetAndPut.{move_is, counted_set, counted_none}
use Rattle.tl_machine.proofs.nodes.move_node.Goals as goal

pub returns : goal.returns
returns c parents t =
    let old = c.args.call.now in
    let h = c.requires.node in
    let e = move_is parents old t c.args.at.now.position c.args.from h.0 h.1 c.requires.distinct c.args.to c.requires.empty (search rules) in
    rw (e, c.go_to.ensures, c.index.ensures.same, c.index-2.ensures.same, c.index-3.ensures.same, h.1)
    (record { act = refl; to = refl; state = refl; counters = refl; goes_on = refl; steps = refl; node_count = refl; counted = λ ps k. counted_set ps (slice_set old.nodes c.args.from None) c.args.to h.0 (counted_none ps old.nodes c.args.from k) (k.each c.args.from h.0 h.1); emits = omega arith; reply = sym (append-nil _) })
