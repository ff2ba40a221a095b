use Rattle.std.proofs.Common.{arith}
use Rattle.tl_lowering.specs.Paths.{nodes_of}
use Rattle.tl_lowering.proofs.LoopLemmas.{walk_of}
use Rattle.tl_lowering.proofs.OpeningLemmas.{visits_of}
use Rattle.tl_lowering.proofs.lowering.Lowering.visiting.Goals as goal

pub returns : goal.returns
returns c = record {
  named = visits_of c.in_ok-body.ensures c.in_ok-boxed.ensures c.in_ok-boxed-2.ensures c.in_ok-boxed-3.ensures c.in_ok-next.ensures.named c.in_ok-turn.ensures.named;
  walk =
      λ held in_loop at visit body.
      let v = c.args.visit in
      walk_of _ _ _ _ _ _ _ _ (nodes_of held) in_loop v.index v.child v.parent c.in_ok-next.next c.args.body c.in_ok-turn.turn
      c.in_ok-boxed-3.field-0.value c.in_ok-boxed-2.field-0.value c.in_ok-body.body.value c.in_ok-boxed.field-0.value
      c.in_ok-turn.ensures.pair c.in_ok-boxed-3.ensures c.in_ok-boxed-2.ensures c.in_ok-body.ensures c.in_ok-boxed.ensures
      visit.index visit.child (at.nodes v.child (omega arith)) visit.parent
      (c.in_ok-next.ensures.readable _ _ (omega arith) tt) c.in_ok-next.ensures.fails body.sound body.kept;
}
