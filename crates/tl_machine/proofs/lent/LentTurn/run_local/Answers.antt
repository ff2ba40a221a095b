use Rattle.tl_machine.proofs.TurnLemmas.{comes_turn, at_stop}
use Rattle.tl_machine.proofs.lent.LentTurn.run_local.Goals as goal

pub invariant_of-self : goal.invariant_of-self
invariant_of-self c =
    let i = c.self.invariant.0 in (
      record { parents = i.parents; from = i.to; to = comes_turn _ _ _ _ i.to (rw c.deref.ensures at c.run_local.ensures.follows) },
      rw c.deref.ensures at c.run_local.ensures.stop,
    )

pub returns-clause-run : goal.returns-clause-run
returns-clause-run c = record {
  follows = rw c.deref.ensures at c.run_local.ensures.follows;
  stop = at_stop _ c.self.invariant.0.parents _ _ (rw c.deref.ensures at c.run_local.ensures.stop);
}
