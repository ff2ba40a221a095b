use Rattle.tl_budget.specs.Loops.{is_any, is_lock, is_emit}
use Rattle.tl_budget.proofs.WeightSums.{Summed, Around}
use Rattle.tl_budget.proofs.sums.total.Given as goal

abbrev pub invariant-loop-position : goal.invariant-loop-position
invariant-loop-position l = record {
  around : Around l.code.instrs l.position l.products;
  steps : Summed l.code.instrs is_any l.position l.totals.steps;
  locks : Summed l.code.instrs is_lock l.position l.totals.locks;
  emits : Summed l.code.instrs is_emit l.position l.totals.emits;
}
