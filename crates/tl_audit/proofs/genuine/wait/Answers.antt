use Rattle.std.proofs.Common.{ap, ◌∙◌}
use Rattle.tl_audit.proofs.ReplayLemmas.{on_step}
use Rattle.tl_audit.proofs.genuine.wait.Goals as goal

pub loop-stop-preserved : goal.loop-stop-preserved
loop-stop-preserved c = record {
  parents = ap (λ v. v.parents) c.in-Did.ensures.same ∙ c.loop-stop.invariant.parents;
  on = λ t whole so_far start.
      on_step t whole so_far c.loop-stop.turn (c.loop-stop.invariant.on t whole so_far start) c.advance.new.self c.in-Did.ensures.same c.in-Did.field-0 c.in-Did.ensures.steps;
}
