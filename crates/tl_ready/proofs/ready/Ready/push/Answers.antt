use Rattle.tl_ready.proofs.PassSteps.{pushes}
use Rattle.tl_ready.proofs.ready.Ready.push.Goals as goal

pub push_as-requires-clause-rule : goal.push_as-requires-clause-rule
push_as-requires-clause-rule g c = (pushes _ _ _ _, λ items views b at. tt)
