use Rattle.tl_ready.proofs.PassSteps.{pops}
use Rattle.tl_ready.proofs.ready.Ready.pop.Goals as goal

pub pop_as-requires-clause-rule : goal.pop_as-requires-clause-rule
pop_as-requires-clause-rule g c = (pops _ _, λ items views b at. tt)
