use Rattle.tl_lowering.specs.Reading.{no_reason, reason}
use Rattle.tl_lowering.proofs.PathLemmas.{ok_more}
use Rattle.tl_lowering.proofs.lowering.Lowering.reason.Goals as goal

pub returns-in-Some-clause-named : goal.returns-in-Some-clause-named
returns-in-Some-clause-named c = rw c.in-Some.is (ok_more c.code.result _ _ c.code.ensures.named (λ e h. reason h))

pub returns-in-None-clause-named : goal.returns-in-None-clause-named
returns-in-None-clause-named c = rw c.in-None.is no_reason
