use Rattle.tl_lowering.proofs.PathLemmas.{ok_more}
use Rattle.tl_lowering.proofs.WriteLemmas.{only_one, more_than_one}
use Rattle.tl_lowering.proofs.lowering.Lowering.writes.Goals as goal

pub returns-in-None-clause-named : goal.returns-in-None-clause-named
returns-in-None-clause-named c = ok_more c.write.result _ _ c.write.ensures.named (λ l h. only_one c.in-None.ensures.cases h)

pub returns-in-Some-clause-named : goal.returns-in-Some-clause-named
returns-in-Some-clause-named c = ok_more c.several_writes.result _ _ c.several_writes.ensures.named (λ l h. more_than_one c.in-Some.ensures.cases.0 h)
