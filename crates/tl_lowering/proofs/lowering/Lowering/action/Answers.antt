use Rattle.tl_lowering.proofs.NumberLemmas.{emits_at}
use Rattle.tl_lowering.proofs.PathLemmas.{ok_more}
use Rattle.tl_lowering.proofs.WriteLemmas.{writes_at}
use Rattle.tl_lowering.proofs.lowering.Lowering.action.Goals as goal

pub returns-in-Emit-clause-named : goal.returns-in-Emit-clause-named
returns-in-Emit-clause-named c = rw c.in-Emit.is (ok_more c.emit.result _ _ c.emit.ensures.named (λ l h plain. emits_at c.in-Emit.values c.deref-in-Emit.ensures.value h))

pub returns-in-Write-clause-named : goal.returns-in-Write-clause-named
returns-in-Write-clause-named c = rw c.in-Write.is (ok_more c.writes.result _ _ c.writes.ensures.named (λ l h plain. writes_at c.in-Write.others c.deref.ensures.value h))
