use Rattle.std.proofs.Common.{arith}
use Rattle.tl_warnings.specs.Failing.{WritesFail, no_writes}
use Rattle.tl_warnings.proofs.ListLemmas.{taken_all}
use Rattle.tl_warnings.proofs.FailingLemmas.{writes_more}
use Rattle.tl_warnings.proofs.failing.writes_may_fail.Goals as goal

pub loop-write-init : goal.loop-write-init
loop-write-init c = no_writes

pub loop-write-preserved : goal.loop-write-preserved
loop-write-preserved c = writes_more c.args.writes.now c.loop-write.write-index c.write-item.result (omega arith) c.write-item.is c.loop-write.invariant c.change_may_fail-found.ensures

pub returns : goal.returns
returns c = taken_all (λ z. WritesFail z c.loop-write.found) c.args.writes.now c.loop-write.write-index (omega arith) c.loop-write.invariant
