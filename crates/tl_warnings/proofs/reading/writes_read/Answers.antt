use Rattle.std.proofs.Common.{arith}
use Rattle.tl_warnings.specs.Reading.{WritesRead, no_writes}
use Rattle.tl_warnings.proofs.ListLemmas.{taken_all}
use Rattle.tl_warnings.proofs.ReadingLemmas.{writes_more}
use Rattle.tl_warnings.proofs.reading.writes_read.Goals as goal

pub loop-write-init : goal.loop-write-init
loop-write-init c = no_writes

pub loop-write-preserved : goal.loop-write-preserved
loop-write-preserved c = writes_more c.args.writes.now c.loop-write.write-index c.write-item.result (omega arith) c.write-item.is c.loop-write.invariant c.reads-found.ensures

pub returns : goal.returns
returns c = taken_all (λ z. WritesRead c.args.value.0 z c.loop-write.found) c.args.writes.now c.loop-write.write-index (omega arith) c.loop-write.invariant
