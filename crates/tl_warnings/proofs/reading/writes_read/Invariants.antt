use Rattle.std.proofs.Common.{take}
use Rattle.tl_warnings.specs.Reading.{WritesRead}
use Rattle.tl_warnings.proofs.reading.writes_read.Given as goal

abbrev pub invariant-loop-write : goal.invariant-loop-write
invariant-loop-write l = WritesRead l.value.0 (take l.write-index l.writes) l.found
