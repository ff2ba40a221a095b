use Rattle.std.proofs.Common.{take}
use Rattle.tl_warnings.specs.Failing.{WritesFail}
use Rattle.tl_warnings.proofs.failing.writes_may_fail.Given as goal

abbrev pub invariant-loop-write : goal.invariant-loop-write
invariant-loop-write l = WritesFail (take l.write-index l.writes) l.found
