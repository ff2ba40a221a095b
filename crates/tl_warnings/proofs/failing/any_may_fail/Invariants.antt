use Rattle.std.proofs.Common.{take}
use Rattle.tl_warnings.specs.Failing.{AnyFails}
use Rattle.tl_warnings.proofs.failing.any_may_fail.Given as goal

abbrev pub invariant-loop-expression : goal.invariant-loop-expression
invariant-loop-expression l = AnyFails (take l.expression-index l.expressions) l.found
