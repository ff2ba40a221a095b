use Rattle.std.proofs.Common.{arith}
use Rattle.tl_warnings.specs.Failing.{AnyFails, no_numbers}
use Rattle.tl_warnings.proofs.ListLemmas.{taken_all}
use Rattle.tl_warnings.proofs.FailingLemmas.{any_more}
use Rattle.tl_warnings.proofs.failing.any_may_fail.Goals as goal

pub loop-expression-init : goal.loop-expression-init
loop-expression-init c = no_numbers

pub loop-expression-preserved : goal.loop-expression-preserved
loop-expression-preserved c = any_more c.args.expressions.now c.loop-expression.expression-index c.expression-item.result (omega arith) c.expression-item.is c.loop-expression.invariant c.may_fail-found.ensures

pub returns : goal.returns
returns c = taken_all (λ z. AnyFails z c.loop-expression.found) c.args.expressions.now c.loop-expression.expression-index (omega arith) c.loop-expression.invariant
