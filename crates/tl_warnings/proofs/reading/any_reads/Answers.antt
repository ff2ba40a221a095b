use Rattle.std.proofs.Common.{arith}
use Rattle.tl_warnings.specs.Reading.{AnyReads, no_numbers}
use Rattle.tl_warnings.proofs.ListLemmas.{taken_all}
use Rattle.tl_warnings.proofs.ReadingLemmas.{any_more}
use Rattle.tl_warnings.proofs.reading.any_reads.Goals as goal

pub loop-expression-init : goal.loop-expression-init
loop-expression-init c = no_numbers

pub loop-expression-preserved : goal.loop-expression-preserved
loop-expression-preserved c = any_more c.args.expressions.now c.loop-expression.expression-index c.expression-item.result (omega arith) c.expression-item.is c.loop-expression.invariant c.reads-found.ensures

pub returns : goal.returns
returns c = taken_all (λ z. AnyReads c.args.value.0 z c.loop-expression.found) c.args.expressions.now c.loop-expression.expression-index (omega arith) c.loop-expression.invariant
