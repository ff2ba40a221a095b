use Rattle.std.proofs.Common.{take}
use Rattle.tl_warnings.specs.Reading.{AnyReads}
use Rattle.tl_warnings.proofs.reading.any_reads.Given as goal

abbrev pub invariant-loop-expression : goal.invariant-loop-expression
invariant-loop-expression l = AnyReads l.value.0 (take l.expression-index l.expressions) l.found
