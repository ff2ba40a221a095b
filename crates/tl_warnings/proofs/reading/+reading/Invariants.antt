use Rattle.std.proofs.Common.{take}
use Rattle.tl_warnings.specs.Reading.{BlockReads}
use Rattle.tl_warnings.proofs.reading.+reading.Given as goal

abbrev pub invariant-block_reads-loop-statement : goal.invariant-block_reads-loop-statement
invariant-block_reads-loop-statement l = BlockReads l.value.0 (take l.statement-index l.statements) l.found
