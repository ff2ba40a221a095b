use Rattle.std.proofs.Common.{take}
use Rattle.tl_warnings.specs.Passing.{BlockPasses}
use Rattle.tl_warnings.proofs.passing.+passing.Given as goal

abbrev pub invariant-block_passes-loop-statement : goal.invariant-block_passes-loop-statement
invariant-block_passes-loop-statement l = BlockPasses l.node.0 l.before (take l.statement-index l.statements) l.state
