use Rattle.std.proofs.Common.{take}
use Rattle.tl_warnings.specs.Walking.{AreWalks}
use Rattle.tl_warnings.proofs.walking.+walking.Given as goal

abbrev pub invariant-block_walks-loop-statement : goal.invariant-block_walks-loop-statement
invariant-block_walks-loop-statement l = AreWalks l.node.0 l.before l.initial.found.items (take l.statement-index l.statements) l.state l.found.items
