use Rattle.std.proofs.Common.{take}
use Rattle.tl_sources.specs.Given.{GiveAll}
use Rattle.tl_sources.proofs.given.all_given.Given as goal

abbrev pub invariant-loop-number : goal.invariant-loop-number
invariant-loop-number l = GiveAll (take l.number l.files) l.all.items
