use Rattle.tl_verify.specs.Known.{AheadTo}
use Rattle.tl_verify.proofs.jumps.jumps.Given as goal

abbrev pub invariant-loop-position : goal.invariant-loop-position
invariant-loop-position l = AheadTo l.code l.position
