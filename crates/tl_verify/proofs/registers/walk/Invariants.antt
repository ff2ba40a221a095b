use Rattle.tl_verify.specs.Known.{Known, ClearTo}
use Rattle.tl_verify.proofs.registers.walk.Given as goal

abbrev pub invariant-loop-position : goal.invariant-loop-position
invariant-loop-position l = Known l.code l.position l.states × ClearTo l.code l.position
