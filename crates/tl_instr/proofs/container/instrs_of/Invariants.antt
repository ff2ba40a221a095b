use Rattle.tl_instr.proofs.Walk.{Walked}
use Rattle.tl_instr.proofs.container.instrs_of.Given as goal

abbrev pub invariant-loop-position : goal.invariant-loop-position
invariant-loop-position l = Walked l.bytes l.version l.count l.position l.instrs.items
