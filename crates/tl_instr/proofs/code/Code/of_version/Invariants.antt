use Rattle.std.proofs.Common.{take}
use Rattle.std.specs.List.{All}
use Rattle.tl_instr.specs.Instructions.{IsInstr}
use Rattle.tl_instr.proofs.code.Code.of_version.Given as goal

abbrev pub invariant-loop-position : goal.invariant-loop-position
invariant-loop-position l = All (IsInstr l.version l.count) (take l.position l.instrs.items)
