use Rattle.std.proofs.Common.{◌≡◌, ◌++◌, length, take}
use Rattle.std.specs.List.{flat_map}
use Rattle.tl_instr.specs.Spelling.{header, instr_bytes}
use Rattle.tl_instr.proofs.container.spell.Given as goal

abbrev pub invariant-loop-instr : goal.invariant-loop-instr
invariant-loop-instr l =
    l.bytes.items ≡ header l.fn.version l.fn.arity (length l.instrs) ++ flat_map instr_bytes (take l.instr-index l.instrs)
