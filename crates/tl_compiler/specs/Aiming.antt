-- From labels, which count from the end of a code, to positions, which count from its start.
use Rattle.std.specs.Prelude.{ℕ, ◌-◌, List, length, map, Option, Some, None}
use Rattle.tl_instr.specs.declared.instr.Instr.{Instr}
use Rattle.tl_instr.specs.Instructions.{target, with_target}

-- an instruction of a code of `count` instructions, with its label replaced by a position
abbrev pub at_label : ℕ → Instr → Option ℕ → Instr
at_label count i None = i
at_label count i (Some label) = with_target (count - label) i

abbrev pub aimed : ℕ → Instr → Instr
aimed count i = at_label count i (target i)

abbrev pub at_positions : List Instr → List Instr
at_positions code = map (aimed (length code)) code
