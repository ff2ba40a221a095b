-- Which parts of the language belong to which version.
use Rattle.std.specs.Prelude.{ℕ, ◌<◌, List, [], ◌∷◌, Bool, true, false}
use Rattle.tl_width.specs.Fields.{narrow_field_count}
use Rattle.tl_instr.specs.declared.version.Version.{Version}
use Rattle.tl_instr.specs.declared.version.Version.TheVariants.{One, Two}
use Rattle.tl_instr.specs.declared.instr.Instr.{Instr}
use Rattle.tl_instr.specs.declared.instr.Instr.TheVariants.{RepeatBy, Get, Put}

-- the bytes of `TLP1` and of `TLP2`
abbrev pub magic : Version → List ℕ
magic One = 0x54 ∷ 0x4C ∷ 0x50 ∷ 0x31 ∷ []
magic Two = 0x54 ∷ 0x4C ∷ 0x50 ∷ 0x32 ∷ []

-- the version has the instruction's opcode
abbrev pub HasOpcode : Version → Instr → Type 0
HasOpcode One (RepeatBy turns count) = ⊥
HasOpcode version i = Unit {0}

-- the version has the instruction: its opcode, and its field if it uses one
abbrev pub HasInstr : Version → Instr → Type 0
HasInstr One (RepeatBy turns count) = ⊥
HasInstr One (Get to node field) = field < narrow_field_count
HasInstr One (Put node field from) = field < narrow_field_count
HasInstr version i = Unit {0}
