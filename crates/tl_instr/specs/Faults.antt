-- The faults of codes: their numbers, and which fault comes first.
use Rattle.std.specs.Prelude.{◌≡◌, ◌⊎◌, ℕ, ◌+◌, ◌*◌, ◌<◌, ◌≤◌, List, [], ◌∷◌, length, take, slice_index, slice_range, ◌==◌, if◌then◌else◌}
use Rattle.std.specs.Int.{w16, from_be_bytes}
use Rattle.tl_instr.specs.declared.fault.CodeFault.{CodeFault}
use Rattle.tl_instr.specs.declared.fault.CodeFault.TheVariants.{BadMagic, BadLength, BadOpcode, BadOperand, BadCount, BadArity, NotVersion1, Memory}
use Rattle.tl_instr.specs.declared.instr.Instr.{Instr}
use Rattle.tl_instr.specs.declared.version.Version.{Version}
use Rattle.tl_instr.specs.declared.version.Version.TheVariants.{One, Two}
use Rattle.tl_instr.specs.Versions.{magic, HasOpcode}
use Rattle.tl_instr.specs.Codes.{CodeValue, IsArity, IsCount, IsFirstRefused}
use Rattle.tl_instr.specs.Instructions.{IsInstr}
use Rattle.tl_instr.specs.Spelling.{cell_of, instr_bytes}

-- the fault's number, followed by its operands
abbrev pub numbers_of : CodeFault → List ℕ
numbers_of BadMagic = 201 ∷ []
numbers_of BadLength = 202 ∷ []
numbers_of (BadOpcode pc) = 203 ∷ pc ∷ []
numbers_of (BadOperand pc) = 204 ∷ pc ∷ []
numbers_of BadCount = 205 ∷ []
numbers_of BadArity = 206 ∷ []
numbers_of NotVersion1 = 207 ∷ []
numbers_of Memory = 290 ∷ []

-- The first fault of a code whose operands are in range. The arity is checked first, then the number of instructions,
-- then each instruction: the version must have its opcode and its field, and its target must be within the code.
abbrev pub IsFaultOf : CodeValue → CodeFault → Type 0
IsFaultOf c BadMagic = ⊥
IsFaultOf c BadLength = ⊥
IsFaultOf c (BadOpcode pc) = IsArity c.arity × IsCount (length c.instrs) × ((i : Instr) × IsFirstRefused c.version c.instrs pc i × ¬ HasOpcode c.version i)
IsFaultOf c (BadOperand pc) = IsArity c.arity × IsCount (length c.instrs) × ((i : Instr) × IsFirstRefused c.version c.instrs pc i × HasOpcode c.version i)
IsFaultOf c BadCount = IsArity c.arity × ¬ IsCount (length c.instrs)
IsFaultOf c BadArity = ¬ IsArity c.arity
IsFaultOf c NotVersion1 = ⊥
IsFaultOf c Memory = ⊥

-- ---- the parts of a container

-- the version that the fourth byte gives: the second if it is `2`, otherwise the first
abbrev pub version_at : List ℕ → Version
version_at bytes = if slice_index bytes 3 == 0x32 then Two else One

abbrev pub HasMagic : List ℕ → Type 0
HasMagic bytes = take 4 bytes ≡ magic (version_at bytes)

-- byte 4 is a valid arity, and byte 5 is 0
abbrev pub HasArity : List ℕ → Type 0
HasArity bytes = IsArity (slice_index bytes 4) × (slice_index bytes 5 ≡ 0)

abbrev pub count_at : List ℕ → ℕ
count_at bytes = from_be_bytes w16 (slice_range bytes 6 8)

abbrev pub HasLength : List ℕ → Type 0
HasLength bytes = length bytes ≡ 8 + 8 * count_at bytes

-- the eight bytes of the instruction at pc
abbrev pub cell_at : List ℕ → ℕ → List ℕ
cell_at bytes pc = slice_range bytes (8 + 8 * pc) (16 + 8 * pc)

-- n is an opcode of this version
abbrev pub IsOpcode : Version → ℕ → Type 0
IsOpcode version n = (i : Instr) × HasOpcode version i × ((cell_of i).opcode ≡ n)

-- the bytes encode a valid instruction for a code of this version and number of instructions
abbrev pub IsCell : Version → ℕ → List ℕ → Type 0
IsCell version count bytes = (i : Instr) × IsInstr version count i × (instr_bytes i ≡ bytes)

-- The magic, the arity and the count are valid, and the length is the one that the count requires.
pub record IsFramed (bytes : List ℕ) : Type 0 where
  pub magic : HasMagic bytes
  pub header : 8 ≤ length bytes
  pub arity : HasArity bytes
  pub count : IsCount (count_at bytes)
  pub size : HasLength bytes

abbrev pub opcode_at : List ℕ → ℕ → ℕ
opcode_at bytes pc = slice_index (cell_at bytes pc) 0

-- The cell at pc doesn't encode a valid instruction, and each cell before it does.
pub record IsFirstBad (bytes : List ℕ) (pc : ℕ) : Type 0 where
  pub framed : IsFramed bytes
  pub inside : pc < count_at bytes
  pub before : (k : ℕ) → k < pc → IsCell (version_at bytes) (count_at bytes) (cell_at bytes k)
  pub here : ¬ IsCell (version_at bytes) (count_at bytes) (cell_at bytes pc)

-- The first fault of bytes that aren't a container.
abbrev pub IsFirstFault : List ℕ → CodeFault → Type 0
IsFirstFault bytes BadMagic = ¬ HasMagic bytes
IsFirstFault bytes BadLength = HasMagic bytes × ((length bytes < 8) ⊎ ((8 ≤ length bytes) × HasArity bytes × IsCount (count_at bytes) × ¬ HasLength bytes))
IsFirstFault bytes BadArity = HasMagic bytes × (8 ≤ length bytes) × ¬ HasArity bytes
IsFirstFault bytes BadCount = HasMagic bytes × (8 ≤ length bytes) × HasArity bytes × ¬ IsCount (count_at bytes)
IsFirstFault bytes (BadOpcode pc) = IsFirstBad bytes pc × ¬ IsOpcode (version_at bytes) (opcode_at bytes pc)
IsFirstFault bytes (BadOperand pc) = IsFirstBad bytes pc × IsOpcode (version_at bytes) (opcode_at bytes pc)
IsFirstFault bytes NotVersion1 = ⊥
IsFirstFault bytes Memory = ⊥

-- the fault of the cell at pc, if the cells before it are disregarded
abbrev pub IsCellFault : List ℕ → ℕ → CodeFault → Type 0
IsCellFault bytes pc f = ¬ IsCell (version_at bytes) (count_at bytes) (cell_at bytes pc) × (((f ≡ BadOpcode pc) × ¬ IsOpcode (version_at bytes) (opcode_at bytes pc)) ⊎ ((f ≡ BadOperand pc) × IsOpcode (version_at bytes) (opcode_at bytes pc)))
