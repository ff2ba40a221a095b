-- The bytes of a container. Each code has exactly one encoding.
use Rattle.std.specs.Prelude.{◌≡◌, ℕ, List, [], ◌∷◌, ◌++◌, length}
use Rattle.std.specs.List.{flat_map}
use Rattle.std.specs.Int.{w16, w32, cast_unsigned, to_be_bytes}
use Rattle.tl_instr.specs.declared.cell.Cell.{Cell}
use Rattle.tl_instr.specs.declared.version.Version.{Version}
use Rattle.tl_instr.specs.Versions.{magic}
use Rattle.tl_instr.specs.declared.instr.Instr.{Instr}
use Rattle.tl_instr.specs.declared.instr.Instr.TheVariants.{Set, Copy, Add, Subtract, Multiply, Divide, Jump, JumpIfLess, JumpIfEqual, Repeat, RepeatBy, End, First, Child, Move, Release, Get, Put, Kids, Emit, Return}
use Rattle.tl_instr.specs.Codes.{CodeValue, IsCode}

abbrev pub cell : ℕ → ℕ → ℕ → ℕ → ℕ → Cell
cell opcode x y z w = record { opcode = opcode; x = x; y = y; z = z; w = w }

-- the cell of an instruction: a register, a field or a target is encoded as its number, and unused operands are 0
abbrev pub cell_of : Instr → Cell
cell_of (Set to number) = cell 1 to 0 0 (cast_unsigned w32 number)
cell_of (Copy to from) = cell 2 to from 0 0
cell_of (Add to left right otherwise) = cell 3 to left right otherwise
cell_of (Subtract to left right otherwise) = cell 4 to left right otherwise
cell_of (Multiply to left right otherwise) = cell 5 to left right otherwise
cell_of (Divide to left right otherwise) = cell 6 to left right otherwise
cell_of (Jump to) = cell 7 0 0 0 to
cell_of (JumpIfLess left right to) = cell 8 left right 0 to
cell_of (JumpIfEqual left right to) = cell 9 left right 0 to
cell_of (Repeat count) = cell 10 0 0 0 count
cell_of (RepeatBy turns count) = cell 21 turns 0 0 count
cell_of End = cell 11 0 0 0 0
cell_of (First to number otherwise) = cell 12 to number 0 otherwise
cell_of (Child to parent number otherwise) = cell 13 to parent number otherwise
cell_of (Move to from) = cell 14 to from 0 0
cell_of (Release node) = cell 15 node 0 0 0
cell_of (Get to node field) = cell 16 to node field 0
cell_of (Put node field from) = cell 17 node field from 0
cell_of (Kids to node) = cell 18 to node 0 0
cell_of (Emit from) = cell 19 from 0 0 0
cell_of Return = cell 20 0 0 0 0

-- eight bytes: one each for the opcode, x, y and z, and four for w, the most significant first
abbrev pub cell_bytes : Cell → List ℕ
cell_bytes c = (c.opcode ∷ c.x ∷ c.y ∷ c.z ∷ []) ++ to_be_bytes w32 c.w

abbrev pub instr_bytes : Instr → List ℕ
instr_bytes i = cell_bytes (cell_of i)

abbrev pub header : Version → ℕ → ℕ → List ℕ
header version arity count = magic version ++ (arity ∷ 0 ∷ []) ++ to_be_bytes w16 count

abbrev pub spelling : CodeValue → List ℕ
spelling c = header c.version c.arity (length c.instrs) ++ flat_map instr_bytes c.instrs

-- the code is valid, and the bytes are its container
pub record Spelled (bytes : List ℕ) (c : CodeValue) : Type 0 where
  pub valid : IsCode c
  pub same : bytes ≡ spelling c
