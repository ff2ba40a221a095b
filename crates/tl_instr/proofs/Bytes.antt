-- Different cells have different bytes.
use Rattle.std.proofs.Common.{◌≡◌, ◌≢◌, ℕ, ◌<◌, ◌^◌, List, drop, get_or, refl, sym, ◌∙◌, ap, arith}
use Rattle.std.specs.Int.{w32, from_be_bytes}
use Rattle.std.proofs.lemmas.Nat.{from_be_bytes-to_be_bytes_4}
use Rattle.std.proofs.Math.Facts.{Fits-of_z}
use Rattle.tl_instr.specs.declared.cell.Cell.{Cell}
use Rattle.tl_instr.specs.declared.version.Version.{Version}
use Rattle.tl_instr.specs.declared.instr.Instr.{Instr}
use Rattle.tl_instr.specs.declared.instr.Instr.TheVariants.{Set, Copy, Add, Subtract, Multiply, Divide, Jump, JumpIfLess, JumpIfEqual, Repeat, RepeatBy, End, First, Child, Move, Release, Get, Put, Kids, Emit, Return}
use Rattle.tl_instr.specs.Instructions.{IsInstr}
use Rattle.tl_instr.specs.Faults.{IsCell}
use Rattle.tl_instr.specs.Spelling.{cell, cell_of, cell_bytes, instr_bytes}
use Rattle.tl_instr.proofs.Cells.{instr_in-cell_of}
use Rattle.tl_instr.specs.Reading.{instr_in}

-- a cell's last operand fits 32 bits
pub w_fits : (v : Version) (count : ℕ) (i : Instr) → count < 2 ^ 16 → IsInstr v count i → (cell_of i).w < 2 ^ 32
w_fits v count (Set to number) lt h = (Fits-of_z h.in_range.1).fits
w_fits v count (Copy to from) lt h = omega arith
w_fits v count (Add to left right otherwise) lt h = omega (arith, h.goes_within)
w_fits v count (Subtract to left right otherwise) lt h = omega (arith, h.goes_within)
w_fits v count (Multiply to left right otherwise) lt h = omega (arith, h.goes_within)
w_fits v count (Divide to left right otherwise) lt h = omega (arith, h.goes_within)
w_fits v count (Jump to) lt h = omega (arith, h.goes_within)
w_fits v count (JumpIfLess left right to) lt h = omega (arith, h.goes_within)
w_fits v count (JumpIfEqual left right to) lt h = omega (arith, h.goes_within)
w_fits v many (Repeat count) lt h = omega (arith, h.in_range)
w_fits v many (RepeatBy turns count) lt h = omega (arith, h.in_range.1)
w_fits v count End lt h = omega arith
w_fits v count (First to number otherwise) lt h = omega (arith, h.goes_within)
w_fits v count (Child to parent number otherwise) lt h = omega (arith, h.goes_within)
w_fits v count (Move to from) lt h = omega arith
w_fits v count (Release node) lt h = omega arith
w_fits v count (Get to node field) lt h = omega arith
w_fits v count (Put node field from) lt h = omega arith
w_fits v count (Kids to node) lt h = omega arith
w_fits v count (Emit from) lt h = omega arith
w_fits v count Return lt h = omega arith

pub same_cell : (a b : Cell) → a.w < 2 ^ 32 → b.w < 2 ^ 32 → cell_bytes a ≡ cell_bytes b → a ≡ b
same_cell a b la lb e =
    let opcodes : a.opcode ≡ b.opcode = ap (λ (l : List ℕ). get_or l 0 0) e in
    let xs : a.x ≡ b.x = ap (λ (l : List ℕ). get_or l 1 0) e in
    let ys : a.y ≡ b.y = ap (λ (l : List ℕ). get_or l 2 0) e in
    let zs : a.z ≡ b.z = ap (λ (l : List ℕ). get_or l 3 0) e in
    let ws : a.w ≡ b.w = sym (from_be_bytes-to_be_bytes_4 a.w la) ∙ ap (λ (l : List ℕ). from_be_bytes w32 (drop 4 l)) e ∙ from_be_bytes-to_be_bytes_4 b.w lb in
    let parts : cell a.opcode a.x a.y a.z a.w ≡ cell b.opcode b.x b.y b.z b.w = rw (opcodes, xs, ys, zs, ws) refl in
    parts

-- two instructions of a code with the same bytes are the same
pub same_instr : (v : Version) (count : ℕ) (i j : Instr) → count < 2 ^ 16 → IsInstr v count i → IsInstr v count j → instr_bytes i ≡ instr_bytes j → i ≡ j
same_instr v count i j lt h k e =
    let cells : cell_of i ≡ cell_of j = same_cell (cell_of i) (cell_of j) (w_fits v count i lt h) (w_fits v count j lt k) e in
    let some : instr_in (cell_of i) ≡ instr_in (cell_of j) = ap instr_in cells in
    let left = instr_in-cell_of v count i lt h in
    let right = instr_in-cell_of v count j lt k in
    cc

-- if no instruction has this cell, no instruction has its bytes
pub no_cell : (v : Version) (count : ℕ) (c : Cell) (bytes : List ℕ) → count < 2 ^ 16 → c.w < 2 ^ 32 → cell_bytes c ≡ bytes → ((i : Instr) → IsInstr v count i → cell_of i ≢ c) → IsCell v count bytes → ⊥
no_cell v count c bytes lt fits e none has =
    none has.0 has.1 (same_cell (cell_of has.0) c (w_fits v count has.0 lt has.1) fits (has.2 ∙ sym e))
