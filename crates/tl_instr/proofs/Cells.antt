-- The instruction that is read from a cell is the one that has this cell, if there is one.
use Rattle.std.proofs.Common.{◌≡◌, ◌≢◌, ℕ, ◌<◌, ◌≤◌, ◌^◌, Bool, true, eqb, ◌&&◌, not, Option, Some, None, refl, sym, ◌∙◌, ap, arith}
use Rattle.std.specs.Prelude.{IfSome, IsSomeAnd}
use Rattle.std.specs.Int.{w32}
use Rattle.std.proofs.lemmas.Bool.{lt-ltb, eq-eqb, false≢true}
use Rattle.std.proofs.lemmas.Int.{to_z-of_z}
use Rattle.tl_width.specs.Fields.{field_count}
use Rattle.tl_instr.specs.declared.operand.TheConstants.{VALUE_REGISTERS, NODE_REGISTERS}
use Rattle.tl_instr.specs.declared.cell.Cell.{Cell}
use Rattle.tl_instr.specs.declared.version.Version.{Version}
use Rattle.tl_instr.specs.declared.instr.Instr.{Instr}
use Rattle.tl_instr.specs.declared.instr.Instr.TheVariants.{Set, Copy, Add, Subtract, Multiply, Divide, Jump, JumpIfLess, JumpIfEqual, Repeat, RepeatBy, End, First, Child, Move, Release, Get, Put, Kids, Emit, Return}
use Rattle.tl_instr.specs.Instructions.{IsInstr}
use Rattle.tl_instr.specs.Spelling.{cell_of}
use Rattle.tl_instr.specs.Reading.{below, set_in, copy_in, add_in, subtract_in, multiply_in, divide_in, jump_in, jump_if_less_in, jump_if_equal_in, repeat_in, repeat_by_in, first_in, child_in, move_in, release_in, get_in, put_in, kids_in, emit_in, instr_in}

below_is : (limit n : ℕ) → n < limit → below limit n ≡ Some n
below_is limit n lt = rw (lt-ltb n limit lt) refl

-- from an instruction's cell that instruction is read
pub instr_in-cell_of : (v : Version) (count : ℕ) (i : Instr) → count < 2 ^ 16 → IsInstr v count i → instr_in (cell_of i) ≡ Some i
unfolding instr_in set_in copy_in add_in subtract_in multiply_in divide_in jump_in jump_if_less_in jump_if_equal_in repeat_in repeat_by_in first_in child_in move_in release_in get_in put_in kids_in emit_in
instr_in-cell_of v count (Set to number) lt h =
    rw (below_is VALUE_REGISTERS to h.in_range.0, to_z-of_z w32 number h.in_range.1) refl
instr_in-cell_of v count (Copy to from) lt h = rw (below_is VALUE_REGISTERS to h.in_range.0, below_is VALUE_REGISTERS from h.in_range.1) refl
instr_in-cell_of v count (Add to left right otherwise) lt h = rw (below_is VALUE_REGISTERS to h.in_range.0, below_is VALUE_REGISTERS left h.in_range.1, below_is VALUE_REGISTERS right h.in_range.2, below_is (2 ^ 16) otherwise (omega (arith, h.goes_within))) refl
instr_in-cell_of v count (Subtract to left right otherwise) lt h = rw (below_is VALUE_REGISTERS to h.in_range.0, below_is VALUE_REGISTERS left h.in_range.1, below_is VALUE_REGISTERS right h.in_range.2, below_is (2 ^ 16) otherwise (omega (arith, h.goes_within))) refl
instr_in-cell_of v count (Multiply to left right otherwise) lt h = rw (below_is VALUE_REGISTERS to h.in_range.0, below_is VALUE_REGISTERS left h.in_range.1, below_is VALUE_REGISTERS right h.in_range.2, below_is (2 ^ 16) otherwise (omega (arith, h.goes_within))) refl
instr_in-cell_of v count (Divide to left right otherwise) lt h = rw (below_is VALUE_REGISTERS to h.in_range.0, below_is VALUE_REGISTERS left h.in_range.1, below_is VALUE_REGISTERS right h.in_range.2, below_is (2 ^ 16) otherwise (omega (arith, h.goes_within))) refl
instr_in-cell_of v count (Jump to) lt h = rw (below_is (2 ^ 16) to (omega (arith, h.goes_within))) refl
instr_in-cell_of v count (JumpIfLess left right to) lt h = rw (below_is VALUE_REGISTERS left h.in_range.0, below_is VALUE_REGISTERS right h.in_range.1, below_is (2 ^ 16) to (omega (arith, h.goes_within))) refl
instr_in-cell_of v count (JumpIfEqual left right to) lt h = rw (below_is VALUE_REGISTERS left h.in_range.0, below_is VALUE_REGISTERS right h.in_range.1, below_is (2 ^ 16) to (omega (arith, h.goes_within))) refl
instr_in-cell_of v many (Repeat count) lt h = rw (below_is (2 ^ 16) count h.in_range) refl
instr_in-cell_of v many (RepeatBy turns count) lt h = rw (below_is VALUE_REGISTERS turns h.in_range.0, below_is (2 ^ 16) count h.in_range.1) refl
instr_in-cell_of v count End lt h = refl
instr_in-cell_of v count (First to number otherwise) lt h = rw (below_is NODE_REGISTERS to h.in_range.0, below_is VALUE_REGISTERS number h.in_range.1, below_is (2 ^ 16) otherwise (omega (arith, h.goes_within))) refl
instr_in-cell_of v count (Child to parent number otherwise) lt h = rw (below_is NODE_REGISTERS to h.in_range.0, below_is NODE_REGISTERS parent h.in_range.1, below_is VALUE_REGISTERS number h.in_range.2, below_is (2 ^ 16) otherwise (omega (arith, h.goes_within))) refl
instr_in-cell_of v count (Move to from) lt h = rw (below_is NODE_REGISTERS to h.in_range.0, below_is NODE_REGISTERS from h.in_range.1) refl
instr_in-cell_of v count (Release node) lt h = rw (below_is NODE_REGISTERS node h.in_range) refl
instr_in-cell_of v count (Get to node field) lt h = rw (below_is VALUE_REGISTERS to h.in_range.0, below_is NODE_REGISTERS node h.in_range.1, below_is field_count field h.in_range.2) refl
instr_in-cell_of v count (Put node field from) lt h = rw (below_is NODE_REGISTERS node h.in_range.0, below_is field_count field h.in_range.1, below_is VALUE_REGISTERS from h.in_range.2) refl
instr_in-cell_of v count (Kids to node) lt h = rw (below_is VALUE_REGISTERS to h.in_range.0, below_is NODE_REGISTERS node h.in_range.1) refl
instr_in-cell_of v count (Emit from) lt h = rw (below_is VALUE_REGISTERS from h.in_range) refl
instr_in-cell_of v count Return lt h = refl

-- if nothing is read from a cell, no instruction has it
pub none_has : (v : Version) (count : ℕ) (c : Cell) → count < 2 ^ 16 → instr_in c ≡ None → (i : Instr) → IsInstr v count i → cell_of i ≢ c
none_has v count c lt none i h e =
    let some : instr_in c ≡ Some i = ap instr_in (sym e) ∙ instr_in-cell_of v count i lt h in
    cc

-- if j is read from a cell, no other instruction has it
pub no_other_has : (v : Version) (count : ℕ) (c : Cell) (j : Instr) → count < 2 ^ 16 → instr_in c ≡ Some j → (i : Instr) → IsInstr v count i → cell_of i ≡ c → i ≡ j
no_other_has v count c j lt named i h e =
    let some : instr_in c ≡ Some i = ap instr_in (sym e) ∙ instr_in-cell_of v count i lt h in
    cc

same_tests : (a b : Cell) → a ≡ b → (eqb a.opcode b.opcode && (eqb a.x b.x && (eqb a.y b.y && (eqb a.z b.z && eqb a.w b.w)))) ≡ true
same_tests a b e =
    rw (eq-eqb a.opcode b.opcode (ap (λ (c : Cell). c.opcode) e), eq-eqb a.x b.x (ap (λ (c : Cell). c.x) e), eq-eqb a.y b.y (ap (λ (c : Cell). c.y) e), eq-eqb a.z b.z (ap (λ (c : Cell). c.z) e), eq-eqb a.w b.w (ap (λ (c : Cell). c.w) e)) refl

-- `!=` is false for equal cells
pub never_differ : (a b : Cell) (r : Bool) → r ≡ not (eqb a.opcode b.opcode && (eqb a.x b.x && (eqb a.y b.y && (eqb a.z b.z && eqb a.w b.w)))) → r ≡ true → a ≡ b → ⊥
never_differ a b r is differs e = false≢true (sym (is ∙ ap not (same_tests a b e)) ∙ differs)

pub within_or_beyond : (o : Option ℕ) (n : ℕ) → IfSome o (λ t. t ≤ n) → IsSomeAnd o (λ t. n < t) → ⊥
within_or_beyond None n within beyond = beyond
within_or_beyond (Some t) n within beyond = omega arith
