-- The code of numbers, conditions and frees is put in front of the code after it.
use Rattle.std.proofs.Common.{◌≡◌, ℕ, suc, List, ◌∷◌, length, refl, Bool, true, false, not, if◌then◌else◌, zero}
use Rattle.tl_instr.specs.declared.instr.Instr.{Instr}
use Rattle.tl_instr.specs.declared.instr.Instr.TheVariants as I
use Rattle.tl_budget.specs.Loops.{Acts, kind}
use Rattle.tl_syntax.specs.declared.operator.Operator.{Operator}
use Rattle.tl_syntax.specs.declared.operator.Operator.TheVariants as O
use Rattle.tl_lowering.specs.declared.program.Expression.{Expression}
use Rattle.tl_lowering.specs.declared.program.Expression.TheVariants as E
use Rattle.tl_compiler.specs.Labels.{target_of}
use Rattle.tl_compiler.specs.Numbers.{register_of, behind, calculation, into_code, operand_code, operands_code, jump_code, comparison_code, branch_code}
use Rattle.tl_lowering.specs.Sets.{Nodes, holds}
use Rattle.tl_compiler.specs.Tails.{Tail}
use Rattle.tl_compiler.proofs.Stretches.{Stretch, tail_of_stretch, stretch_whole, stretch_further, stretch_acts}
use Rattle.tl_lowering.specs.declared.program.Condition.{Condition}
use Rattle.tl_lowering.specs.declared.program.Condition.TheVariants as C
use Rattle.tl_compiler.specs.Statements.{release_below}

calculation_kind : (o : Operator) (x y z f : ℕ) → kind (calculation o x y z f) ≡ Acts
calculation_kind O.Add x y z f = refl
calculation_kind O.Subtract x y z f = refl
calculation_kind O.Multiply x y z f = refl
calculation_kind O.Divide x y z f = refl

unless_stretch : (e : Expression) → ((x t f : ℕ) (k : List Instr) → Stretch (into_code e x t f k) k) → (t f : ℕ) (k : List Instr) → Stretch (operand_code e t f k) k
unless_stretch (E.Constant w) into t f k = into t t f k
unless_stretch (E.Value y) into t f k = stretch_whole k
unless_stretch (E.Field n z) into t f k = into t t f k
unless_stretch (E.Children n) into t f k = into t t f k
unless_stretch (E.Calculated' o p a q b) into t f k = into t t f k

pub into_stretch : (e : Expression) (x t f : ℕ) (k : List Instr) → Stretch (into_code e x t f k) k
into_stretch (E.Constant w) x t f k = stretch_acts (I.Set x w) k refl
into_stretch (E.Value y) x t f k = stretch_acts (I.Copy x y) k refl
into_stretch (E.Field n z) x t f k = stretch_acts (I.Get x n z) k refl
into_stretch (E.Children n) x t f k = stretch_acts (I.Kids x n) k refl
into_stretch (E.Calculated' o p a q b) x t f k =
    let last = calculation o x (register_of a t) (register_of b (behind a t)) f ∷ k in
    stretch_further (unless_stretch a (into_stretch a) t f (operand_code b (behind a t) f last))
    (stretch_further (unless_stretch b (into_stretch b) (behind a t) f last) (stretch_acts (calculation o x (register_of a t) (register_of b (behind a t)) f) k (calculation_kind o x (register_of a t) (register_of b (behind a t)) f)))

pub operand_stretch : (e : Expression) (t f : ℕ) (k : List Instr) → Stretch (operand_code e t f k) k
operand_stretch e t f k = unless_stretch e (into_stretch e) t f k

pub operand_tail : (e : Expression) (t f : ℕ) (k : List Instr) → Tail (operand_code e t f k) k
operand_tail e t f k = tail_of_stretch (operand_stretch e t f k)

pub jump_stretch : (jump : ℕ → Instr) → ((l : ℕ) → kind (jump l) ≡ Acts) → (sense : Bool) (label : ℕ) (k : List Instr) → Stretch (jump_code jump sense label k) k
jump_stretch jump acts true label k = stretch_acts (jump (target_of label)) k (acts (target_of label))
jump_stretch jump acts false label k =
    stretch_further (stretch_acts (jump (target_of (length k))) (I.Jump (target_of label) ∷ k) (acts (target_of (length k)))) (stretch_acts (I.Jump (target_of label)) k refl)

pub operands_stretch : (a b : Expression) (t f : ℕ) (k : List Instr) → Stretch (operands_code a b t f k) k
operands_stretch a b t f k = stretch_further (operand_stretch a t f (operand_code b (behind a t) f k)) (operand_stretch b (behind a t) f k)

comparison_stretch : (jump : ℕ → ℕ → ℕ → Instr) → ((x y l : ℕ) → kind (jump x y l) ≡ Acts) → (a b : Expression) (sense : Bool) (label t f : ℕ) (k : List Instr) → Stretch (comparison_code jump a b sense label t f k) k
comparison_stretch jump acts a b sense label t f k =
    stretch_further (operands_stretch a b t f (jump_code (jump (register_of a t) (register_of b (behind a t))) sense label k))
    (jump_stretch (jump (register_of a t) (register_of b (behind a t))) (acts (register_of a t) (register_of b (behind a t))) sense label k)

pub branch_stretch : (d : Condition) (sense : Bool) (label t f : ℕ) (k : List Instr) → Stretch (branch_code d sense label t f k) k
branch_stretch (C.Less a b) sense label t f k = comparison_stretch (λ x y l. I.JumpIfLess x y l) (λ x y l. refl) a b sense label t f k
branch_stretch (C.Greater a b) sense label t f k = comparison_stretch (λ x y l. I.JumpIfLess y x l) (λ x y l. refl) a b sense label t f k
branch_stretch (C.Equal a b) sense label t f k = comparison_stretch (λ x y l. I.JumpIfEqual x y l) (λ x y l. refl) a b sense label t f k
branch_stretch (C.Not' p d) sense label t f k = branch_stretch d (not sense) label t f k
branch_stretch (C.And' p d q e) sense label t f k =
    stretch_further (branch_stretch d false (if sense then length k else label) t f (branch_code e sense label t f k)) (branch_stretch e sense label t f k)

pub branch_tail : (d : Condition) (sense : Bool) (label t f : ℕ) (k : List Instr) → Tail (branch_code d sense label t f k) k
branch_tail d sense label t f k = tail_of_stretch (branch_stretch d sense label t f k)

pub release_stretch : (n : ℕ) (set : Nodes) (k : List Instr) → Stretch (release_below n set k) k
release_stretch zero set k = stretch_whole k
release_stretch (suc n) set k = by (holds set n) (release_stretch n set k)
  where
    by : (b : Bool) → Stretch (release_below n set k) k → Stretch (if b then I.Release n ∷ release_below n set k else release_below n set k) k
    by true rest = stretch_further (stretch_acts (I.Release n) (release_below n set k) refl) rest
    by false rest = rest
