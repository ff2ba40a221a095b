-- The code of numbers and conditions. Each function puts code in front of the code k that follows it. A label is the
-- number of instructions from a position to the end. t is the first free value register, and f the label to which a
-- failure leads.
use Rattle.std.specs.Prelude.{ℕ, List, ◌∷◌, Bool, true, false, not, is_some, length, if◌then◌else◌}
use Rattle.tl_instr.specs.declared.instr.Instr.{Instr}
use Rattle.tl_instr.specs.declared.instr.Instr.TheVariants as I
use Rattle.tl_syntax.specs.declared.operator.Operator.{Operator}
use Rattle.tl_syntax.specs.declared.operator.Operator.TheVariants as O
use Rattle.tl_lowering.specs.declared.program.Expression.{Expression}
use Rattle.tl_lowering.specs.declared.program.Expression.TheVariants as E
use Rattle.tl_lowering.specs.declared.program.Condition.{Condition}
use Rattle.tl_lowering.specs.declared.program.Condition.TheVariants as C
pub use Rattle.tl_lowering.specs.Registers.{own_register, register_of, behind}
use Rattle.tl_compiler.specs.Labels.{target_of}
use Rattle.tl_compiler.specs.declared.values.Test.{Test}
use Rattle.tl_compiler.specs.declared.values.Test.TheVariants as T

-- the instruction of an operation
abbrev pub calculation : Operator → ℕ → ℕ → ℕ → ℕ → Instr
calculation O.Add x y z f = I.Add x y z (target_of f)
calculation O.Subtract x y z f = I.Subtract x y z (target_of f)
calculation O.Multiply x y z f = I.Multiply x y z (target_of f)
calculation O.Divide x y z f = I.Divide x y z (target_of f)

-- an operand needs no code if it is a value
abbrev pub unless_value : Expression → (List Instr → List Instr) → List Instr → List Instr
unless_value e code k = if is_some (own_register e) then k else code k

-- computes a number into the register x
abbrev pub into_code : Expression → ℕ → ℕ → ℕ → List Instr → List Instr
into_code (E.Constant w) x t f k = I.Set x w ∷ k
into_code (E.Value y) x t f k = I.Copy x y ∷ k
into_code (E.Field n z) x t f k = I.Get x n z ∷ k
into_code (E.Children n) x t f k = I.Kids x n ∷ k
into_code (E.Calculated' o p a q b) x t f k =
    unless_value a (into_code a t t f)
    (unless_value b (into_code b (behind a t) (behind a t) f)
    (calculation o x (register_of a t) (register_of b (behind a t)) f ∷ k))

-- computes an operand, unless it is a value
abbrev pub operand_code : Expression → ℕ → ℕ → List Instr → List Instr
operand_code e t f k = unless_value e (into_code e t t f) k

-- computes two operands, the second one in a register after the first
abbrev pub operands_code : Expression → Expression → ℕ → ℕ → List Instr → List Instr
operands_code a b t f k = operand_code a t f (operand_code b (behind a t) f k)

-- goes to the label if the instruction jumps; if `sense` is false, it goes there if the instruction doesn't jump
abbrev pub jump_code : (ℕ → Instr) → Bool → ℕ → List Instr → List Instr
jump_code jump true label k = jump (target_of label) ∷ k
jump_code jump false label k = jump (target_of (length k)) ∷ I.Jump (target_of label) ∷ k

-- a comparison, given its instruction as a function of both operands' registers and a target
abbrev pub comparison_code : (ℕ → ℕ → ℕ → Instr) → Expression → Expression → Bool → ℕ → ℕ → ℕ → List Instr → List Instr
comparison_code jump a b sense label t f k =
    operands_code a b t f (jump_code (jump (register_of a t) (register_of b (behind a t))) sense label k)

-- the instruction that jumps to a target if a test of two registers is true
abbrev pub test_jump : Test → ℕ → ℕ → ℕ → Instr
test_jump T.Less x y l = I.JumpIfLess x y l
test_jump T.Equal x y l = I.JumpIfEqual x y l

-- goes to the label if the condition has the value `sense`, otherwise on
abbrev pub branch_code : Condition → Bool → ℕ → ℕ → ℕ → List Instr → List Instr
branch_code (C.Less a b) sense label t f k = comparison_code (λ x y l. I.JumpIfLess x y l) a b sense label t f k
branch_code (C.Greater a b) sense label t f k = comparison_code (λ x y l. I.JumpIfLess y x l) a b sense label t f k
branch_code (C.Equal a b) sense label t f k = comparison_code (λ x y l. I.JumpIfEqual x y l) a b sense label t f k
branch_code (C.Not' p c) sense label t f k = branch_code c (not sense) label t f k
branch_code (C.And' p c q d) sense label t f k =
    branch_code c false (if sense then length k else label) t f (branch_code d sense label t f k)
