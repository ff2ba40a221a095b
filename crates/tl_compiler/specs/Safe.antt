-- What the verifier requires of a code, apart from its sums.
use Rattle.std.specs.Prelude.{◌≡◌, ℕ, ◌<◌, List, Some, length, slice_get}
use Rattle.tl_instr.specs.declared.instr.Instr.{Instr}
use Rattle.tl_instr.specs.Instructions.{target}
use Rattle.tl_budget.specs.Loops.{Loop, IsAround}
use Rattle.tl_budget.specs.Nested.{IsNested}
use Rattle.tl_verify.specs.Acceptable.{HasFit}

-- Openings and ends match, and loops don't nest too deep. Jumps go forward, stay within the code and enter no loop. The registers fit.
pub record IsSafe (code : List Instr) : Type 0 where
  pub nested : IsNested code
  pub ahead : (p l : ℕ) (i : Instr) → slice_get code p ≡ Some i → target i ≡ Some l → p < l
  pub inside : (p l : ℕ) (i : Instr) → slice_get code p ≡ Some i → target i ≡ Some l → l < length code
  pub into_none : (p l : ℕ) (i : Instr) → slice_get code p ≡ Some i → target i ≡ Some l
      → (o : ℕ) (k : Loop) → IsAround code o k l → IsAround code o k p
  pub registers : HasFit code
