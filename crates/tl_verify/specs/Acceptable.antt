-- Which codes are accepted.
use Rattle.std.specs.Prelude.{◌≡◌, ℕ, ◌<◌, ◌≤◌, List, true, false, Option, Some, None, length, slice_get, get_or}
use Rattle.tl_instr.specs.declared.instr.Instr.{Instr}
use Rattle.tl_instr.specs.Instructions.{target}
use Rattle.tl_budget.specs.Loops.{Loop, Matched, IsAround, around, budget, lock_bound, emit_bound}
use Rattle.tl_budget.specs.declared.limits.TheConstants.{MAX_DEPTH, MAX_STEPS, MAX_LOCKS, MAX_EMITS}
use Rattle.tl_verify.specs.declared.marks.Marks.{Marks}
use Rattle.tl_verify.specs.Marks.{is_held, entry, source, destination, is_first, is_return, Leads}

-- the registers are as the instruction requires
pub record Allows (i : Instr) (m : Marks) : Type 0 where
  pub held : (n : ℕ) → source i ≡ Some n → is_held m n ≡ true
  pub empty : (n : ℕ) → destination i ≡ Some n → is_held m n ≡ false
  pub is_open : is_first i ≡ true → m.is_open ≡ true
  pub returns : is_return i ≡ true → (n : ℕ) → is_held m n ≡ false

-- The position `to` is in the code, and its marks have the same held registers as m. If `first` is open in them, it is open in m.
pub record Arrives (code : List Instr) (list : List (Option Marks)) (to : ℕ) (m : Marks) : Type 0 where
  pub inside : to < length code
  pub marks : Marks
  pub there : get_or list to None ≡ Some marks
  pub held : marks.held ≡ m.held
  pub is_open : marks.is_open ≡ true → m.is_open ≡ true

-- The list gives marks to some positions, and the start's marks to position 0. The instruction of a position with marks
-- is allowed there, and each position to which control may go from it has matching marks.
pub record Fits (code : List Instr) (list : List (Option Marks)) : Type 0 where
  pub start : get_or list 0 None ≡ Some entry
  pub allows : (p : ℕ) (i : Instr) (m : Marks) → slice_get code p ≡ Some i → get_or list p None ≡ Some m → Allows i m
  pub arrives : (p : ℕ) (i : Instr) (m : Marks) → slice_get code p ≡ Some i → get_or list p None ≡ Some m
      → (to : ℕ) (k : Marks) → Leads code i p m to k → Arrives code list to k

-- there is a list of marks that fits the code
pub record HasFit (code : List Instr) : Type 0 where
  pub list : List (Option Marks)
  pub fits : Fits code list

-- Openings and ends match, and loops don't nest too deep. Jumps go forward, stay within the code and enter no loop. The
-- sums of the weights are within the limits. The registers fit.
pub record Acceptable (code : List Instr) : Type 0 where
  pub matched : Matched code
  pub deep : (p : ℕ) → length (around code p) ≤ MAX_DEPTH
  pub ahead : (p l : ℕ) (i : Instr) → slice_get code p ≡ Some i → target i ≡ Some l → p < l
  pub inside : (p l : ℕ) (i : Instr) → slice_get code p ≡ Some i → target i ≡ Some l → l < length code
  pub into_none : (p l : ℕ) (i : Instr) → slice_get code p ≡ Some i → target i ≡ Some l
      → (o : ℕ) (k : Loop) → IsAround code o k l → IsAround code o k p
  pub steps : budget code ≤ MAX_STEPS
  pub locks : lock_bound code ≤ MAX_LOCKS
  pub emits : emit_bound code ≤ MAX_EMITS
  pub registers : HasFit code
