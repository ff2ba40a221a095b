-- The faults of a code's loops, and which of them comes first.
use Rattle.std.specs.Prelude.{◌≡◌, ◌⊎◌, ℕ, zero, suc, ◌<◌, ◌≤◌, List, [], ◌∷◌, Some, None, take}
use Rattle.tl_instr.specs.declared.instr.Instr.{Instr}
use Rattle.tl_budget.specs.Loops.{Kind, Opens, Closes, Returns, Acts, kind, kind_at, loop_at}
use Rattle.tl_budget.specs.declared.limits.TheConstants.{MAX_DEPTH}
use Rattle.tl_budget.specs.declared.fault.NestFault.{NestFault}
use Rattle.tl_budget.specs.declared.fault.NestFault.TheVariants as fault

pub data Finding : Type 0 where
  -- an end that closes no loop
  Alone : (p : ℕ) → Finding
  -- a loop whose count is 0
  Zero : (p : ℕ) → Finding
  -- a loop that opens while MAX_DEPTH or more loops are open
  Deep : (p : ℕ) → Finding
  -- a loop without an end
  Unclosed : (p : ℕ) → Finding

-- the number of open loops after an instruction, if d loops are open before it
abbrev pub open_after : Kind → ℕ → ℕ
open_after (Opens w) d = suc d
open_after Closes zero = zero
open_after Closes (suc d) = d
open_after Returns d = d
open_after Acts d = d

-- the number of open loops after the instructions, if d loops are open before them
abbrev pub open_behind : List Instr → ℕ → ℕ
open_behind [] d = d
open_behind (i ∷ is) d = open_behind is (open_after (kind i) d)

-- the number of open loops just before position p
abbrev pub open_at : List Instr → ℕ → ℕ
open_at code p = open_behind (take p code) 0

-- The code has this fault.
abbrev pub Arises : List Instr → Finding → Type 0
Arises code (Alone p) = (kind_at code p ≡ Some Closes) × (open_at code p ≡ 0)
Arises code (Zero p) = kind_at code p ≡ Some (Opens 0)
Arises code (Deep p) = (w : ℕ) × (kind_at code p ≡ Some (Opens w)) × (MAX_DEPTH ≤ open_at code p)
Arises code (Unclosed p) = (w : ℕ) × (kind_at code p ≡ Some (Opens w)) × (loop_at code p ≡ None)

-- the pass in which the fault is found: loops without an end are found in the second pass
abbrev pub pass : Finding → ℕ
pass (Unclosed p) = 1
pass f = 0

-- within a pass, faults are ordered by position
abbrev pub position : Finding → ℕ
position (Alone p) = p
position (Zero p) = p
position (Deep p) = p
position (Unclosed p) = p

-- at one position, faults are ordered by this rank
abbrev pub rank : Finding → ℕ
rank (Alone p) = 0
rank (Zero p) = 1
rank (Deep p) = 2
rank (Unclosed p) = 3

-- f comes before g
abbrev pub Precedes : Finding → Finding → Type 0
Precedes f g = (pass f < pass g) ⊎ ((pass f ≡ pass g) × ((position f < position g) ⊎ ((position f ≡ position g) × (rank f < rank g))))

abbrev pub fault_of : Finding → NestFault
fault_of (Alone p) = fault.EndAlone p
fault_of (Zero p) = fault.ZeroCount p
fault_of (Deep p) = fault.TooDeep p
fault_of (Unclosed p) = fault.LoopOpen p

-- f is the first fault of the code
pub record IsFirstFault (code : List Instr) (f : NestFault) : Type 0 where
  pub finding : Finding
  pub arises : Arises code finding
  pub first : (other : Finding) → Arises code other → Precedes other finding → ⊥
  pub fault : f ≡ fault_of finding
