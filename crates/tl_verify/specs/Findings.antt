-- The faults that a code may have, and which of them comes first.
use Rattle.std.specs.Prelude.{◌≡◌, ◌≢◌, ◌⊎◌, ℕ, ◌+◌, ◌<◌, ◌≤◌, List, true, false, Some, length, slice_get}
use Rattle.tl_instr.specs.declared.instr.Instr.{Instr}
use Rattle.tl_instr.specs.Instructions.{target}
use Rattle.tl_budget.specs.Loops.{Loop, IsAround, loop_at, budget, lock_bound, emit_bound}
use Rattle.tl_budget.specs.Findings as loops
use Rattle.tl_budget.specs.declared.fault.NestFault.TheVariants as nest
use Rattle.tl_budget.specs.declared.limits.TheConstants.{MAX_STEPS, MAX_LOCKS, MAX_EMITS}
use Rattle.tl_verify.specs.declared.marks.Marks.{Marks}
use Rattle.tl_verify.specs.declared.fault.VerifyFault.{VerifyFault}
use Rattle.tl_verify.specs.declared.fault.VerifyFault.TheVariants as fault
use Rattle.tl_verify.specs.Marks.{is_held, source, destination, is_first, is_return, goes_on, furthest}
use Rattle.tl_verify.specs.Ways.{Way}

pub data Finding : Type 0 where
  -- faults of the loops
  OfLoops : (f : loops.Finding) → Finding
  -- faults of a target
  TargetBack : (p : ℕ) → Finding
  TargetPastEnd : (p : ℕ) → Finding
  TargetInLoop : (p : ℕ) → Finding
  -- faults of the registers at a position that control may reach
  Joined : (p : ℕ) → Finding
  Spent : (p : ℕ) → Finding
  Missing : (p n : ℕ) → Finding
  Taken : (p n : ℕ) → Finding
  LeftHeld : (p n : ℕ) → Finding
  Changed : (p : ℕ) → Finding
  NextPastEnd : (p : ℕ) → Finding
  -- faults of the sums
  Steps : Finding
  Locks : Finding
  Emits : Finding

-- control may reach the instruction i at p with the marks m
pub record Meets (code : List Instr) (p : ℕ) (i : Instr) (m : Marks) : Type 0 where
  pub at : slice_get code p ≡ Some i
  pub way : Way code p m

-- The marks m at the loop's end differ from marks at the start of its body: other registers are held, or `first` is spent
-- although it is open on every way to the start.
pub record Changes (code : List Instr) (l : Loop) (m : Marks) : Type 0 where
  pub start : Marks
  pub way : Way code (l.opening + 1) start
  pub differs : (m.held ≢ start.held) ⊎ ((m.is_open ≡ false) × ((k : Marks) → Way code (l.opening + 1) k → k.is_open ≡ true))

-- The code has this fault.
abbrev pub Arises : List Instr → Finding → Type 0
Arises code (OfLoops f) = loops.Arises code f
-- the target of an instruction is at or before it, or past the end of the code, or inside a loop that the instruction isn't in
Arises code (TargetBack p) = (i : Instr) × (l : ℕ) × (slice_get code p ≡ Some i) × (target i ≡ Some l) × (l ≤ p)
Arises code (TargetPastEnd p) = (i : Instr) × (l : ℕ) × (slice_get code p ≡ Some i) × (target i ≡ Some l) × (length code ≤ l)
Arises code (TargetInLoop p) = (i : Instr) × (l o : ℕ) × (k : Loop) × (slice_get code p ≡ Some i) × (target i ≡ Some l) × IsAround code o k l × (IsAround code o k p → ⊥)
-- two ways to the position differ in the registers that hold a node
Arises code (Joined p) = (i : Instr) × (m k : Marks) × Meets code p i m × Meets code p i k × (m.held ≢ k.held)
-- a `first` instruction that control may reach after `first` is spent
Arises code (Spent p) = (i : Instr) × (m : Marks) × Meets code p i m × (is_first i ≡ true) × (m.is_open ≡ false)
-- a register that must hold a node is empty
Arises code (Missing p n) = (i : Instr) × (m : Marks) × Meets code p i m × (source i ≡ Some n) × (is_held m n ≡ false)
-- a register that must be empty holds a node
Arises code (Taken p n) = (i : Instr) × (m : Marks) × Meets code p i m × (destination i ≡ Some n) × (is_held m n ≡ true)
-- the call returns while a register holds a node; n is the lowest such register
Arises code (LeftHeld p n) = (i : Instr) × (m : Marks) × Meets code p i m × (is_return i ≡ true) × (is_held m n ≡ true) × ((k : ℕ) → k < n → is_held m k ≡ false)
-- a turn of a loop changes which registers hold a node, or spends `first`
Arises code (Changed p) = (i : Instr) × (m : Marks) × (o : ℕ) × (l : Loop) × Meets code p i m × (loop_at code o ≡ Some l) × (l.close ≡ p) × Changes code l m
-- control may go past the end of the code, either to the next position or past the end of a loop that may have no turns
Arises code (NextPastEnd p) = (i : Instr) × (m : Marks) × Meets code p i m × (goes_on i ≡ true) × (length code ≤ furthest code p i + 1)
-- a sum is above its limit
Arises code Steps = MAX_STEPS < budget code
Arises code Locks = MAX_LOCKS < lock_bound code
Arises code Emits = MAX_EMITS < emit_bound code

-- the pass in which a fault is found: loops in two passes, then targets, then registers, then sums
abbrev pub pass : Finding → ℕ
pass (OfLoops f) = loops.pass f
pass (TargetBack p) = 2
pass (TargetPastEnd p) = 2
pass (TargetInLoop p) = 2
pass Steps = 4
pass Locks = 4
pass Emits = 4
pass f = 3

-- within a pass, faults are ordered by position
abbrev pub position : Finding → ℕ
position (OfLoops f) = loops.position f
position (TargetBack p) = p
position (TargetPastEnd p) = p
position (TargetInLoop p) = p
position (Joined p) = p
position (Spent p) = p
position (Missing p n) = p
position (Taken p n) = p
position (LeftHeld p n) = p
position (Changed p) = p
position (NextPastEnd p) = p
position f = 0

-- at one position, and among the sums, faults are ordered by this rank
abbrev pub rank : Finding → ℕ
rank (OfLoops f) = loops.rank f
rank (TargetBack p) = 0
rank (TargetPastEnd p) = 1
rank (TargetInLoop p) = 2
rank (Joined p) = 0
rank (Spent p) = 1
rank (Missing p n) = 2
rank (Taken p n) = 3
rank (LeftHeld p n) = 4
rank (Changed p) = 5
rank (NextPastEnd p) = 6
rank Steps = 0
rank Locks = 1
rank Emits = 2

-- f comes before g
abbrev pub Precedes : Finding → Finding → Type 0
Precedes f g = (pass f < pass g) ⊎ ((pass f ≡ pass g) × ((position f < position g) ⊎ ((position f ≡ position g) × (rank f < rank g))))

abbrev pub fault_of : Finding → VerifyFault
fault_of (OfLoops f) = fault.Nest (loops.fault_of f)
fault_of (TargetBack p) = fault.BackJump p
fault_of (TargetPastEnd p) = fault.OffEnd p
fault_of (TargetInLoop p) = fault.IntoLoop p
fault_of (Joined p) = fault.Joins p
fault_of (Spent p) = fault.FirstSpent p
fault_of (Missing p n) = fault.NotHeld p n
fault_of (Taken p n) = fault.Occupied p n
fault_of (LeftHeld p n) = fault.HeldAtReturn p n
fault_of (Changed p) = fault.LoopChanges p
fault_of (NextPastEnd p) = fault.OffEnd p
fault_of Steps = fault.Nest nest.StepsOver
fault_of Locks = fault.Nest nest.LocksOver
fault_of Emits = fault.Nest nest.EmitsOver

-- f is the first fault of the code
pub record IsFirstFault (code : List Instr) (f : VerifyFault) : Type 0 where
  pub finding : Finding
  pub arises : Arises code finding
  pub first : (other : Finding) → Arises code other → Precedes other finding → ⊥
  pub fault : f ≡ fault_of finding
