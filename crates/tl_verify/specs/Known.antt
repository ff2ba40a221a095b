-- How the recorded states relate to the ways that lead to each position.
use Rattle.std.specs.Prelude.{◌≡◌, ◌≢◌, ℕ, ◌+◌, ◌<◌, List, length, true, false, Option, Some, None, slice_get, slice_set, get_or, if◌then◌else◌}
use Rattle.tl_instr.specs.declared.instr.Instr.{Instr}
use Rattle.tl_verify.specs.declared.marks.Marks.{Marks}
use Rattle.tl_verify.specs.declared.arrivals.Arrivals.{Arrivals}
use Rattle.tl_verify.specs.Marks.{entry, after, Leads, goes_on}
use Rattle.tl_verify.specs.Ways.{Way}
use Rattle.tl_verify.specs.Findings.{Finding, Arises, pass, position, rank}
use Rattle.tl_verify.specs.Pass.{Merges}

-- a way to q with the marks k: the start, or a way whose last step leads forward from a position below b
pub data Comes (code : List Instr) (b q : ℕ) (k : Marks) : Type 0 where
  begins : q ≡ 0 → k ≡ entry → Comes code b q k
  steps : (p : ℕ) (m : Marks) (i : Instr) → p < b → Way code p m → slice_get code p ≡ Some i → Leads code i p m q k → p < q → Comes code b q k

-- a summarizes the states in S: its marks hold what one of them holds, `first` is open if it is open in all, and `differ`
-- says whether two hold different registers
pub record Gathers (S : Marks → Type 0) (a : Arrivals) : Type 0 where
  pub some : (k : Marks) × S k × (k.held ≡ a.marks.held)
  pub is_open : a.marks.is_open ≡ true → (k : Marks) → S k → k.is_open ≡ true
  pub spent : a.marks.is_open ≡ false → (k : Marks) × S k × (k.is_open ≡ false)
  pub alike : a.differ ≡ false → (k : Marks) → S k → k.held ≡ a.marks.held
  pub differs : a.differ ≡ true → (k l : Marks) × S k × S l × (k.held ≢ l.held)

abbrev pub Collects : (Marks → Type 0) → Option Arrivals → Type 0
Collects S None = (k : Marks) → S k → ⊥
Collects S (Some a) = Gathers S a

-- the recorded states summarize, for each position, all ways whose last step is from a position below b
pub record Known (code : List Instr) (b : ℕ) (states : List (Option Arrivals)) : Type 0 where
  pub long : length states ≡ length code
  pub each : (q : ℕ) → q < length code → Collects (Comes code b q) (get_or states q None)

-- the code has no faults of loops or targets
pub record Ahead (code : List Instr) : Type 0 where
  pub none : (f : Finding) → pass f < 3 → Arises code f → ⊥

-- the code has no faults of registers at positions below b
pub record ClearTo (code : List Instr) (b : ℕ) : Type 0 where
  pub none : (f : Finding) → pass f ≡ 3 → position f < b → Arises code f → ⊥

-- the state m is merged into the summary of the given position; without a position nothing changes
abbrev pub Arrived : Option ℕ → Marks → List (Option Arrivals) → List (Option Arrivals) → Type 0
Arrived None m old new = new ≡ old
Arrived (Some to) m old new = (a : Arrivals) × (to < length old) × (new ≡ slice_set old to (Some a)) × Merges (get_or old to None) m a

abbrev pub next_of : Instr → ℕ → Option ℕ
next_of i p = if goes_on i then Some (p + 1) else None

-- the marks after the instruction are merged into the next position, if control may go there, and the marks before it into `beside`
pub record PassesOn (i : Instr) (beside : Option ℕ) (p : ℕ) (m : Marks) (old new : List (Option Arrivals)) : Type 0 where
  pub middle : List (Option Arrivals)
  pub next : Arrived (next_of i p) (after i m) old middle
  pub aside : Arrived beside m middle new

-- f is the first fault of registers at position p
pub record IsFirstAt (code : List Instr) (p : ℕ) (f : Finding) : Type 0 where
  pub arises : Arises code f
  pub pass_is : pass f ≡ 3
  pub position_is : position f ≡ p
  pub first : (g : Finding) → pass g ≡ 3 → position g ≡ p → rank g < rank f → Arises code g → ⊥

-- the recorded states summarize all ways, and the code has no faults of registers
pub record Settled (code : List Instr) (states : List (Option Arrivals)) : Type 0 where
  pub known : Known code (length code) states
  pub clear : ClearTo code (length code)

-- the instructions below b have no faults of targets
pub record AheadTo (code : List Instr) (b : ℕ) : Type 0 where
  pub none : (f : Finding) → pass f ≡ 2 → position f < b → Arises code f → ⊥
