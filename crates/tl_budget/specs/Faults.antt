-- The faults of loops and of costs, as numbers, and when the costs are above the limits.
use Rattle.std.specs.Prelude.{ℕ, ◌<◌, ◌≤◌, List, [], ◌∷◌}
use Rattle.tl_instr.specs.declared.instr.Instr.{Instr}
use Rattle.tl_budget.specs.declared.fault.NestFault.{NestFault}
use Rattle.tl_budget.specs.declared.fault.NestFault.TheVariants.{EndAlone, ZeroCount, TooDeep, LoopOpen, StepsOver, LocksOver, EmitsOver, Memory}
use Rattle.tl_budget.specs.declared.limits.TheConstants.{MAX_STEPS, MAX_LOCKS, MAX_EMITS}
use Rattle.tl_budget.specs.Loops.{budget, lock_bound, emit_bound}

-- the fault's number, followed by its operands
abbrev pub numbers_of : NestFault → List ℕ
numbers_of (LoopOpen p) = 301 ∷ p ∷ []
numbers_of (EndAlone p) = 302 ∷ p ∷ []
numbers_of (TooDeep p) = 303 ∷ p ∷ []
numbers_of (ZeroCount p) = 304 ∷ p ∷ []
numbers_of StepsOver = 305 ∷ []
numbers_of LocksOver = 306 ∷ []
numbers_of EmitsOver = 307 ∷ []
numbers_of Memory = 390 ∷ []

-- the bounds of a procedure's steps, locks and emitted values are within the limits
pub record IsWithinLimits (code : List Instr) : Type 0 where
  pub steps : budget code ≤ MAX_STEPS
  pub locks : lock_bound code ≤ MAX_LOCKS
  pub emits : emit_bound code ≤ MAX_EMITS

-- the first limit that is exceeded: steps come first, then locks, then emitted values
abbrev pub IsOver : List Instr → NestFault → Type 0
IsOver code StepsOver = MAX_STEPS < budget code
IsOver code LocksOver = (budget code ≤ MAX_STEPS) × (MAX_LOCKS < lock_bound code)
IsOver code EmitsOver = (budget code ≤ MAX_STEPS) × (lock_bound code ≤ MAX_LOCKS) × (MAX_EMITS < emit_bound code)
IsOver code f = ⊥
