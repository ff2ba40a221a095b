-- A code without faults in any pass is accepted, and the first fault of the last pass is the first fault.
use Rattle.std.proofs.Common.{◌≡◌, ◌<◌, List, refl, ap, ◌∙◌, arith, ◌⊎◌, inl, inr, ⊎_elim}
use Rattle.std.specs.Prelude.{◌≢◌}
use Rattle.tl_instr.specs.declared.instr.Instr.{Instr}
use Rattle.tl_budget.specs.declared.fault.NestFault.{NestFault}
use Rattle.tl_budget.specs.declared.fault.NestFault.TheVariants as nest
use Rattle.tl_budget.specs.Faults.{IsOver, IsWithinLimits}
use Rattle.tl_budget.specs.Findings as loops
use Rattle.tl_budget.specs.Nested.{IsNested}
use Rattle.tl_verify.specs.declared.fault.VerifyFault.{VerifyFault}
use Rattle.tl_verify.specs.declared.fault.VerifyFault.TheVariants.{Nest, Memory}
use Rattle.tl_verify.specs.Acceptable.{Acceptable, HasFit}
use Rattle.tl_verify.specs.Faults.{of_nest}
use Rattle.tl_verify.specs.Findings.{Finding, OfLoops, TargetBack, TargetPastEnd, TargetInLoop, Joined, Spent, Missing, Taken, LeftHeld, Changed, NextPastEnd, Steps, Locks, Emits, Arises, Precedes, IsFirstFault, fault_of, pass, position, rank}
use Rattle.tl_verify.specs.Known.{Ahead}
use Rattle.tl_verify.proofs.JumpsLemmas.{target_ahead, target_in_code, enters_none}
use Rattle.tl_verify.proofs.NoFindings.{fit_finds_nothing, nothing_found}
use Rattle.tl_verify.proofs.LoopFindings.{loops_first}

pub accepted : (code : List Instr) → IsNested code → Ahead code → HasFit code → IsWithinLimits code → Acceptable code
accepted code nested ahead fit limits = record {
  matched = nested.matched;
  deep = nested.shallow;
  ahead = λ p l i at is. target_ahead code ahead p l i at is;
  inside = λ p l i at is. target_in_code code ahead p l i at is;
  into_none = enters_none code ahead;
  steps = limits.steps;
  locks = limits.locks;
  emits = limits.emits;
  registers = fit;
}

-- ---- the first fault of the loops is the first of all

of_loops : (code : List Instr) (f : NestFault) → loops.IsFirstFault code f → IsFirstFault code (Nest f)
of_loops code f x = record { finding = OfLoops x.finding; arises = x.arises; first = by; fault = ap Nest x.fault }
  where
    h : loops.pass x.finding < 2
    h = loops_first x.finding

    by : (g : Finding) → Arises code g → Precedes g (OfLoops x.finding) → ⊥
    by (OfLoops g) y before = x.first g y before
    by g y (inl lt) = let k = h in absurd (omega arith)
    by g y (inr (e, b)) = let k = h in absurd (omega arith)

pub loops_fault : (code : List Instr) (f : NestFault) → (f ≢ nest.Memory → loops.IsFirstFault code f) → of_nest f ≢ Memory → IsFirstFault code (of_nest f)
loops_fault code (nest.LoopOpen p) x ne = of_loops code (nest.LoopOpen p) (x (λ e. cc))
loops_fault code (nest.EndAlone p) x ne = of_loops code (nest.EndAlone p) (x (λ e. cc))
loops_fault code (nest.TooDeep p) x ne = of_loops code (nest.TooDeep p) (x (λ e. cc))
loops_fault code (nest.ZeroCount p) x ne = of_loops code (nest.ZeroCount p) (x (λ e. cc))
loops_fault code nest.StepsOver x ne = of_loops code nest.StepsOver (x (λ e. cc))
loops_fault code nest.LocksOver x ne = of_loops code nest.LocksOver (x (λ e. cc))
loops_fault code nest.EmitsOver x ne = of_loops code nest.EmitsOver (x (λ e. cc))
loops_fault code nest.Memory x ne = absurd (ne refl)

-- ---- and of the sums the first, where nothing is found before them

module _ (code : List Instr) (ahead : Ahead code) (fit : HasFit code) where
  -- a fault of a sum is the first one if no earlier sum has a fault
  of_sums : (f : Finding) → pass f ≡ 4 → Arises code f → ((g : Finding) → pass g ≡ 4 → rank g < rank f → Arises code g → ⊥) → IsFirstFault code (fault_of f)
  of_sums f is x none = record { finding = f; arises = x; first = λ g y before. by g y before; fault = refl }
    where
      low : (g : Finding) → pass g < 4 → (pass g < 3) ⊎ (pass g ≡ 3)
      low g lt = grind arith

      of_pass : (g : Finding) → pass g ≡ 4 → position g ≡ 0
      of_pass (OfLoops g) e = let h = loops_first g in absurd (omega arith)
      of_pass (TargetBack p) e = absurd (omega arith)
      of_pass (TargetPastEnd p) e = absurd (omega arith)
      of_pass (TargetInLoop p) e = absurd (omega arith)
      of_pass (Joined p) e = absurd (omega arith)
      of_pass (Spent p) e = absurd (omega arith)
      of_pass (Missing p n) e = absurd (omega arith)
      of_pass (Taken p n) e = absurd (omega arith)
      of_pass (LeftHeld p n) e = absurd (omega arith)
      of_pass (Changed p) e = absurd (omega arith)
      of_pass (NextPastEnd p) e = absurd (omega arith)
      of_pass Steps e = refl
      of_pass Locks e = refl
      of_pass Emits e = refl

      by : (g : Finding) → Arises code g → Precedes g f → ⊥
      by g y (inl lt) = ⊎_elim (λ e. ahead.none g e y) (λ e. fit_finds_nothing code (enters_none code ahead) fit g e y) (low g (omega arith))
      by g y (inr (e, inl lt)) = let h = of_pass f is in absurd (omega arith)
      by g y (inr (e, inr (there, lt))) = none g (e ∙ is) lt y

  pub over_is_first : (f : NestFault) → IsOver code f → IsFirstFault code (of_nest f)
  over_is_first nest.StepsOver over = of_sums Steps refl over by
    where
      by : (g : Finding) → pass g ≡ 4 → rank g < 0 → Arises code g → ⊥
      by g e lt x = absurd (omega arith)
  over_is_first nest.LocksOver over = of_sums Locks refl over.1 by
    where
      by : (g : Finding) → pass g ≡ 4 → rank g < 1 → Arises code g → ⊥
      by (OfLoops g) e lt x = let h = loops_first g in absurd (omega arith)
      by Steps e lt x = let h = over.0 in absurd (omega arith)
      by g e lt x = absurd (omega arith)
  over_is_first nest.EmitsOver over = of_sums Emits refl over.2 by
    where
      by : (g : Finding) → pass g ≡ 4 → rank g < 2 → Arises code g → ⊥
      by (OfLoops g) e lt x = let h = loops_first g in absurd (omega arith)
      by Steps e lt x = let h = over.0 in absurd (omega arith)
      by Locks e lt x = let h = over.1 in absurd (omega arith)
      by g e lt x = absurd (omega arith)
  over_is_first (nest.LoopOpen p) over = absurd over
  over_is_first (nest.EndAlone p) over = absurd over
  over_is_first (nest.TooDeep p) over = absurd over
  over_is_first (nest.ZeroCount p) over = absurd over
  over_is_first nest.Memory over = absurd over

-- an accepted code has no fault but lack of memory
pub only_memory : (code : List Instr) → Acceptable code → (f : VerifyFault) → (f ≢ Memory → IsFirstFault code f) → f ≡ Memory
only_memory code acc Memory h = refl
only_memory code acc f h = let x = h (λ e. cc) in absurd (nothing_found code acc x.finding x.arises)
