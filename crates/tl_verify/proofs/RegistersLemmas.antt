-- Checking registers, one position after another.
use Rattle.std.proofs.Common.{◌≡◌, ℕ, zero, suc, ◌+◌, ◌<◌, List, length, Option, Some, None, Bool, true, false, refl, sym, ap, ◌∙◌, arith, ◌⊎◌, inl, inr, ⊎_elim, subst}
use Rattle.std.specs.Prelude.{slice_get, get_or, option_map, IfSome, IfNone, MatchOption, ◌&&◌, nat_le}
use Rattle.std.proofs.lemmas.Bool.{leb-false}
use Rattle.std.proofs.lemmas.Option.{slice_get_within}
use Rattle.tl_instr.specs.declared.instr.Instr.{Instr}
use Rattle.tl_budget.specs.Nested.{IsNest, place_at}
use Rattle.tl_budget.specs.declared.nested.Place.{Place}
use Rattle.tl_verify.specs.declared.marks.Marks.{Marks}
use Rattle.tl_verify.specs.declared.arrivals.Arrivals.{Arrivals}
use Rattle.tl_verify.specs.declared.fault.VerifyFault.{VerifyFault}
use Rattle.tl_verify.specs.Marks.{entry, goes_on, aside_by, furthest_by, furthest}
use Rattle.tl_verify.specs.Acceptable.{HasFit}
use Rattle.tl_verify.specs.Ways.{Way}
use Rattle.tl_verify.specs.Findings.{Finding, OfLoops, TargetBack, TargetPastEnd, TargetInLoop, Joined, Spent, Missing, Taken, LeftHeld, Changed, NextPastEnd, Steps, Locks, Emits, Arises, Precedes, IsFirstFault, fault_of, pass, position}
use Rattle.tl_verify.specs.Known.{Known, Ahead, ClearTo, IsFirstAt, Settled, Comes, begins, steps, Gathers, Collects}
use Rattle.tl_verify.specs.Pass.{Compares, is_end, objection}
use Rattle.tl_verify.proofs.Asides.{aside_at, furthest_at, furthest_after, target_or_behind}
use Rattle.tl_verify.proofs.JumpsLemmas.{target_in_code}
use Rattle.tl_verify.proofs.KnownLemmas.{here}
use Rattle.tl_verify.proofs.LoopFindings.{loops_first}
use Rattle.tl_verify.proofs.ObjectionLemmas.{finds, passed, clear, both_true}
use Rattle.tl_verify.proofs.SettledFits.{marks_of, fits}
use Rattle.tl_verify.proofs.LoopEnds.{turn_changes, turn_keeps, start_inside}

module _ (code : List Instr) (b : ℕ) where
  low_or_here : (n : ℕ) → n < b + 1 → (n < b) ⊎ (n ≡ b)
  low_or_here n lt = grind arith

  -- if there is no fault up to b and none at b, there is none up to b + 1
  further : ClearTo code b → ((f : Finding) → pass f ≡ 3 → position f ≡ b → Arises code f → ⊥) → ClearTo code (b + 1)
  further c h = record { none = λ f is lt x. ⊎_elim (λ low. c.none f is low x) (λ same. h f is same x) (low_or_here (position f) lt) }

  -- there is no fault of registers at a position that no way reaches
  no_way : ((m : Marks) → Way code b m → ⊥) → (f : Finding) → pass f ≡ 3 → position f ≡ b → Arises code f → ⊥
  no_way none (OfLoops f) e p x = let h = loops_first f in absurd (omega arith)
  no_way none (TargetBack q) e p x = absurd (omega arith)
  no_way none (TargetPastEnd q) e p x = absurd (omega arith)
  no_way none (TargetInLoop q) e p x = absurd (omega arith)
  no_way none (Joined q) e p (i, m, k, x, y, ne) = none m (subst (λ q. Way code q m) p x.way)
  no_way none (Spent q) e p (i, m, x, y, z) = none m (subst (λ q. Way code q m) p x.way)
  no_way none (Missing q n) e p (i, m, x, y, z) = none m (subst (λ q. Way code q m) p x.way)
  no_way none (Taken q n) e p (i, m, x, y, z) = none m (subst (λ q. Way code q m) p x.way)
  no_way none (LeftHeld q n) e p (i, m, x, y, z, l) = none m (subst (λ q. Way code q m) p x.way)
  no_way none (Changed q) e p (i, m, o, l, x, y, z, c) = none m (subst (λ q. Way code q m) p x.way)
  no_way none (NextPastEnd q) e p (i, m, x, y, z) = none m (subst (λ q. Way code q m) p x.way)
  no_way none Steps e p x = absurd (omega arith)
  no_way none Locks e p x = absurd (omega arith)
  no_way none Emits e p x = absurd (omega arith)

  pub clear_skip : (states : List (Option Arrivals)) → ClearTo code b → Known code b states → b < length code → get_or states b None ≡ None → ClearTo code (b + 1)
  clear_skip states c known lt is = further c (no_way (here code b states known lt None is))

  -- the first fault at b, with none before it, is the first fault of the code
  first_of_all : Ahead code → ClearTo code b → (f : Finding) → IsFirstAt code b f → IsFirstFault code (fault_of f)
  first_of_all ahead c f here = record {
    finding = f;
    arises = here.arises;
    first = λ g x before. by g x before;
    fault = refl;
  }
    where
      by : (g : Finding) → Arises code g → Precedes g f → ⊥
      by g x (inl lt) = ahead.none g (let h = here.pass_is in omega arith) x
      by g x (inr (same, inl lt)) = c.none g (same ∙ here.pass_is) (let h = here.position_is in omega arith) x
      by g x (inr (same, inr (there, lt))) = here.first g (same ∙ here.pass_is) (there ∙ here.position_is) lt x

  none_found : (o : Option Finding) → None ≡ option_map fault_of o → o ≡ None
  none_found None e = refl
  none_found (Some f) e = cc

  -- a position that control may reach
  module _ (places : List Place) (nest : IsNest code places) (i : Instr) (at : slice_get code b ≡ Some i) (states : List (Option Arrivals)) (known : Known code b states) (c : ClearTo code b)
      (a : Arrivals) (is : get_or states b None ≡ Some a) (changed : Bool) (compares : Compares i (get_or states ((place_at places b).opening + 1) None) a.marks changed) (far : ℕ) (far_is : far ≡ furthest_by (place_at places b).close b i) where
    same_far : far ≡ furthest code b i
    same_far = far_is ∙ furthest_at code places nest b i at

    gathers : Gathers (Way code b) a
    gathers = here code b states known (slice_get_within code b i at) (Some a) is

    changes : changed ≡ true → Arises code (Changed b)
    changes = turn_changes code places nest b i at states known a is changed compares

    keeps : changed ≡ false → a.differ ≡ false → Arises code (Changed b) → ⊥
    keeps = turn_keeps code places nest b i at states known a is changed compares c

    pub fault_here : (fault : VerifyFault) → Ahead code → Some fault ≡ option_map fault_of (objection (length code) far b i a changed) → IsFirstFault code fault
    fault_here fault ahead e = by (objection (length code) (furthest code b i) b i a changed) refl (e ∙ ap (λ n. option_map fault_of (objection (length code) n b i a changed)) same_far)
      where
        by : (o : Option Finding) → objection (length code) (furthest code b i) b i a changed ≡ o → Some fault ≡ option_map fault_of o → IsFirstFault code fault
        by None g h = cc
        by (Some f) g h =
            let same : fault ≡ fault_of f = cc in
            rw same (first_of_all ahead c f (finds code b i at a gathers changed changes keeps f g))

    module _ (e : None ≡ option_map fault_of (objection (length code) far b i a changed)) where
      none : objection (length code) (furthest code b i) b i a changed ≡ None
      none = none_found (objection (length code) (furthest code b i) b i a changed) (e ∙ ap (λ n. option_map fault_of (objection (length code) n b i a changed)) same_far)

      pub clear_next : ClearTo code (b + 1)
      clear_next = further c (clear code b i at a gathers changed changes keeps none)

      -- the states at this position hold the same registers
      pub alike : a.differ ≡ false
      alike = (passed code b i at a gathers changed changes keeps none).joined (omega arith)

      -- if control goes on, the furthest position it may reach is within the code
      furthest_inside : goes_on i ≡ true → furthest code b i + 1 < length states
      furthest_inside goes = strict (nat_le (length code) (furthest code b i + 1)) refl
        where
          past : (goes_on i && nat_le (length code) (furthest code b i + 1)) ≡ false
          past = (passed code b i at a gathers changed changes keeps none).next (omega arith)

          strict : (x : Bool) → nat_le (length code) (furthest code b i + 1) ≡ x → furthest code b i + 1 < length states
          strict false f = let h = leb-false (length code) (furthest code b i + 1) f in let g = known.long in omega arith
          strict true f = absurd (both_true (goes_on i) (nat_le (length code) (furthest code b i + 1)) past goes f)

      -- the next position is within the code too
      pub next_inside : goes_on i ≡ true → b + 1 < length states
      next_inside goes = let h = furthest_inside goes in let g = furthest_after code b i in omega arith

      -- the position to which control may go aside is within the code
      pub aside_inside : Ahead code → (beside : Option ℕ) → beside ≡ aside_by (place_at places b).close i → (l : ℕ) → beside ≡ Some l → l < length states
      aside_inside ahead beside is' l there =
          ⊎_elim (λ jumps. let h = target_in_code code ahead b l i at jumps in let g = known.long in omega arith)
          (λ leaves. let h = furthest_inside leaves.2 in let f = leaves.0 in let g = leaves.1 in omega arith)
          (target_or_behind code b l i (sym (aside_at code places nest b i at) ∙ sym is' ∙ there))

-- before the first position only the entry state is recorded
pub known_start : (code : List Instr) (states : List (Option Arrivals)) → length states ≡ length code → 0 < length code
    → get_or states 0 None ≡ Some (record { marks = entry; differ = false }) → ((q : ℕ) → 0 < q → get_or states q None ≡ None) → Known code 0 states
known_start code states long some first rest = record { long = long; each = λ q lt. by q }
  where
    only : (q : ℕ) (k : Marks) → Comes code 0 q k → (q ≡ 0) × (k ≡ entry)
    only q k (begins e f) = (e, f)
    only q k (steps p m i lt way at leads less) = absurd (omega arith)

    by : (q : ℕ) → Collects (Comes code 0 q) (get_or states q None)
    by zero = rw first (record {
      some = (entry, begins refl refl, refl);
      is_open = λ e k h. ap (λ (m : Marks). m.is_open) (only 0 k h).1;
      spent = λ e. cc;
      alike = λ e k h. ap (λ (m : Marks). m.held) (only 0 k h).1;
      differs = λ e. cc;
    })
    by (suc q) = rw (rest (suc q) (omega arith)) (λ k h. let e = (only (suc q) k h).0 in absurd (omega arith))

-- the first positions of bodies are within the code
pub body_inside : (code : List Instr) (places : List Place) → IsNest code places → (b : ℕ) (i : Instr) (states : List (Option Arrivals)) → slice_get code b ≡ Some i → Known code b states → is_end i ≡ true → (place_at places b).opening + 1 < length states
body_inside code places nest b i states at known ends = let h = start_inside code places nest b i at ends in let g = known.long in omega arith

-- the recorded states of a code without faults fit
pub settled_fits : (code : List Instr) (states : List (Option Arrivals)) (o : Option VerifyFault) → 0 < length code → Ahead code → IfNone o (Settled code states) → IfSome o (IsFirstFault code) → MatchOption o (HasFit code) (IsFirstFault code)
settled_fits code states None some ahead settled fault = record { list = marks_of states; fits = fits code states settled.known ahead settled.clear some }
settled_fits code states (Some f) some ahead settled fault = fault
