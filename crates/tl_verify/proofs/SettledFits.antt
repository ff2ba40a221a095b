-- If a code has no faults, the recorded states fit.
use Rattle.std.proofs.Common.{◌≡◌, ℕ, ◌+◌, ◌<◌, List, length, Option, Some, None, Bool, true, false, refl, sym, ap, ◌∙◌, arith, ◌⊎◌, inl, inr, ⊎_elim, subst, map}
use Rattle.std.specs.Prelude.{slice_get, get_or, nat_le, option_map, ◌≢◌}
use Rattle.std.proofs.Math.ListN.{get_or-map}
use Rattle.std.proofs.lemmas.Option.{slice_get_within, slice_get-get_or}
use Rattle.std.proofs.lemmas.Bool.{leb-true, leb-false}
use Rattle.tl_instr.specs.declared.instr.Instr.{Instr}
use Rattle.tl_verify.specs.declared.marks.Marks.{Marks}
use Rattle.tl_verify.specs.declared.arrivals.Arrivals.{Arrivals}
use Rattle.tl_verify.specs.Marks.{entry, is_held, after, Leads, to_next, to_aside, to_body, source, destination, is_first, is_return, goes_on, aside, furthest}
use Rattle.tl_verify.specs.Ways.{Way, onward}
use Rattle.tl_verify.specs.Acceptable.{Fits, Arrives, Allows}
use Rattle.tl_verify.specs.Findings.{Joined, Spent, Missing, Taken, LeftHeld, Changed, NextPastEnd, Meets}
use Rattle.tl_verify.specs.Known.{Comes, begins, steps, Gathers, Collects, Known, Ahead, ClearTo}
use Rattle.tl_verify.specs.Pass.{first_held}
use Rattle.tl_verify.proofs.MarksLemmas.{same_or_not}
use Rattle.tl_verify.proofs.Asides.{target_or_behind, furthest_after}
use Rattle.tl_verify.proofs.LoopBodies.{reach, entered}
use Rattle.tl_verify.proofs.ArrivingStates.{comes_way, way_comes}
use Rattle.tl_verify.proofs.FitLemmas.{held-after}
use Rattle.tl_verify.proofs.ArrivalsLemmas.{collects_same}
use Rattle.tl_verify.proofs.JumpsLemmas.{aside_ahead, target_in_code, enters_none}
use Rattle.tl_verify.proofs.KnownLemmas.{is_open-after}
use Rattle.tl_verify.proofs.ObjectionLemmas.{first_held_is, first_held_none}

abbrev pub marks_of : List (Option Arrivals) → List (Option Marks)
marks_of states = map (option_map (λ (a : Arrivals). a.marks)) states

from_option : (o : Option Arrivals) (m : Marks) → option_map (λ (a : Arrivals). a.marks) o ≡ Some m → (a : Arrivals) × (o ≡ Some a) × (a.marks ≡ m)
from_option None m e = cc
from_option (Some a) m e = let h : a.marks ≡ m = cc in (a, refl, h)

same_marks : (m k : Marks) → m.held ≡ k.held → m.is_open ≡ k.is_open → m ≡ k
same_marks m k e f = ap (λ hs. let x : Marks = record { held = hs; is_open = m.is_open } in x) e ∙ ap (λ o. let x : Marks = record { held = k.held; is_open = o } in x) f

module _ (code : List Instr) (states : List (Option Arrivals)) (known : Known code (length code) states) (ahead : Ahead code) (clear : ClearTo code (length code)) where
  all_ways : (q : ℕ) → q < length code → (o : Option Arrivals) → get_or states q None ≡ o → Collects (Way code q) o
  all_ways q lt o is =
      collects_same (Comes code (length code) q) (Way code q) o (comes_way code (length code) q) (λ k way. way_comes code q k way (length code) (omega arith))
      (subst (Collects (Comes code (length code) q)) is (known.each q lt))

  module _ (q : ℕ) (i : Instr) (a : Arrivals) (at : slice_get code q ≡ Some i) (is : get_or states q None ≡ Some a) where
    inside : q < length code
    inside = slice_get_within code q i at

    gathers : Gathers (Way code q) a
    gathers = all_ways q inside (Some a) is

    meets : (m : Marks) → Way code q m → Meets code q i m
    meets m way = record { at = at; way = way }

    allows : Allows i a.marks
    allows = record {
      held = λ n from. true_for n from (is_held a.marks n) refl;
      empty = λ n to. false_for n to (is_held a.marks n) refl;
      is_open = λ first. open_for first a.marks.is_open refl;
      returns = λ returns n. none_for returns (first_held a.marks.held 0) refl n;
    }
      where
        x : (m : Marks) × Way code q m × (m.held ≡ a.marks.held)
        x = gathers.some

        as_here : (n : ℕ) → is_held x.0 n ≡ is_held a.marks n
        as_here n = ap (λ hs. get_or hs n false) x.2

        true_for : (n : ℕ) → source i ≡ Some n → (b : Bool) → is_held a.marks n ≡ b → is_held a.marks n ≡ true
        true_for n from true e = e
        true_for n from false e = absurd (clear.none (Missing q n) refl inside (i, x.0, meets x.0 x.1, from, as_here n ∙ e))

        false_for : (n : ℕ) → destination i ≡ Some n → (b : Bool) → is_held a.marks n ≡ b → is_held a.marks n ≡ false
        false_for n to false e = e
        false_for n to true e = absurd (clear.none (Taken q n) refl inside (i, x.0, meets x.0 x.1, to, as_here n ∙ e))

        open_for : is_first i ≡ true → (b : Bool) → a.marks.is_open ≡ b → a.marks.is_open ≡ true
        open_for first true e = e
        open_for first false e = let y = gathers.spent e in absurd (clear.none (Spent q) refl inside (i, y.0, meets y.0 y.1, first, y.2))

        none_for : is_return i ≡ true → (o : Option ℕ) → first_held a.marks.held 0 ≡ o → (n : ℕ) → is_held a.marks n ≡ false
        none_for returns None e n = first_held_none a.marks.held 0 e n
        none_for returns (Some k) e n =
            let y = first_held_is a.marks.held 0 k e in
            absurd (clear.none (LeftHeld q y.0) refl inside (i, x.0, meets x.0 x.1, returns, as_here y.0 ∙ y.2, λ l lt. as_here l ∙ y.3 l lt))

    -- a fitting state is recorded where the instruction leads
    module _ (to : ℕ) (within : to < length code) (less : q < to) (f : Marks → Marks)
        (leads : (m : Marks) → Leads code i q m to (f m)) (same_held : (m : Marks) → m.held ≡ a.marks.held → (f m).held ≡ (f a.marks).held)
        (opens : ((m : Marks) → (f m).is_open ≡ false) ⊎ ((m : Marks) → (f m).is_open ≡ m.is_open)) where
      goes : (m : Marks) → Way code q m → Way code to (f m)
      goes m way = onward way i at (leads m) less

      there : (o : Option Arrivals) → get_or states to None ≡ o → Arrives code (marks_of states) to (f a.marks)
      there None e = let x = gathers.some in absurd (all_ways to within None e (f x.0) (goes x.0 x.1))
      there (Some b) e = record {
        inside = within;
        marks = b.marks;
        there = get_or-map (option_map (λ (a : Arrivals). a.marks)) states to None ∙ ap (option_map (λ (a : Arrivals). a.marks)) e;
        held = let x = gathers.some in sym (g.alike alike (f x.0) (goes x.0 x.1)) ∙ same_held x.0 x.2;
        is_open = λ o. by_open opens o;
      }
        where
          g : Gathers (Way code to) b
          g = all_ways to within (Some b) e

          joined : (d : Bool) → b.differ ≡ d → (j : Option Instr) → slice_get code to ≡ j → b.differ ≡ false
          joined false e j at' = e
          joined true e (Some j) at' = let x = g.differs e in absurd (clear.none (Joined to) refl within (j, x.0, x.1, record { at = at'; way = x.2 }, record { at = at'; way = x.3 }, x.4))
          joined true e None at' = absurd (past at')
            where
              past : slice_get code to ≡ None → ⊥
              past h = let k = slice_get-get_or code to i within in cc

          alike : b.differ ≡ false
          alike = joined b.differ refl (slice_get code to) refl

          by_open : ((m : Marks) → (f m).is_open ≡ false) ⊎ ((m : Marks) → (f m).is_open ≡ m.is_open) → b.marks.is_open ≡ true → (f a.marks).is_open ≡ true
          by_open (inl h) o = let x = gathers.some in let y = g.is_open o (f x.0) (goes x.0 x.1) in let z = h x.0 in cc
          by_open (inr h) o = on a.marks.is_open refl
            where
              on : (c : Bool) → a.marks.is_open ≡ c → (f a.marks).is_open ≡ true
              on true k = h a.marks ∙ k
              on false k = let x = gathers.spent k in let y = g.is_open o (f x.0) (goes x.0 x.1) in let z = h x.0 ∙ x.2 in cc

    -- the furthest position that control may reach is within the code
    furthest_within : goes_on i ≡ true → furthest code q i + 1 < length code
    furthest_within goes = strict (nat_le (length code) (furthest code q i + 1)) refl
      where
        strict : (b : Bool) → nat_le (length code) (furthest code q i + 1) ≡ b → furthest code q i + 1 < length code
        strict false e = leb-false (length code) (furthest code q i + 1) e
        strict true e = let x = gathers.some in absurd (clear.none (NextPastEnd q) refl inside (i, x.0, meets x.0 x.1, goes, leb-true (length code) (furthest code q i + 1) e))

    -- the next position is within the code too
    next_within : goes_on i ≡ true → q + 1 < length code
    next_within goes = let h = furthest_within goes in let g = furthest_after code q i in omega arith

    aside_within : (to : ℕ) → aside code q i ≡ Some to → to < length code
    aside_within to is =
        ⊎_elim (λ jumps. target_in_code code ahead q to i at jumps) (λ leaves. let h = furthest_within leaves.2 in let e = leaves.0 in let f = leaves.1 in omega arith) (target_or_behind code q to i is)

    arrives : (to : ℕ) (k : Marks) → Leads code i q a.marks to k → Arrives code (marks_of states) to k
    arrives to k (to_next goes is got) =
        let within : to < length code = subst (λ r. r < length code) (sym is) (next_within goes) in
        rw got (there to within (omega arith) (after i) (λ m. to_next goes is refl) (λ m e. held-after i m a.marks e) (is_open-after i) (get_or states to None) refl)
    arrives to k (to_aside is got) =
        rw got (there to (aside_within to is) (aside_ahead code ahead q to i at is) (λ m. m) (λ m. to_aside is refl) (λ m e. e) (inr (λ m. refl)) (get_or states to None) refl)
    arrives to k (to_body o l opens ends is got) = rw (is, got) (turn (get_or states (o + 1) None) refl)
      where
        r : (l.opening ≡ o) × (o < l.close)
        r = reach code o l opens

        within : o + 1 < length code
        within = let g = inside in let h = r.1 in omega arith

        turn : (s : Option Arrivals) → get_or states (o + 1) None ≡ s → Arrives code (marks_of states) (o + 1) a.marks
        turn None e =
            let x = gathers.some in
            let y = entered code (enters_none code ahead) o l opens q x.0 x.1 (let h = r.1 in omega arith) (omega arith) in
            absurd (all_ways (o + 1) within None e y.0 y.1)
        turn (Some s) e = record {
          inside = within;
          marks = s.marks;
          there = get_or-map (option_map (λ (a : Arrivals). a.marks)) states (o + 1) None ∙ ap (option_map (λ (a : Arrivals). a.marks)) e;
          held = ⊎_elim (λ same. same) (λ ne. absurd (other ne)) (same_or_not s.marks.held a.marks.held);
          is_open = λ opened. kept opened a.marks.is_open refl;
        }
          where
            first : Gathers (Way code (l.opening + 1)) s
            first = subst (λ n. Gathers (Way code (n + 1)) s) (sym r.0) (all_ways (o + 1) within (Some s) e)

            other : s.marks.held ≢ a.marks.held → ⊥
            other ne =
                let x = gathers.some in
                let y = first.some in
                clear.none (Changed q) refl inside (i, x.0, o, l, meets x.0 x.1, opens, ends, record { start = y.0; way = y.1; differs = inl (λ same. ne (sym y.2 ∙ sym same ∙ x.2)) })

            kept : s.marks.is_open ≡ true → (c : Bool) → a.marks.is_open ≡ c → a.marks.is_open ≡ true
            kept opened true f = f
            kept opened false f =
                let x = gathers.spent f in
                let y = first.some in
                absurd (clear.none (Changed q) refl inside (i, x.0, o, l, meets x.0 x.1, opens, ends, record { start = y.0; way = y.1; differs = inr (x.2, λ k way. first.is_open opened k way) }))

  pub fits : 0 < length code → Fits code (marks_of states)
  fits some = record {
    start = first (get_or states 0 None) refl;
    allows = λ q i m at is. let x = from_option (get_or states q None) m (sym (get_or-map (option_map (λ (a : Arrivals). a.marks)) states q None) ∙ is) in subst (Allows i) x.2 (allows q i x.0 at x.1);
    arrives = λ q i m at is to k leads. let x = from_option (get_or states q None) m (sym (get_or-map (option_map (λ (a : Arrivals). a.marks)) states q None) ∙ is) in arrives q i x.0 at x.1 to k (subst (λ m. Leads code i q m to k) (sym x.2) leads);
  }
    where
      only : (k : Marks) → Comes code (length code) 0 k → k ≡ entry
      only k (begins e f) = f
      only k (steps p m i lt way at leads less) = absurd (omega arith)

      first : (o : Option Arrivals) → get_or states 0 None ≡ o → get_or (marks_of states) 0 None ≡ Some entry
      first None e = absurd (subst (Collects (Comes code (length code) 0)) e (known.each 0 some) entry (begins refl refl))
      first (Some a) e =
          get_or-map (option_map (λ (a : Arrivals). a.marks)) states 0 None
          ∙ ap (option_map (λ (a : Arrivals). a.marks)) e
          ∙ ap Some (same_marks a.marks entry (sym x.2 ∙ ap (λ (m : Marks). m.held) (only x.0 x.1)) (opened a.marks.is_open refl))
        where
          g : Gathers (Comes code (length code) 0) a
          g = subst (Collects (Comes code (length code) 0)) e (known.each 0 some)

          x : (m : Marks) × Comes code (length code) 0 m × (m.held ≡ a.marks.held)
          x = g.some

          opened : (b : Bool) → a.marks.is_open ≡ b → a.marks.is_open ≡ entry.is_open
          opened true k = k
          opened false k = let y = g.spent k in let z = ap (λ (m : Marks). m.is_open) (only y.0 y.1) in cc
