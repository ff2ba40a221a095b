-- What the comparison at the end of a loop says about all ways.
use Rattle.std.proofs.Common.{◌≡◌, ℕ, ◌+◌, ◌<◌, ◌≤◌, List, length, Option, Some, None, Bool, true, false, refl, sym, ap, ◌∙◌, arith, ◌⊎◌, inl, inr, ⊎_elim}
use Rattle.std.specs.Prelude.{slice_get, get_or, nat_le, ◌≢◌}
use Rattle.std.proofs.lemmas.Bool.{leb-true, leb-false}
use Rattle.std.proofs.lemmas.Option.{slice_get_within, slice_get-get_or}
use Rattle.tl_instr.specs.declared.instr.Instr.{Instr}
use Rattle.tl_instr.specs.declared.instr.Instr.TheVariants.{Repeat, RepeatBy, End, Return}
use Rattle.tl_budget.specs.Loops.{Closes, kind, Loop, loop_at}
use Rattle.tl_budget.specs.Nested.{IsNest, place_at}
use Rattle.tl_budget.specs.declared.nested.Place.{Place}
use Rattle.tl_budget.proofs.AroundLemmas.{has}
use Rattle.tl_budget.proofs.LoopLemmas.{nests, nested, closes_at_end}
use Rattle.tl_verify.specs.declared.marks.Marks.{Marks}
use Rattle.tl_verify.specs.declared.arrivals.Arrivals.{Arrivals}
use Rattle.tl_verify.specs.Ways.{Way}
use Rattle.tl_verify.specs.Findings.{Joined, Changed, Arises}
use Rattle.tl_verify.specs.Known.{Gathers, Known, ClearTo}
use Rattle.tl_verify.specs.Pass.{Compares, is_end}
use Rattle.tl_verify.proofs.LoopBodies.{reach, innermost_around}
use Rattle.tl_verify.proofs.KnownLemmas.{up_to_here}

ends_closes : (i : Instr) → is_end i ≡ true → kind i ≡ Closes
ends_closes End e = refl
ends_closes i e = cc

closes_ends : (i : Instr) → kind i ≡ Closes → is_end i ≡ true
closes_ends End e = refl
closes_ends (Repeat w) e = cc
closes_ends (RepeatBy turns w) e = cc
closes_ends Return e = cc
closes_ends i e = cc

-- an end closes only one loop
pub same_end : (code : List Instr) (o p : ℕ) (l k : Loop) → loop_at code o ≡ Some l → loop_at code p ≡ Some k → l.close ≡ k.close → o ≡ p
same_end code o p l k e f same = by (nat_le o p) (nat_le p o) refl refl
  where
    by : (b c : Bool) → nat_le o p ≡ b → nat_le p o ≡ c → o ≡ p
    by true true g h = let x = leb-true o p g in let y = leb-true p o h in omega arith
    by false c g h =
        let x = leb-false o p g in
        let y = (reach code o l e).1 in
        let z = nested code p o k l f e x (omega arith) in
        absurd (omega arith)
    by true false g h =
        let x = leb-false p o h in
        let y = (reach code p k f).1 in
        let z = nested code o p l k e f x (omega arith) in
        absurd (omega arith)

-- the loop that ends at a position
pub record Ends (code : List Instr) (places : List Place) (b : ℕ) : Type 0 where
  pub loop : Loop
  pub there : loop_at code loop.opening ≡ Some loop
  pub close : loop.close ≡ b
  pub before : loop.opening < b
  pub opening : (place_at places b).opening ≡ loop.opening

module _ (code : List Instr) (places : List Place) (nest : IsNest code places) (b : ℕ) (i : Instr) (at : slice_get code b ≡ Some i) where
  pub ends_loop : is_end i ≡ true → Ends code places b
  ends_loop ends =
      let x = (nests code nest.nested.matched).closes b i at (ends_closes i ends) in
      let y = innermost_around code b b x.0 x.1 x.2 in
      record { loop = x.0; there = y.0; close = x.3; before = y.1; opening = nest.opening b x.0 x.1 (slice_get_within code b i at) x.2 }

  -- the first position of the body is within the code
  pub start_inside : is_end i ≡ true → (place_at places b).opening + 1 < length code
  start_inside ends =
      let x = ends_loop ends in
      let lt = x.before in
      let e = x.opening in
      let h = slice_get_within code b i at in
      omega arith

  module _ (states : List (Option Arrivals)) (known : Known code b states) (a : Arrivals) (is : get_or states b None ≡ Some a)
      (changed : Bool) (compares : Compares i (get_or states ((place_at places b).opening + 1) None) a.marks changed) where
    gathers : Gathers (Way code b) a
    gathers = up_to_here code b b states known (omega arith) (slice_get_within code b i at) (Some a) is

    pub turn_changes : changed ≡ true → Arises code (Changed b)
    turn_changes e = by x.3
      where
        x : (s : Arrivals) × (is_end i ≡ true) × (get_or states ((place_at places b).opening + 1) None ≡ Some s) × ((a.marks.held ≢ s.marks.held) ⊎ ((s.marks.is_open ≡ true) × (a.marks.is_open ≡ false)))
        x = compares.changes e

        y : Ends code places b
        y = ends_loop x.1

        first : Gathers (Way code (y.loop.opening + 1)) x.0
        first =
            let lt = y.before in
            let h = slice_get_within code b i at in
            up_to_here code b (y.loop.opening + 1) states known (omega arith) (omega arith) (Some x.0) (sym (ap (λ n. get_or states (n + 1) None) y.opening) ∙ x.2)

        by : (a.marks.held ≢ x.0.marks.held) ⊎ ((x.0.marks.is_open ≡ true) × (a.marks.is_open ≡ false)) → Arises code (Changed b)
        by (inl ne) =
            let m = gathers.some in
            let s = first.some in
            (i, m.0, y.loop.opening, y.loop, record { at = at; way = m.1 }, y.there, y.close, record { start = s.0; way = s.1; differs = inl (λ same. ne (sym m.2 ∙ same ∙ s.2)) })
        by (inr (was, spent)) =
            let m = gathers.spent spent in
            let s = first.some in
            (i, m.0, y.loop.opening, y.loop, record { at = at; way = m.1 }, y.there, y.close, record { start = s.0; way = s.1; differs = inr (m.2, λ k way. first.is_open was k way) })

    pub turn_keeps : ClearTo code b → changed ≡ false → a.differ ≡ false → Arises code (Changed b) → ⊥
    turn_keeps clear e alike (j, m, o, l, x, opens, closes, c) = by (get_or states (l.opening + 1) None) refl
      where
        ends : is_end i ≡ true
        ends =
            let k = has code l.close Closes (closes_at_end code o l opens) in
            let same : k.0 ≡ i = let h : Some k.0 ≡ Some i = sym k.1 ∙ ap (slice_get code) closes ∙ at in cc in
            closes_ends i (ap kind (sym same) ∙ k.2)

        y : Ends code places b
        y = ends_loop ends

        r : (l.opening ≡ o) × (o < l.close)
        r = reach code o l opens

        place : (place_at places b).opening ≡ l.opening
        place = y.opening ∙ same_end code y.loop.opening o y.loop l y.there opens (y.close ∙ sym closes) ∙ sym r.0

        first_le : l.opening + 1 ≤ b
        first_le = let g = r.0 in let h = r.1 in omega arith

        inside : l.opening + 1 < length code
        inside = let g = first_le in let h = slice_get_within code b i at in omega arith

        by : (s : Option Arrivals) → get_or states (l.opening + 1) None ≡ s → ⊥
        by None is' = up_to_here code b (l.opening + 1) states known first_le inside None is' c.start c.way
        by (Some s) is' = ⊎_elim other spent c.differs
          where
            first : Gathers (Way code (l.opening + 1)) s
            first = up_to_here code b (l.opening + 1) states known first_le inside (Some s) is'

            kept : (a.marks.held ≡ s.marks.held) × (s.marks.is_open ≡ true → a.marks.is_open ≡ true)
            kept = compares.keeps e ends s (ap (λ n. get_or states (n + 1) None) place ∙ is')

            joined : (d : Bool) → s.differ ≡ d → (l.opening + 1 < b) ⊎ (l.opening + 1 ≡ b) → s.differ ≡ false
            joined d f (inr here) = let h : Some s ≡ Some a = sym is' ∙ ap (λ n. get_or states n None) here ∙ is in let g : s ≡ a = cc in ap (λ (x : Arrivals). x.differ) g ∙ alike
            joined false f (inl low) = f
            joined true f (inl low) =
                let z = first.differs f in
                let q = l.opening + 1 in
                let at' = slice_get-get_or code q i inside in
                absurd (clear.none (Joined q) refl low (get_or code q i, z.0, z.1, record { at = at'; way = z.2 }, record { at = at'; way = z.3 }, z.4))

            low_or_here : (n : ℕ) → n ≤ b → (n < b) ⊎ (n ≡ b)
            low_or_here n le = grind arith

            all_alike : s.differ ≡ false
            all_alike = joined s.differ refl (low_or_here (l.opening + 1) first_le)

            other : m.held ≢ c.start.held → ⊥
            other ne = ne (gathers.alike alike m x.way ∙ kept.0 ∙ sym (first.alike all_alike c.start c.way))

            spent : (m.is_open ≡ false) × ((k : Marks) → Way code (l.opening + 1) k → k.is_open ≡ true) → ⊥
            spent (is_spent, opened) = on s.marks.is_open refl
              where
                on : (z : Bool) → s.marks.is_open ≡ z → ⊥
                on true f = let h = gathers.is_open (kept.1 f) m x.way in cc
                on false f = let k = first.spent f in let h = opened k.0 k.1 in let g = k.2 in cc
