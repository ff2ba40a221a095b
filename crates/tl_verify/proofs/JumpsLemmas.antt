-- Checking targets, one position after another.
use Rattle.std.proofs.Common.{◌≡◌, ℕ, ◌+◌, ◌<◌, ◌≤◌, List, [], ◌∷◌, length, Some, None, refl, sym, ap, ◌∙◌, arith, ◌⊎◌, inl, inr, ⊎_elim}
use Rattle.std.specs.Prelude.{slice_get, Bool, true, false, nat_le}
use Rattle.std.proofs.lemmas.Bool.{leb-true, leb-false}
use Rattle.std.proofs.lemmas.Option.{slice_get_within}
use Rattle.tl_instr.specs.declared.instr.Instr.{Instr}
use Rattle.tl_instr.specs.Instructions.{target}
use Rattle.tl_budget.specs.Loops.{Loop, around, IsAround}
use Rattle.tl_budget.specs.Nested.{IsNested, IsNest, place_at}
use Rattle.tl_budget.specs.declared.nested.Place.{Place}
use Rattle.tl_verify.specs.Findings.{Finding, OfLoops, TargetBack, TargetPastEnd, TargetInLoop, Arises, Precedes, IsFirstFault, fault_of, pass, position, rank}
use Rattle.tl_verify.specs.Known.{Ahead, AheadTo}
use Rattle.tl_verify.specs.Marks.{aside}
use Rattle.tl_verify.proofs.Asides.{target_or_behind, end_after}
use Rattle.tl_verify.proofs.LoopBodies.{EntersNone, innermost_around, others_before, none_around}
use Rattle.tl_budget.proofs.AroundLemmas.{nothing_found as loops_nothing_found}
use Rattle.tl_verify.proofs.LoopFindings.{loops_first}

-- a nested code has no faults of loops
pub loops_clear : (code : List Instr) → IsNested code → (f : Finding) → pass f < 2 → Arises code f → ⊥
loops_clear code nested (OfLoops f) lt x = loops_nothing_found code nested f x
loops_clear code nested f lt x = absurd (omega arith)

module _ (code : List Instr) (b : ℕ) (i : Instr) (at : slice_get code b ≡ Some i) (ahead : AheadTo code b) where
  same_target : (p l : ℕ) (j : Instr) → p ≡ b → slice_get code p ≡ Some j → target j ≡ Some l → target i ≡ Some l
  same_target p l j e there is =
      let same : Some i ≡ Some j = sym at ∙ ap (slice_get code) (sym e) ∙ there in
      let h : i ≡ j = cc in
      ap target h ∙ is

  low_or_here : (n : ℕ) → n < b + 1 → (n < b) ⊎ (n ≡ b)
  low_or_here n lt = grind arith

  -- if the target at b has no fault, the targets up to b + 1 have none
  more : ((f : Finding) → pass f ≡ 2 → position f ≡ b → Arises code f → ⊥) → AheadTo code (b + 1)
  more here = record { none = λ f is lt x. ⊎_elim (λ low. ahead.none f is low x) (λ same. here f is same x) (low_or_here (position f) lt) }

  pub none_more : target i ≡ None → AheadTo code (b + 1)
  none_more none = more here
    where
      here : (f : Finding) → pass f ≡ 2 → position f ≡ b → Arises code f → ⊥
      here (OfLoops f) e same x = let h = loops_first f in absurd (omega arith)
      here (TargetBack p) e same (j, l, there, is, h) = let k = same_target p l j same there is in cc
      here (TargetPastEnd p) e same (j, l, there, is, h) = let k = same_target p l j same there is in cc
      here (TargetInLoop p) e same (j, l, o, k, there, is, h, g) = let k = same_target p l j same there is in cc
      here f e same x = absurd (omega arith)

  module _ (l : ℕ) (is : target i ≡ Some l) where
    same : (p k : ℕ) (j : Instr) → p ≡ b → slice_get code p ≡ Some j → target j ≡ Some k → k ≡ l
    same p k j e there is' = let h : Some k ≡ Some l = sym (same_target p k j e there is') ∙ is in cc

    -- the first fault of the target at b is the first fault of the code
    first : IsNested code → (f : Finding) → pass f ≡ 2 → position f ≡ b → Arises code f → ((g : Finding) → pass g ≡ 2 → position g ≡ b → rank g < rank f → Arises code g → ⊥) → IsFirstFault code (fault_of f)
    first nested f pass_is position_is x here = record { finding = f; arises = x; first = λ g y before. by g y before; fault = refl }
      where
        by : (g : Finding) → Arises code g → Precedes g f → ⊥
        by g y (inl lt) = loops_clear code nested g (omega arith) y
        by g y (inr (e, inl lt)) = ahead.none g (e ∙ pass_is) (omega arith) y
        by g y (inr (e, inr (there, lt))) = here g (e ∙ pass_is) (there ∙ position_is) lt y

    pub back_is_first : IsNested code → l ≤ b → IsFirstFault code (fault_of (TargetBack b))
    back_is_first nested le = first nested (TargetBack b) refl refl (i, l, at, is, le) (λ g e there lt x. absurd (omega arith))

    pub past_is_first : IsNested code → b < l → length code ≤ l → IsFirstFault code (fault_of (TargetPastEnd b))
    past_is_first nested less past = first nested (TargetPastEnd b) refl refl (i, l, at, is, past) here
      where
        here : (g : Finding) → pass g ≡ 2 → position g ≡ b → rank g < 1 → Arises code g → ⊥
        here (OfLoops f) e there lt x = let h = loops_first f in absurd (omega arith)
        here (TargetBack p) e there lt (j, k, at', is', h) = let g = same p k j there at' is' in absurd (omega arith)
        here f e there lt x = absurd (omega arith)

    -- a target ahead and within the code has no fault, unless it is inside a loop
    ahead_here : b < l → l < length code → (g : Finding) → pass g ≡ 2 → position g ≡ b → rank g < 2 → Arises code g → ⊥
    ahead_here less inside (OfLoops f) e there lt x = let h = loops_first f in absurd (omega arith)
    ahead_here less inside (TargetBack p) e there lt (j, k, at', is', h) = let g = same p k j there at' is' in absurd (omega arith)
    ahead_here less inside (TargetPastEnd p) e there lt (j, k, at', is', h) = let g = same p k j there at' is' in absurd (omega arith)
    ahead_here less inside f e there lt x = absurd (omega arith)

    module _ (places : List Place) (nest : IsNest code places) (less : b < l) (inside : l < length code) where
      pub into_is_first : 0 < (place_at places l).depth → b ≤ (place_at places l).opening → IsFirstFault code (fault_of (TargetInLoop b))
      into_is_first deep behind = by (around code l) refl
        where
          by : (ls : List Loop) → around code l ≡ ls → IsFirstFault code (fault_of (TargetInLoop b))
          by [] e = let h = nest.depth l inside in let g = ap length e in absurd (omega arith)
          by (k ∷ ks) e =
              let x = innermost_around code l l k ks e in
              let opens = nest.opening l k ks inside e in
              first nest.nested (TargetInLoop b) refl refl (i, l, k.opening, k, at, is, record { there = x.0; after = x.1; before = x.2 }, λ here. let h = here.after in omega arith)
              (ahead_here less inside)

      -- each loop around the target is around the jump
      around_both : ((place_at places l).depth ≡ 0) ⊎ ((place_at places l).opening < b) → (o : ℕ) (k : Loop) → IsAround code o k l → IsAround code o k b
      around_both d o k x = by (around code l) refl d
        where
          by : (ls : List Loop) → around code l ≡ ls → ((place_at places l).depth ≡ 0) ⊎ ((place_at places l).opening < b) → IsAround code o k b
          by [] e d = absurd (none_around code l l o k e x x.after)
          by (j ∷ js) e (inl none) = let h = nest.depth l inside in let g = ap length e in absurd (omega arith)
          by (j ∷ js) e (inr lt) =
              let opens = nest.opening l j js inside e in
              let le = others_before code l l o k j js e x x.after in
              let far = x.before in
              record { there = x.there; after = omega arith; before = omega arith }

      pub ahead_more : ((place_at places l).depth ≡ 0) ⊎ ((place_at places l).opening < b) → AheadTo code (b + 1)
      ahead_more d = more here
        where
          here : (f : Finding) → pass f ≡ 2 → position f ≡ b → Arises code f → ⊥
          here (OfLoops f) e there x = let h = loops_first f in absurd (omega arith)
          here (TargetBack p) e there x = ahead_here less inside (TargetBack p) refl there (omega arith) x
          here (TargetPastEnd p) e there x = ahead_here less inside (TargetPastEnd p) refl there (omega arith) x
          here (TargetInLoop p) e there (j, t, o, k, at', is', x, out) =
              let same_place = same p t j there at' is' in
              out (rw there (around_both d o k (rw (sym same_place) x)))
          here f e there x = absurd (omega arith)

pub none_yet : (code : List Instr) → AheadTo code 0
none_yet code = record { none = λ f e lt x. absurd (omega arith) }

pub all_ahead : (code : List Instr) → IsNested code → AheadTo code (length code) → Ahead code
all_ahead code nested a = record { none = by }
  where
    by : (f : Finding) → pass f < 3 → Arises code f → ⊥
    by (OfLoops f) e x = loops_nothing_found code nested f x
    by (TargetBack p) e (j, l, there, is, h) = a.none (TargetBack p) refl (slice_get_within code p j there) (j, l, there, is, h)
    by (TargetPastEnd p) e (j, l, there, is, h) = a.none (TargetPastEnd p) refl (slice_get_within code p j there) (j, l, there, is, h)
    by (TargetInLoop p) e (j, l, o, k, there, is, h, g) = a.none (TargetInLoop p) refl (slice_get_within code p j there) (j, l, o, k, there, is, h, g)
    by f e x = absurd (omega arith)

-- ---- what is known of targets where nothing is found of them

module _ (code : List Instr) (ahead : Ahead code) where
  module _ (p l : ℕ) (i : Instr) (at : slice_get code p ≡ Some i) (is : target i ≡ Some l) where
    pub target_ahead : p < l
    target_ahead = by (nat_le l p) refl
      where
        by : (b : Bool) → nat_le l p ≡ b → p < l
        by true e = absurd (ahead.none (TargetBack p) (omega arith) (i, l, at, is, leb-true l p e))
        by false e = leb-false l p e

    pub target_in_code : l < length code
    target_in_code = by (nat_le (length code) l) refl
      where
        by : (b : Bool) → nat_le (length code) l ≡ b → l < length code
        by true e = absurd (ahead.none (TargetPastEnd p) (omega arith) (i, l, at, is, leb-true (length code) l e))
        by false e = leb-false (length code) l e

  -- the position to which control may go aside is ahead
  pub aside_ahead : (p l : ℕ) (i : Instr) → slice_get code p ≡ Some i → aside code p i ≡ Some l → p < l
  aside_ahead p l i at is =
      ⊎_elim (λ jumps. target_ahead p l i at jumps) (λ leaves. let e = leaves.0 in let h = end_after code p in omega arith) (target_or_behind code p l i is)

  pub enters_none : EntersNone code
  enters_none p l i at is o k inside = by (nat_le p o) refl
    where
      by : (b : Bool) → nat_le p o ≡ b → IsAround code o k p
      by true e = let le = leb-true p o e in absurd (ahead.none (TargetInLoop p) (omega arith) (i, l, o, k, at, is, inside, λ x. let h = x.after in omega arith))
      by false e =
          let far = inside.before in
          let lt = target_ahead p l i at is in
          record { there = inside.there; after = leb-false p o e; before = omega arith }
