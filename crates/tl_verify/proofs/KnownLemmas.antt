-- The states of all ways, one position further.
use Rattle.std.proofs.Common.{◌≡◌, ℕ, ◌+◌, ◌<◌, ◌≤◌, List, length, Option, Some, None, Bool, true, false, refl, sym, ap, ◌∙◌, arith, ◌⊎◌, inl, inr, ⊎_elim, subst}
use Rattle.std.specs.Prelude.{slice_get, get_or, cond}
use Rattle.std.proofs.lemmas.List.{length-set}
use Rattle.tl_instr.specs.declared.instr.Instr.{Instr}
use Rattle.tl_instr.specs.declared.instr.Instr.TheVariants.{First, Child, Move, Release}
use Rattle.tl_verify.specs.declared.marks.Marks.{Marks}
use Rattle.tl_verify.specs.declared.arrivals.Arrivals.{Arrivals}
use Rattle.tl_verify.specs.Marks.{after, Leads, to_next, to_aside, to_body, goes_on, aside}
use Rattle.tl_verify.specs.Ways.{Way}
use Rattle.tl_verify.specs.Known.{Comes, begins, steps, Gathers, Collects, Known, Ahead, Arrived, PassesOn}
use Rattle.tl_verify.proofs.LoopBodies.{reach}
use Rattle.tl_verify.proofs.ArrivingStates.{comes_way, way_comes}
use Rattle.tl_verify.proofs.FitLemmas.{held-after}
use Rattle.tl_verify.proofs.ArrivalsLemmas.{IsClass, collects_same, joins, joins_none}
use Rattle.tl_verify.proofs.JumpsLemmas.{aside_ahead}

-- an instruction spends `first` in every state or in none
pub is_open-after : (i : Instr) → ((m : Marks) → (after i m).is_open ≡ false) ⊎ ((m : Marks) → (after i m).is_open ≡ m.is_open)
is_open-after (First n v l) = inl (λ m. refl)
is_open-after (Child n parent v l) = inr (λ m. refl)
is_open-after (Move n from) = inr (λ m. refl)
is_open-after (Release n) = inr (λ m. refl)
is_open-after i = inr (λ m. refl)

module _ (code : List Instr) (b : ℕ) (i : Instr) (at : slice_get code b ≡ Some i) where
  -- the states that go to the next position
  Next : ℕ → Marks → Type 0
  Next q k = (m : Marks) × Way code b m × (goes_on i ≡ true) × (q ≡ b + 1) × (k ≡ after i m)

  -- the states that go aside
  Aside : ℕ → Marks → Type 0
  Aside q k = (m : Marks) × Way code b m × (aside code b i ≡ Some q) × (k ≡ m) × (b < q)

  further : (q : ℕ) (k : Marks) → Comes code (b + 1) q k → (Comes code b q k ⊎ Next q k) ⊎ Aside q k
  unfolding Next Aside
  further q k (begins e f) = inl (inl (begins e f))
  further q k (steps p m j lt way there leads less) = cases (cases_of p)
    where
      cases_of : (p : ℕ) → p < b + 1 → (p < b) ⊎ (p ≡ b)
      cases_of p lt = grind arith

      cases : (p < b + 1 → (p < b) ⊎ (p ≡ b)) → (Comes code b q k ⊎ Next q k) ⊎ Aside q k
      cases f = ⊎_elim (λ low. inl (inl (steps p m j low way there leads less))) here (f lt)
        where
          here : p ≡ b → (Comes code b q k ⊎ Next q k) ⊎ Aside q k
          here e = by leads
            where
              same : j ≡ i
              same = let h : Some j ≡ Some i = sym there ∙ ap (slice_get code) e ∙ at in cc

              way' : Way code b m
              way' = subst (λ r. Way code r m) e way

              by : Leads code j p m q k → (Comes code b q k ⊎ Next q k) ⊎ Aside q k
              by (to_next goes is got) = inl (inr (m, way', ap goes_on (sym same) ∙ goes, is ∙ ap (λ r. r + 1) e, got ∙ ap (λ x. after x m) same))
              by (to_aside is got) = inr (m, way', ap (aside code b) (sym same) ∙ ap (λ r. aside code r j) (sym e) ∙ is, got, omega arith)
              by (to_body o l opens ends is got) = let h = (reach code o l opens).1 in absurd (omega arith)

  back : (q : ℕ) (k : Marks) → (Comes code b q k ⊎ Next q k) ⊎ Aside q k → Comes code (b + 1) q k
  unfolding Next Aside
  back q k (inl (inl (begins e f))) = begins e f
  back q k (inl (inl (steps p m j lt way there leads less))) = steps p m j (omega arith) way there leads less
  back q k (inl (inr (m, way, goes, is, got))) = steps b m i (omega arith) way at (to_next goes is got) (omega arith)
  back q k (inr (m, way, is, got, less)) = steps b m i (omega arith) way at (to_aside is got) less

  module _ (a : Arrivals) (gathers : Gathers (Way code b) a) (alike : a.differ ≡ false) where
    next_class : goes_on i ≡ true → IsClass (Next (b + 1)) (after i a.marks)
    unfolding Next
    next_class goes = record {
      some = let x = gathers.some in (after i x.0, (x.0, x.1, goes, refl, refl), held-after i x.0 a.marks x.2);
      is_open = λ e k t. opened (is_open-after i) e k t;
      spent = λ e. closed (is_open-after i) e;
      alike = λ k t. ap (λ (x : Marks). x.held) t.4 ∙ held-after i t.0 a.marks (gathers.alike alike t.0 t.1);
    }
      where
        opened : ((m : Marks) → (after i m).is_open ≡ false) ⊎ ((m : Marks) → (after i m).is_open ≡ m.is_open) → (after i a.marks).is_open ≡ true → (k : Marks) → (m : Marks) × Way code b m × (goes_on i ≡ true) × (b + 1 ≡ b + 1) × (k ≡ after i m) → k.is_open ≡ true
        opened (inl f) e k t = let h = f a.marks in cc
        opened (inr f) e k t = ap (λ (x : Marks). x.is_open) t.4 ∙ f t.0 ∙ gathers.is_open (sym (f a.marks) ∙ e) t.0 t.1

        closed : ((m : Marks) → (after i m).is_open ≡ false) ⊎ ((m : Marks) → (after i m).is_open ≡ m.is_open) → (after i a.marks).is_open ≡ false → (k : Marks) × ((m : Marks) × Way code b m × (goes_on i ≡ true) × (b + 1 ≡ b + 1) × (k ≡ after i m)) × (k.is_open ≡ false)
        closed (inl f) e = let x = gathers.some in (after i x.0, (x.0, x.1, goes, refl, refl), f x.0)
        closed (inr f) e = let x = gathers.spent (sym (f a.marks) ∙ e) in (after i x.0, (x.0, x.1, goes, refl, refl), f x.0 ∙ x.2)

    aside_class : (l : ℕ) → aside code b i ≡ Some l → b < l → IsClass (Aside l) a.marks
    unfolding Aside
    aside_class l is less = record {
      some = let x = gathers.some in (x.0, (x.0, x.1, is, refl, less), x.2);
      is_open = λ e k t. ap (λ (x : Marks). x.is_open) t.3 ∙ gathers.is_open e t.0 t.1;
      spent = λ e. let x = gathers.spent e in (x.0, (x.0, x.1, is, refl, less), x.2);
      alike = λ k t. ap (λ (x : Marks). x.held) t.3 ∙ gathers.alike alike t.0 t.1;
    }

-- what is recorded at a position up to b summarizes all ways to it
pub up_to_here : (code : List Instr) (b q : ℕ) (states : List (Option Arrivals)) → Known code b states → q ≤ b → q < length code → (o : Option Arrivals) → get_or states q None ≡ o → Collects (Way code q) o
up_to_here code b q states known le lt o is =
    collects_same (Comes code b q) (Way code q) o (comes_way code b q) (λ k way. way_comes code q k way b le)
    (subst (Collects (Comes code b q)) is (known.each q lt))

pub here : (code : List Instr) (b : ℕ) (states : List (Option Arrivals)) → Known code b states → b < length code → (o : Option Arrivals) → get_or states b None ≡ o → Collects (Way code b) o
here code b states known lt o is = up_to_here code b b states known (omega arith) lt o is

-- one position further, if a state is recorded at b
pub known_next : (code : List Instr) (b : ℕ) (i : Instr) (a : Arrivals) (old new : List (Option Arrivals)) → slice_get code b ≡ Some i → b < length code → Ahead code → Known code b old → get_or old b None ≡ Some a → a.differ ≡ false → PassesOn i (aside code b i) b a.marks old new → Known code (b + 1) new
unfolding Next Aside
known_next code b i a old new at lt ahead known is alike passes = record {
  long = second_long (aside code b i) passes.aside ∙ first_long (goes_on i) passes.next ∙ known.long;
  each = λ q inside. collects_same (λ k. (Comes code b q k ⊎ Next code b i at q k) ⊎ Aside code b i at q k) (Comes code (b + 1) q) (get_or new q None) (back code b i at q) (further code b i at q) (second (aside code b i) refl passes.aside q inside);
}
  where
    n : ℕ
    n = length code

    gathers : Gathers (Way code b) a
    gathers = here code b old known lt (Some a) is

    first_long : (g : Bool) → Arrived (cond g (Some (b + 1)) None) (after i a.marks) old passes.middle → length passes.middle ≡ length old
    first_long false e = ap length e
    first_long true e = ap length e.2 ∙ length-set old (b + 1) (Some e.0)

    second_long : (t : Option ℕ) → Arrived t a.marks passes.middle new → length new ≡ length passes.middle
    second_long None e = ap length e
    second_long (Some l) e = ap length e.2 ∙ length-set passes.middle l (Some e.0)

    first : (g : Bool) → goes_on i ≡ g → Arrived (cond g (Some (b + 1)) None) (after i a.marks) old passes.middle → (q : ℕ) → q < n → Collects (λ k. Comes code b q k ⊎ Next code b i at q k) (get_or passes.middle q None)
    first false g e = rw e (joins_none n (Comes code b) (Next code b i at) old (λ q k t. let h : true ≡ false = sym t.2 ∙ g in cc) known.each)
    first true g e = rw e.2 (joins n (Comes code b) (Next code b i at) (b + 1) (after i a.marks) old e.0 e.1 (λ q k t. t.3) (next_class code b i at a gathers alike g) e.3 known.each)

    second : (t : Option ℕ) → aside code b i ≡ t → Arrived t a.marks passes.middle new → (q : ℕ) → q < n → Collects (λ k. (Comes code b q k ⊎ Next code b i at q k) ⊎ Aside code b i at q k) (get_or new q None)
    second None g e = rw e (joins_none n (λ q k. Comes code b q k ⊎ Next code b i at q k) (Aside code b i at) passes.middle (λ q k t. let h : Some q ≡ None = sym t.2 ∙ g in cc) (first (goes_on i) refl passes.next))
    second (Some l) g e =
        rw e.2 (joins n (λ q k. Comes code b q k ⊎ Next code b i at q k) (Aside code b i at) l a.marks passes.middle e.0 e.1
        (λ q k t. let h : Some l ≡ Some q = sym g ∙ t.2 in cc)
        (aside_class code b i at a gathers alike l g (aside_ahead code ahead b l i at g)) e.3 (first (goes_on i) refl passes.next))

-- one position further, if no state is recorded at b
pub known_skip : (code : List Instr) (b : ℕ) (i : Instr) (states : List (Option Arrivals)) → slice_get code b ≡ Some i → b < length code → Known code b states → get_or states b None ≡ None → Known code (b + 1) states
unfolding Next Aside
known_skip code b i states at lt known is = record {
  long = known.long;
  each = λ q inside. collects_same (λ k. (Comes code b q k ⊎ Next code b i at q k) ⊎ Aside code b i at q k) (Comes code (b + 1) q) (get_or states q None) (back code b i at q) (further code b i at q)
      (joins_none (length code) (λ q k. Comes code b q k ⊎ Next code b i at q k) (Aside code b i at) states no_aside
      (joins_none (length code) (Comes code b) (Next code b i at) states no_next known.each) q inside);
}
  where
    no_way : (m : Marks) → Way code b m → ⊥
    no_way = here code b states known lt None is

    no_next : (q : ℕ) (k : Marks) → Next code b i at q k → ⊥
    no_next q k t = no_way t.0 t.1

    no_aside : (q : ℕ) (k : Marks) → Aside code b i at q k → ⊥
    no_aside q k t = no_way t.0 t.1
