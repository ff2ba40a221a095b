-- The stored places of the positions that have been visited.
use Rattle.std.proofs.Common.{◌≡◌, ◌≢◌, ◌⊎◌, inl, inr, ℕ, ◌+◌, ◌<◌, ◌≤◌, List, [], ◌∷◌, ◌++◌, length, get_or, Option, Some, None, refl, sym, ◌∙◌, ap, subst, arith}
use Rattle.std.proofs.Math.ListN.{set}
use Rattle.std.proofs.lemmas.Bool.{cases_lt, cases_eq}
use Rattle.std.proofs.lemmas.List.{length-set, get_or-set_same, get_or-set_other, get_or_append_left, get_or_push, get_or_default, length_push}
use Rattle.tl_instr.specs.declared.instr.Instr.{Instr}
use Rattle.tl_budget.specs.declared.nested.Place.{Place}
use Rattle.tl_budget.specs.Loops.{Closes, kind_at, Loop, loop_at}
use Rattle.tl_budget.specs.Nested.{IsNest, no_place, place_at}
use Rattle.tl_budget.proofs.LoopLemmas.{closes_at_end, closes_after, nested}
use Rattle.tl_budget.proofs.OpenLoops.{opened, ClosesAt}
use Rattle.tl_budget.proofs.AroundLemmas.{openings, around_opened, depth_is}
use Rattle.tl_budget.proofs.NothingFound.{Clear, is_nested, inside}

-- For the positions before n, the depth and the innermost opening are stored, and no end is stored where no loop opens.
-- For the loops that close before p, the end is stored.
pub record Placed (code : List Instr) (n p : ℕ) (places : List Place) : Type 0 where
  pub long : length places ≡ n
  pub depth : (q : ℕ) → q < n → (place_at places q).depth ≡ length (opened code q)
  pub opening : (q : ℕ) → q < n → (place_at places q).opening ≡ get_or (opened code q) 0 0
  pub close : (o : ℕ) (l : Loop) → loop_at code o ≡ Some l → l.close < p → (place_at places o).close ≡ l.close
  pub endless : (o : ℕ) → o < n → loop_at code o ≡ None → (place_at places o).close ≡ 0

pub placed_start : (code : List Instr) → Placed code 0 0 []
placed_start code = record { long = refl; depth = λ q lt. absurd (omega arith); opening = λ q lt. absurd (omega arith); close = λ o l e lt. absurd (omega arith); endless = λ o lt none. absurd (omega arith) }

pub placed_push : (code : List Instr) (p : ℕ) (places : List Place) (new : Place) → new.depth ≡ length (opened code p) → new.opening ≡ get_or (opened code p) 0 0 → new.close ≡ 0 → Placed code p p places → Placed code (p + 1) p (places ++ new ∷ [])
placed_push code p places new depth opening close h = record {
  long = length_push places new ∙ ap (λ n. n + 1) h.long;
  depth = λ q lt. each (λ q x. x.depth ≡ length (opened code q)) depth h.depth q lt;
  opening = λ q lt. each (λ q x. x.opening ≡ get_or (opened code q) 0 0) opening h.opening q lt;
  close = λ o l e lt.
      let after = closes_after code o l e in
      let long = h.long in
      let below : o < length places = omega arith in
      ap (λ (x : Place). x.close) (get_or_append_left places (new ∷ []) no_place o below) ∙ h.close o l e lt;
  endless = λ q lt. each (λ q x. loop_at code q ≡ None → x.close ≡ 0) (λ none. close) h.endless q lt;
}
  where
    each : (P : ℕ → Place → Type 0) → P p new → ((q : ℕ) → q < p → P q (place_at places q)) → (q : ℕ) → q < p + 1 → P q (place_at (places ++ new ∷ []) q)
    each P here before q lt = by (cases_lt q p)
      where
        by : (q < p) ⊎ (p ≤ q) → P q (place_at (places ++ new ∷ []) q)
        by (inl below) =
            let long = h.long in
            let within : q < length places = omega arith in
            subst (P q) (sym (get_or_append_left places (new ∷ []) no_place q within)) (before q below)
        by (inr le) =
            let same : p ≡ q = omega arith in
            let at : length places ≡ q = h.long ∙ same in
            subst (P q) (sym (get_or_push places new no_place q at)) (subst (λ n. P n new) same here)

-- a position where no loop ends
pub placed_on : (code : List Instr) (n p : ℕ) (places : List Place) → kind_at code p ≢ Some Closes → Placed code n p places → Placed code n (p + 1) places
placed_on code n p places not_end h = record {
  long = h.long;
  depth = h.depth;
  opening = h.opening;
  close = λ o l e lt.
      let other : l.close ≢ p = λ f. not_end (ap (kind_at code) (sym f) ∙ closes_at_end code o l e) in
      h.close o l e (omega arith);
  endless = h.endless;
}

-- no two loops have the same end
one_opening : (code : List Instr) (o q : ℕ) (l k : Loop) → loop_at code o ≡ Some l → loop_at code q ≡ Some k → l.close ≡ k.close → o ≡ q
one_opening code o q l k e f same = by (cases_lt o q) (cases_lt q o)
  where
    by : (o < q) ⊎ (q ≤ o) → (q < o) ⊎ (o ≤ q) → o ≡ q
    by (inl lt) b = let after = closes_after code q k f in let within = nested code o q l k e f lt (omega arith) in absurd (omega arith)
    by (inr le) (inl lt) = let after = closes_after code o l e in let within = nested code q o k l f e lt (omega arith) in absurd (omega arith)
    by (inr le) (inr ge) = omega arith

-- the places after the end of the loop that opens at o
abbrev pub marked : List Place → ℕ → ℕ → List Place
marked places o p = set places o (record (place_at places o) { close = p })

pub marks : (places : List Place) (o n p : ℕ) (old : Place) → o < length places → n ≡ o → old ≡ get_or places n old → set places n (record old { close = p }) ≡ marked places o p
marks places o n p old lt same e =
    let here : old ≡ place_at places o = e ∙ ap (λ k. get_or places k old) same ∙ get_or_default places o old no_place lt in
    ap (λ k. set places k (record old { close = p })) same ∙ ap (λ (x : Place). set places o (record x { close = p })) here

pub placed_close : (code : List Instr) (n p o : ℕ) (places : List Place) → ClosesAt code o p → p < n → Placed code n p places → Placed code n (p + 1) (marked places o p)
placed_close code n p o places c lt h = record {
  long = length-set places o (record (place_at places o) { close = p }) ∙ h.long;
  depth = λ q below. each (λ x. x.depth) refl q ∙ h.depth q below;
  opening = λ q below. each (λ x. x.opening) refl q ∙ h.opening q below;
  close = λ q k e below. by q k e below (cases_eq q o);
  endless = λ q below none. without q below none (cases_eq q o);
}
  where
    there : o < length places
    there = let after = closes_after code o c.0 c.1 in let long = h.long in let at = c.2 in omega arith

    new : Place
    new = record (place_at places o) { close = p }

    each : (f : Place → ℕ) → f (record (place_at places o) { close = p }) ≡ f (place_at places o) → (q : ℕ) → f (place_at (marked places o p) q) ≡ f (place_at places q)
    each f same q = at (cases_eq q o)
      where
        at : (q ≡ o) ⊎ (q ≡ o → ⊥) → f (place_at (marked places o p) q) ≡ f (place_at places q)
        at (inl e) = ap (λ n. f (place_at (marked places o p) n)) e ∙ ap f (get_or-set_same places o _ no_place there) ∙ same ∙ ap (λ n. f (place_at places n)) (sym e)
        at (inr ne) = ap f (get_or-set_other places o q _ no_place ne)

    without : (q : ℕ) → q < n → loop_at code q ≡ None → (q ≡ o) ⊎ (q ≡ o → ⊥) → (place_at (marked places o p) q).close ≡ 0
    without q below none (inl same) = let other : ◌≡◌ {A = Option Loop} None (Some c.0) = sym none ∙ ap (loop_at code) same ∙ c.1 in cc
    without q below none (inr ne) = ap (λ (x : Place). x.close) (get_or-set_other places o q _ no_place ne) ∙ h.endless q below none

    by : (q : ℕ) (k : Loop) → loop_at code q ≡ Some k → k.close < p + 1 → (q ≡ o) ⊎ (q ≡ o → ⊥) → (place_at (marked places o p) q).close ≡ k.close
    by q k e below (inl same) =
        let one : Some k ≡ Some c.0 = sym e ∙ ap (loop_at code) same ∙ c.1 in
        let loops : k ≡ c.0 = cc in
        ap (λ n. (place_at (marked places o p) n).close) same
        ∙ ap (λ (x : Place). x.close) (get_or-set_same places o _ no_place there)
        ∙ sym c.2
        ∙ ap (λ (l : Loop). l.close) (sym loops)
    by q k e below (inr ne) =
        let other : k.close ≢ p = λ f. ne (one_opening code q o k c.0 e c.1 (f ∙ sym c.2)) in
        ap (λ (x : Place). x.close) (get_or-set_other places o q _ no_place ne) ∙ h.close q k e (omega arith)

pub is_nest : (code : List Instr) (places : List Place) → Clear code (length code) → opened code (length code) ≡ [] → Placed code (length code) (length code) places → IsNest code places
is_nest code places clear none h =
    let all = is_nested code clear none in
    record {
      nested = all;
      long = h.long;
      depth = λ p lt. h.depth p lt ∙ sym (depth_is code all.matched p);
      opening = λ p l ls lt e. h.opening p lt ∙ ap (λ s. get_or s 0 0) (sym (around_opened code all.matched p) ∙ ap openings e);
      close = λ p l e. h.close p l e (inside code l.close Closes (closes_at_end code p l e));
      outside = λ p lt e. h.opening p lt ∙ ap (λ s. get_or s 0 0) (sym (around_opened code all.matched p) ∙ ap openings e);
      endless = h.endless;
    }
