-- The summary of a set of states.
use Rattle.std.proofs.Common.{◌≡◌, ℕ, ◌<◌, List, length, Option, Some, None, Bool, true, false, refl, sym, ◌∙◌, ◌⊎◌, inl, inr, ⊎_elim, subst}
use Rattle.std.specs.Prelude.{get_or, slice_set, ◌≢◌, ◌&&◌, nat_eq}
use Rattle.std.proofs.lemmas.List.{get_or-set_same, get_or-set_other}
use Rattle.std.proofs.lemmas.Bool.{eqb-false, eqb-true}
use Rattle.tl_verify.specs.declared.marks.Marks.{Marks}
use Rattle.tl_verify.specs.declared.arrivals.Arrivals.{Arrivals}
use Rattle.tl_verify.specs.Pass.{Merges, MergesWith}
use Rattle.tl_verify.specs.Known.{Gathers, Collects}

-- states that all hold the same registers as m; if `first` is spent in m, it is spent in one of them, otherwise in none
pub record IsClass (T : Marks → Type 0) (m : Marks) : Type 0 where
  pub some : (k : Marks) × T k × (k.held ≡ m.held)
  pub is_open : m.is_open ≡ true → (k : Marks) → T k → k.is_open ≡ true
  pub spent : m.is_open ≡ false → (k : Marks) × T k × (k.is_open ≡ false)
  pub alike : (k : Marks) → T k → k.held ≡ m.held

pub collects_same : (S T : Marks → Type 0) (o : Option Arrivals) → ((k : Marks) → S k → T k) → ((k : Marks) → T k → S k) → Collects S o → Collects T o
collects_same S T None f g h = λ k t. h k (g k t)
collects_same S T (Some a) f g h = record {
  some = let x = h.some in (x.0, f x.0 x.1, x.2);
  is_open = λ e k t. h.is_open e k (g k t);
  spent = λ e. let x = h.spent e in (x.0, f x.0 x.1, x.2);
  alike = λ e k t. h.alike e k (g k t);
  differs = λ e. let x = h.differs e in (x.0, x.1, f x.0 x.2, f x.1 x.3, x.4);
}

and_true : (a b : Bool) → (a && b) ≡ true → (a ≡ true) × (b ≡ true)
and_true true true e = (refl, refl)
and_true true false e = cc
and_true false b e = cc

and_false : (a b : Bool) → (a && b) ≡ false → (a ≡ false) ⊎ (b ≡ false)
and_false true false e = inr refl
and_false true true e = cc
and_false false b e = inl refl

module _ (S T : Marks → Type 0) (m : Marks) (new : Arrivals) (class : IsClass T m) where
  Both : Marks → Type 0
  Both k = S k ⊎ T k

  with_none : Collects S None → Merges None m new → Gathers (λ k. S k ⊎ T k) new
  with_none empty e = rw e (record {
    some = let x = class.some in (x.0, inr x.1, x.2);
    is_open = λ o k h. ⊎_elim (λ s. absurd (empty k s)) (λ t. class.is_open o k t) h;
    spent = λ o. let x = class.spent o in (x.0, inr x.1, x.2);
    alike = λ d k h. ⊎_elim (λ s. absurd (empty k s)) (λ t. class.alike k t) h;
    differs = λ d. cc;
  })

  with_some : (old : Arrivals) → Gathers S old → MergesWith old m new → Gathers (λ k. S k ⊎ T k) new
  with_some old g merges = record {
    some = let x = g.some in (x.0, inl x.1, x.2 ∙ sym merges.held);
    is_open = λ o k h.
        let both = and_true old.marks.is_open m.is_open (sym merges.is_open ∙ o) in
        ⊎_elim (λ s. g.is_open both.0 k s) (λ t. class.is_open both.1 k t) h;
    spent = λ o. ⊎_elim
        (λ e. let x = g.spent e in (x.0, inl x.1, x.2))
        (λ e. let x = class.spent e in (x.0, inr x.1, x.2))
        (and_false old.marks.is_open m.is_open (sym merges.is_open ∙ o));
    alike = λ d k h.
        let both = merges.alike d in
        ⊎_elim (λ s. g.alike both.0 k s ∙ sym merges.held) (λ t. class.alike k t ∙ sym both.1 ∙ sym merges.held) h;
    differs = λ d. ⊎_elim
        (λ e. let x = g.differs e in (x.0, x.1, inl x.2, inl x.3, x.4))
        (λ ne. let x = g.some in let y = class.some in (x.0, y.0, inl x.1, inr y.1, λ e. ne (sym x.2 ∙ e ∙ y.2)))
        (merges.differs d);
  }

  -- adding one more class of states
  pub merge : (o : Option Arrivals) → Collects S o → Merges o m new → Gathers (λ k. S k ⊎ T k) new
  merge None h merges = with_none h merges
  merge (Some old) h merges = with_some old h merges

-- adding a class of states at one position
pub joins : (n : ℕ) (S T : ℕ → Marks → Type 0) (to : ℕ) (m : Marks) (states : List (Option Arrivals)) (a : Arrivals)
    → to < length states → ((q : ℕ) (k : Marks) → T q k → q ≡ to) → IsClass (T to) m → Merges (get_or states to None) m a
    → ((q : ℕ) → q < n → Collects (S q) (get_or states q None))
    → (q : ℕ) → q < n → Collects (λ k. S q k ⊎ T q k) (get_or (slice_set states to (Some a)) q None)
joins n S T to m states a inside only class merges h q lt = cases (nat_eq q to) refl
  where
    cases : (b : Bool) → nat_eq q to ≡ b → Collects (λ k. S q k ⊎ T q k) (get_or (slice_set states to (Some a)) q None)
    cases true e =
        let same : q ≡ to = eqb-true q to e in
        subst (λ r. Collects (λ k. S r k ⊎ T r k) (get_or (slice_set states to (Some a)) r None)) (sym same)
        (rw (get_or-set_same states to (Some a) None inside)
        (merge (S to) (T to) m a class (get_or states to None) (h to (subst (λ r. r < n) same lt)) merges))
    cases false e =
        let ne : q ≢ to = eqb-false q to e in
        rw (get_or-set_other states to q (Some a) None ne)
        (collects_same (S q) (λ k. S q k ⊎ T q k) (get_or states q None) (λ k s. inl s) (λ k x. ⊎_elim (λ s. s) (λ t. absurd (ne (only q k t))) x) (h q lt))

-- adding no states
pub joins_none : (n : ℕ) (S T : ℕ → Marks → Type 0) (states : List (Option Arrivals)) → ((q : ℕ) (k : Marks) → T q k → ⊥)
    → ((q : ℕ) → q < n → Collects (S q) (get_or states q None))
    → (q : ℕ) → q < n → Collects (λ k. S q k ⊎ T q k) (get_or states q None)
joins_none n S T states none h q lt =
    collects_same (S q) (λ k. S q k ⊎ T q k) (get_or states q None) (λ k s. inl s) (λ k x. ⊎_elim (λ s. s) (λ t. absurd (none q k t)) x) (h q lt)
