-- The reply of a call that is done, and rows of replies.
use Rattle.std.proofs.Common.{◌≡◌, ℕ, zero, suc, ◌+◌, ◌<◌, ℤ, List, [], ◌∷◌, length, get_or, Bool, true, false, if◌then◌else◌, Some, None, refl, sym, ap, ◌∙◌, subst, inl, inr, arith}
use Rattle.std.proofs.lemmas.Bool.{cases_eq}
use Rattle.std.specs.Prelude.{All}

pub replied : (is_done : Bool) (found reply : List ℤ) → Some found ≡ (if is_done then Some reply else None) → (is_done ≡ true) × (found ≡ reply)
replied true found reply is = (refl, cc)
replied false found reply is = absurd cc

at_any : {X : Type 0} (xs : List X) (i : ℕ) (d e : X) → i < length xs → get_or xs i d ≡ get_or xs i e
at_any [] i d e within = absurd (omega arith)
at_any (x ∷ xs) zero d e within = refl
at_any (x ∷ xs) (suc i) d e within = at_any xs i d e (omega arith)

-- one item more
pub more_items : {X : Type 0} (P : X → Type 0) (xs : List X) (i : ℕ) (x : X) → i < length xs → x ≡ get_or xs i x → P x
    → ((n : ℕ) (d : X) → n < i → P (get_or xs n d)) → (n : ℕ) (d : X) → n < i + 1 → P (get_or xs n d)
more_items P xs i x within is here before n d lt = elim (cases_eq n i) [
  | inl same ↦ subst P (is ∙ at_any xs i x d within ∙ ap (λ k. get_or xs k d) (sym same)) here
  | inr other ↦ before n d (omega arith)
]

-- the item at a position
pub at_item : {X : Type 0} (P : X → Type 0) (xs : List X) (i : ℕ) (x : X) → i < length xs → x ≡ get_or xs i x → All P xs → P x
at_item P xs i x within is all = subst P (sym is) (all i x within)
