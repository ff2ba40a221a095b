-- Positions in a list whose latest element is its last.
use Rattle.std.proofs.Common.{◌≡◌, ℕ, zero, suc, ◌<◌, ◌⊎◌, List, [], ◌∷◌, ◌++◌, length, refl, sym, ap, ◌∙◌, inl, inr, arith, Some, slice_get, reverse}
use Rattle.std.proofs.lemmas.List.{reverse-append}

-- a list with the latest element first, reversed
abbrev pub earliest_first : {A : Type 0} → List A → List A
earliest_first [] = []
earliest_first (a ∷ done) = earliest_first done ++ a ∷ []

pub earliest_first-reverse : {A : Type 0} (done : List A) → earliest_first done ≡ reverse done
earliest_first-reverse [] = refl
earliest_first-reverse (a ∷ done) = ap (λ z. z ++ a ∷ []) (earliest_first-reverse done) ∙ sym (reverse-append (a ∷ []) done)

-- ---- places in a list with one more action

pub place_kept : {A : Type 0} (xs ys : List A) (k : ℕ) (b : A) → slice_get xs k ≡ Some b → slice_get (xs ++ ys) k ≡ Some b
place_kept [] ys k b h = absurd cc
place_kept (x ∷ xs) ys zero b h = h
place_kept (x ∷ xs) ys (suc k) b h = place_kept xs ys k b h

pub place_back : {A : Type 0} (xs ys : List A) (k : ℕ) (b : A) → k < length xs → slice_get (xs ++ ys) k ≡ Some b → slice_get xs k ≡ Some b
place_back [] ys k b lt h = absurd (omega arith)
place_back (x ∷ xs) ys zero b lt h = h
place_back (x ∷ xs) ys (suc k) b lt h = place_back xs ys k b (omega arith) h

pub place_new : {A : Type 0} (xs : List A) (a : A) → slice_get (xs ++ a ∷ []) (length xs) ≡ Some a
place_new [] a = refl
place_new (x ∷ xs) a = place_new xs a

pub place_cases : {A : Type 0} (xs : List A) (a b : A) (k : ℕ) → slice_get (xs ++ a ∷ []) k ≡ Some b → ((k < length xs) × (slice_get xs k ≡ Some b)) ⊎ ((k ≡ length xs) × (a ≡ b))
place_cases [] a b zero h = inr (refl, cc)
place_cases [] a b (suc k) h = absurd cc
place_cases (x ∷ xs) a b zero h = inl (omega arith, h)
place_cases (x ∷ xs) a b (suc k) h = elim (place_cases xs a b k h) [
  | inl old ↦ let lt = old.0 in inl (omega arith, old.1)
  | inr new ↦ inr (ap suc new.0, new.1)
]
