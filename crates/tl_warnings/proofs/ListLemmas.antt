-- Lists that are gone through from the front.
use Rattle.std.proofs.Common.{◌≡◌, ◌∙◌, ℕ, suc, ◌+◌, ◌-◌, ◌<◌, ◌≤◌, List, [], ◌∷◌, ◌++◌, length, get_or, take, drop, drop-cons, sym, ap, ap₂, subst, arith}
use Rattle.std.proofs.lemmas.List.{take_more, take_all, drop_all, length-drop}

-- one element more of those that were gone through
pub taken_more : {A : Type 0} (P : List A → Type 0) (xs : List A) (i : ℕ) (x : A) → i < length xs → x ≡ get_or xs i x → P (take i xs ++ x ∷ []) → P (take (i + 1) xs)
taken_more P xs i x inside is = subst P (ap (λ y. take i xs ++ y ∷ []) is ∙ sym (take_more xs i x inside))

pub taken_all : {A : Type 0} (P : List A → Type 0) (xs : List A) (i : ℕ) → length xs ≤ i → P (take i xs) → P xs
taken_all P xs i past = subst P (take_all i xs past)

-- the first of those that are left
pub left_next : {A : Type 0} (xs : List A) (i : ℕ) (x : A) → i < length xs → x ≡ get_or xs i x → drop i xs ≡ x ∷ drop (i + 1) xs
left_next xs i x inside is = let one : suc i ≡ i + 1 = omega arith in drop-cons xs i x inside ∙ ap₂ (λ y j. y ∷ drop j xs) (sym is) one

pub left_none : {A : Type 0} (xs : List A) (i : ℕ) → length xs ≤ i → drop i xs ≡ []
left_none xs i past = drop_all i xs past

-- what is left behind one more, as a slice to the end
pub all_left : {A : Type 0} (xs : List A) (i : ℕ) → take (length xs - (i + 1)) (drop (i + 1) xs) ≡ drop (i + 1) xs
all_left xs i = take_all (length xs - (i + 1)) (drop (i + 1) xs) (omega (arith, length-drop (i + 1) xs))
