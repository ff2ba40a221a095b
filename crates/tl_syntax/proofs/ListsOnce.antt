-- Two lists that are read from the same token, item by item: if each item has only one end, so does the list.
use Rattle.std.proofs.Common.{◌≡◌, ℕ, List, [], ◌∷◌, ◌++◌, refl, sym, subst}

-- what follows the items read so far
pub data Rest {A : Type 0} (Item : ℕ → ℕ → A → Type 0) : ℕ → List A → ℕ → List A → Type 0 where
  done : {j : ℕ} {xs : List A} → Rest Item j xs j xs
  step : {j k m : ℕ} {x : A} {xs ys : List A} → Item j k x → Rest Item k (xs ++ x ∷ []) m ys → Rest Item j xs m ys

pub append : {A : Type 0} {Item : ℕ → ℕ → A → Type 0} {j k l : ℕ} {xs ys : List A} {y : A} → Rest Item j xs k ys → Item k l y → Rest Item j xs l (ys ++ y ∷ [])
append done h = step h done
append (step g r) h = step g (append r h)

rest_follows : {A : Type 0} {Item : ℕ → ℕ → A → Type 0} (Follows : ℕ → Type 0) (begins : (j k : ℕ) (x : A) → Item j k x → Follows j) {j m : ℕ} {xs ys : List A} →
    Rest Item j xs m ys → Follows m → Follows j
rest_follows Follows begins done f = f
rest_follows Follows begins (step {j = j} {k = k} {x = x} h r) f = begins j k x h

-- the second list goes on where the first one ends, or the first one goes on after the second
pub data Compared {A : Type 0} (Item : ℕ → ℕ → A → Type 0) (Pairs : List A → List A → Type 0) (j : ℕ) (xs : List A) (m : ℕ) (ys : List A) : Type 0 where
  within : {read : List A} → Rest Item j read m ys → Pairs xs read → Compared Item Pairs j xs m ys
  beyond : {l : ℕ} {y : A} → Item m l y → Compared Item Pairs j xs m ys

pub another_compared : {A : Type 0} (Item : ℕ → ℕ → A → Type 0) (Same : A → A → Type 0) (Pairs : List A → List A → Type 0) (Follows : ℕ → Type 0) →
    ((j k : ℕ) (x : A) → Item j k x → Follows j) → ((xs ys : List A) (x y : A) → Pairs xs ys → Same x y → Pairs (xs ++ x ∷ []) (ys ++ y ∷ [])) →
    (j k m : ℕ) (xs ys : List A) (x : A) → Item j k x → (Follows k → (l : ℕ) (y : A) → Item j l y → Follows l → (k ≡ l) × Same x y) → Follows k → Follows m →
    Compared Item Pairs j xs m ys → Compared Item Pairs k (xs ++ x ∷ []) m ys
another_compared Item Same Pairs Follows begins next j k m xs ys x h once f g (beyond q) = beyond q
another_compared Item Same Pairs Follows begins next j k m xs ys x h once f g (within done p) = beyond h
another_compared Item Same Pairs Follows begins next j k m xs ys x h once f g (within {read = read} (step {k = l} {x = y} q r) p) =
    let same = once f l y q (rest_follows Follows begins r g) in
    within (subst (λ z. Rest Item z (read ++ y ∷ []) m ys) (sym same.0) r) (next xs read x y p same.1)

pub list_end : {A : Type 0} {Item : ℕ → ℕ → A → Type 0} {Pairs : List A → List A → Type 0} (j m : ℕ) (xs ys : List A) → Compared Item Pairs j xs m ys →
    ((l : ℕ) (y : A) → Item j l y → ⊥) → ((l : ℕ) (y : A) → Item m l y → ⊥) → (j ≡ m) × Pairs xs ys
list_end j m xs ys (within done p) f g = (refl, p)
list_end j m xs ys (within (step {k = k} {x = x} h r) p) f g = absurd (f k x h)
list_end j m xs ys (beyond {l = l} {y = y} h) f g = absurd (g l y h)
