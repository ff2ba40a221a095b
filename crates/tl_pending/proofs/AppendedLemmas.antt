-- Rows that are appended one after another.
use Rattle.std.proofs.Common.{◌≡◌, ℕ, ◌+◌, ◌<◌, List, [], ◌∷◌, ◌++◌, length, map, take, get_or, refl, sym, ap, ap₂, ◌∙◌, subst}
use Rattle.std.proofs.lemmas.List.{append-nil, append_assoc, map-append, take_more}
use Rattle.tl_pending.specs.Pendings.{Appends}

-- nothing was appended
pub none_yet : {A B : Type 0} (form : A → B) (old : List A) → Appends form [] old old
none_yet form old = ([], sym (append-nil old), refl)

-- one more row
pub one_more : {A B : Type 0} (form : A → B) (forms : List B) (row : A) (f : B) (old rows : List A) → form row ≡ f → Appends form forms old rows → Appends form (forms ++ f ∷ []) old (rows ++ row ∷ [])
one_more form forms row f old rows is so_far = (
  so_far.0 ++ row ∷ [],
  ap (λ l. l ++ row ∷ []) so_far.1 ∙ append_assoc old so_far.0 (row ∷ []),
  map-append form so_far.0 (row ∷ []) ∙ ap₂ (λ l x. l ++ x ∷ []) so_far.2 is,
)

-- one more row, of the next item
pub next_more : {A B C : Type 0} (form : A → B) (of : C → B) (items : List C) (index : ℕ) (item : C) (row : A) (old rows : List A) → index < length items → item ≡ get_or items index item
    → form row ≡ of item → Appends form (map of (take index items)) old rows → Appends form (map of (take (index + 1) items)) old (rows ++ row ∷ [])
next_more form of items index item row old rows inside is formed so_far =
    let taken : take (index + 1) items ≡ take index items ++ item ∷ [] = take_more items index item inside ∙ ap (λ x. take index items ++ x ∷ []) (sym is) in
    subst (λ forms. Appends form forms old (rows ++ row ∷ [])) (sym (map-append of (take index items) (item ∷ [])) ∙ ap (map of) (sym taken))
    (one_more form (map of (take index items)) row (of item) old rows formed so_far)
