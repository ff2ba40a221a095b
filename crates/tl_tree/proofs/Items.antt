-- Reading the items of a list one after another.
use Rattle.std.proofs.Common.{◌≡◌, ◌≢◌, ℕ, suc, ◌+◌, ◌<◌, ℤ, List, [], ◌∷◌, ◌++◌, length, get_or, take, map, Option, Some, None, option_map, option_and_then, refl, sym, ap, ap₂, ◌∙◌, ne_eqb}
use Rattle.std.proofs.lemmas.List.{map_push, map_more}
use Rattle.serde_json.specs.Data.{Data}
use Rattle.serde_json.specs.View.{view, items_view}
use Rattle.serde_json.specs.declared.value.Value.{Value}
use Rattle.tl_tree.specs.declared.record.Width.{Width}
use Rattle.tl_tree.specs.Records.{width_of}
use Rattle.tl_tree.specs.Reading.{each_item, integer_of, if_record}

-- the items read so far, followed by the rest
abbrev pub onto : {A : Type 0} → List A → Option (List A) → Option (List A)
onto done rest = option_map (λ xs. done ++ xs) rest

-- reading gives as many results as there are items
each_or : {A : Type 0} (o : Option A) (rest : Option (List A)) (n : ℕ) (xs : List A) → ((ys : List A) → rest ≡ Some ys → length ys ≡ n) → option_and_then (λ x. option_map (λ zs. x ∷ zs) rest) o ≡ Some xs → length xs ≡ suc n
each_or None rest n xs h e = absurd cc
each_or (Some x) None n xs h e = absurd cc
each_or (Some x) (Some ys) n xs h e = let same : x ∷ ys ≡ xs = cc in ap length (sym same) ∙ ap suc (h ys refl)

pub length-each_item : {A : Type 0} (f : Data → Option A) (vs : List Value) (xs : List A) → each_item f (items_view vs) ≡ Some xs → length xs ≡ length vs
length-each_item f [] xs e = let same : [] ≡ xs = cc in ap length (sym same)
length-each_item f (v ∷ vs) xs e = each_or (f (view v)) (each_item f (items_view vs)) (length vs) xs (length-each_item f vs) e

no_record : (width : Width) (o : Option (List ℤ)) (n : ℕ) → ((xs : List ℤ) → o ≡ Some xs → length xs ≡ n) → n ≢ width_of width → None ≡ option_and_then (if_record width) o
no_record width None n h other = refl
no_record width (Some xs) n h other =
    let size = h xs refl in
    rw (ne_eqb (length xs) (width_of width) (λ e. other (sym size ∙ e)))

-- a list whose length isn't the width is no record
pub other_width : (width : Width) (vs : List Value) → length vs ≢ width_of width → None ≡ option_and_then (if_record width) (each_item integer_of (items_view vs))
other_width width vs other = no_record width (each_item integer_of (items_view vs)) (length vs) (length-each_item integer_of vs) other

-- one more value is written
pub views_more : {A : Type 0} (f : A → Data) (vs : List Value) (v : Value) (xs : List A) (i : ℕ) (d : A) → i < length xs → map view vs ≡ map f (take i xs) → view v ≡ f (get_or xs i d)
    → map view (vs ++ v ∷ []) ≡ map f (take (i + 1) xs)
views_more f vs v xs i d inside so_far is = map_push view vs v ∙ ap₂ (λ ds e. ds ++ e ∷ []) so_far is ∙ sym (map_more f xs i d inside)
