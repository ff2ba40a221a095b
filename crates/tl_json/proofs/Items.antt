-- Reading items one after another, and lists of another length.
use Rattle.std.proofs.Common.{◌≡◌, ◌≢◌, ◌<◌, ◌+◌, ℕ, List, [], ◌∷◌, ◌++◌, map, drop, get_or, length, Option, Some, None, option_map, option_and_then, refl, sym, ap}
use Rattle.std.proofs.lemmas.List.{append_assoc, map_push, drop_more}
use Rattle.std.specs.Prelude.{Vec}
use Rattle.std.specs.declared.alloc.Global.{Global}
use Rattle.serde_json.specs.Data.{Data}
use Rattle.serde_json.specs.Find.{as_array}
use Rattle.serde_json.specs.View.{view, items_view}
use Rattle.serde_json.specs.declared.value.Value.{Value}
use Rattle.tl_tree.specs.Reading.{each_item}
use Rattle.tl_tree.proofs.Items.{onto}
use Rattle.tl_json.specs.Lists.{items_of_list}
use Rattle.tl_json.specs.Procedures.{procedure_in, procedure_of}
use Rattle.tl_json.specs.Requests.{request_in, request_of}
use Rattle.tl_tree.specs.declared.record.Width.{Width}
use Rattle.tl_json.specs.Events.{event_in, event_of}

some_pushed : {A : Type 0} (xs ys : List A) (y : A) → onto xs (Some (y ∷ ys)) ≡ onto (xs ++ y ∷ []) (Some ys)
some_pushed xs ys y = ap Some (sym (append_assoc xs (y ∷ []) ys))

pushed : {A : Type 0} (xs : List A) (o : Option A) (y : A) (rest : Option (List A)) → o ≡ Some y → onto xs (option_and_then (λ x. option_map (λ zs. x ∷ zs) rest) o) ≡ onto (xs ++ y ∷ []) rest
pushed xs o y None e = rw e refl
pushed xs o y (Some ys) e = rw e (some_pushed xs ys y)

-- one more item is read
pub item_read : {X A : Type 0} (f : X → A) (g : Data → Option A) (xs : List X) (x : X) (vs : List Value) (i : ℕ) (d : Value) → i < length vs → g (view (get_or vs i d)) ≡ Some (f x)
    → onto (map f (xs ++ x ∷ [])) (each_item g (items_view (drop (i + 1) vs))) ≡ onto (map f xs) (each_item g (items_view (drop i vs)))
item_read f g xs x vs i d lt e =
    let next = pushed (map f xs) (g (view (get_or vs i d))) (f x) (each_item g (items_view (drop (i + 1) vs))) e in
    rw (map_push f xs x, drop_more vs i d lt) (sym next)

-- ---- lists of another length

not_two : (vs : List Value) → length vs ≢ 2 → procedure_in (items_of_list (items_view vs)) ≡ None
not_two [] other = refl
not_two (a ∷ []) other = refl
not_two (a ∷ b ∷ []) other = absurd (other refl)
not_two (a ∷ b ∷ c ∷ vs) other = refl

no_request : (vs : List Value) → length vs ≢ 2 → request_in (items_of_list (items_view vs)) ≡ None
no_request [] other = refl
no_request (a ∷ []) other = refl
no_request (a ∷ b ∷ []) other = absurd (other refl)
no_request (a ∷ b ∷ c ∷ vs) other = refl

neither : (width : Width) (vs : List Value) → length vs ≢ 2 → length vs ≢ 4 → event_in width (items_of_list (items_view vs)) ≡ None
neither width [] two four = refl
neither width (a ∷ []) two four = refl
neither width (a ∷ b ∷ []) two four = absurd (two refl)
neither width (a ∷ b ∷ c ∷ []) two four = refl
neither width (a ∷ b ∷ c ∷ d ∷ []) two four = absurd (four refl)
neither width (a ∷ b ∷ c ∷ d ∷ e ∷ vs) two four = refl

pub no_procedure_in : (d : Data) (vs : List Value) → Some (items_view vs) ≡ as_array d → length vs ≢ 2 → None ≡ procedure_of d
no_procedure_in d vs is other = rw (sym is) (sym (not_two vs other))

pub no_request_in : (d : Data) (vs : List Value) → Some (items_view vs) ≡ as_array d → length vs ≢ 2 → None ≡ request_of d
no_request_in d vs is other = rw (sym is) (sym (no_request vs other))

pub no_event_in : (width : Width) (d : Data) (vs : List Value) → Some (items_view vs) ≡ as_array d → length vs ≢ 2 → length vs ≢ 4 → None ≡ event_of width d
no_event_in width d vs is two four = rw (sym is) (sym (neither width vs two four))

-- ---- items that are their own forms

map_same : {A : Type 0} (xs : List A) → map (λ x. x) xs ≡ xs
map_same [] = refl
map_same (x ∷ xs) = ap (λ ys. x ∷ ys) (map_same xs)

pub own_forms : {A : Type 0} (found : Option (Vec A Global)) → option_map (λ v. v.items) found ≡ option_map (λ v. map (λ x. x) v.items) found
own_forms None = refl
own_forms (Some v) = ap Some (sym (map_same v.items))
