-- The lists that tokens begin with, read item by item.
use Rattle.std.proofs.Common.{◌≡◌, ℕ, List, [], ◌∷◌, ◌++◌, Option, Some, option_map, option_and_then, refl, ap, ◌∙◌, arith}
use Rattle.json.specs.Token.{Token}
use Rattle.json.specs.Json.{parse_map, value}
use Rattle.serde_json.specs.Data.{Data, array, no_items}
use Rattle.serde_json.specs.Read.{of_json, converted}
use Rattle.tl_tree.specs.Reading.{each_item}
use Rattle.tl_json.specs.Lists.{each_of}
use Rattle.tl_tokens.specs.Tokens.{BeginsWith}
use Rattle.tl_tokens.proofs.TokenLemmas.{items_onto, list_begins}
use Rattle.tl_trail.specs.Tokens.{member_depth, BeginsWithItems}

-- ---- what items stand for

-- for each item f returns the result at its place
abbrev pub Stand : {A : Type 0} → (Data → Option A) → List Data → List A → Type 0
Stand f [] [] = Unit {0}
Stand f [] (a ∷ each) = ⊥
Stand f (d ∷ ds) [] = ⊥
Stand f (d ∷ ds) (a ∷ each) = (f d ≡ Some a) × Stand f ds each

pub one_stands : {A : Type 0} (f : Data → Option A) (ds : List Data) (each : List A) (d : Data) (a : A) → Stand f ds each → f d ≡ Some a → Stand f (ds ++ d ∷ []) (each ++ a ∷ [])
one_stands f [] [] d a h e = (e, tt)
one_stands f [] (b ∷ each) d a h e = absurd h
one_stands f (x ∷ ds) [] d a h e = absurd h
one_stands f (x ∷ ds) (b ∷ each) d a h e = (h.0, one_stands f ds each d a h.1 e)

pub all_stand : {A : Type 0} (f : Data → Option A) (ds : List Data) (each : List A) → Stand f ds each → each_item f (items_onto ds no_items) ≡ Some each
all_stand f [] [] h = refl
all_stand f [] (a ∷ each) h = absurd h
all_stand f (d ∷ ds) [] h = absurd h
all_stand f (d ∷ ds) (a ∷ each) h = ap (option_and_then (λ x. option_map (λ xs. x ∷ xs) (each_item f (items_onto ds no_items)))) h.0 ∙ ap (option_map (λ xs. a ∷ xs)) (all_stand f ds each h.1)

-- ---- a list

module _ (depth : ℕ) (ts rest : List Token) where
  pub begins_list : {A : Type 0} (f : Data → Option A) (s : List Token) (each : List A) → ts ≡ Token.begin_array ∷ s → depth ≡ member_depth → BeginsWithItems f s each rest → BeginsWith (each_of f) depth ts each rest
  begins_list f s each is at h = record {
    found = array h.found;
    is_value = ap (λ u. converted of_json (value depth u)) is ∙ ap (λ d. converted of_json (value d (Token.begin_array ∷ s))) at ∙ list_begins member_depth s (omega arith) ∙ ap (parse_map array) h.are_items;
    stands = h.stand;
    shorter = rw is (omega (arith, h.shorter));
  }
