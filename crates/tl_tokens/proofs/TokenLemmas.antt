-- The values with which tokens begin, one after another.
use Rattle.std.proofs.Common.{◌≡◌, ℕ, ◌-◌, ◌<◌, ◌≤◌, List, [], ◌∷◌, ◌++◌, map, length, Bool, Option, Some, None, option_map, option_and_then, refl, ap, ◌∙◌, arith}
use Rattle.std.specs.Prelude.{MatchOption, is_some, false}
use Rattle.json.specs.Token.{Token}
use Rattle.json.specs.Json as json
use Rattle.json.specs.Json.{Parse, parse_map, after_end_array, read_key, items, members, if_last, value}
use Rattle.json.proofs.Grammar.{value_is, items_end, items_more, members_end, members_more, value-begin_array, value-begin_object}
use Rattle.serde_json.specs.Data.{Data, Num, null, boolean, number, string, array, object, Items, no_items, item, Members, no_members, put}
use Rattle.serde_json.specs.Read.{number_of, of_json, of_items, of_members, converted}
use Rattle.serde_json.specs.View.{view, items_view}
use Rattle.serde_json.specs.declared.value.Value.{Value}
use Rattle.tl_tokens.specs.Tokens.{BeginsWith}

-- ---- what was read is of a value of JSON

abbrev or : {A : Type 0} → A → Option A → A
or a None = a
or a (Some b) = b

pub same_some : {A : Type 0} (a b : A) → Some a ≡ Some b → a ≡ b
same_some a b e = ap (or a) e

pub if_none : {A P : Type 0} (Q : A → Type 0) (o : Option A) → false ≡ is_some o → MatchOption o P Q → P
if_none Q None e h = h
if_none Q (Some a) e h = absurd cc

with_rest : {B : Type 0} (r s : List Token) (o : Option B) (b : B) → option_map {U = B × List Token} (λ y. (y, r)) o ≡ Some (b, s) → (r ≡ s) × (o ≡ Some b)
with_rest r s None b e = absurd (cc)
with_rest r s (Some y) b e = let same = ap (or (y, r)) e in (ap (λ p. p.1) same, ap (λ p. Some p.0) same)

pub converted_from : {A B : Type 0} (f : A → Option B) (o : Option (A × List Token)) (b : B) (r : List Token) → converted f o ≡ Some (b, r) → (a : A) × (o ≡ Some (a, r)) × (f a ≡ Some b)
converted_from f None b r e = absurd (cc)
converted_from f (Some p) b r e = let h = with_rest p.1 r (f p.0) b e in (p.0, ap (λ s. Some (p.0, s)) h.0, h.1)

both_ways : {A B : Type 0} (g : A → B) (r : List Token) (o : Option A) → option_map (λ b. (b, r)) (option_map g o) ≡ parse_map g (option_map (λ a. (a, r)) o)
both_ways g r None = refl
both_ways g r (Some a) = refl

pub array_converted : (o : Option (json.Items × List Token)) → converted of_json (parse_map json.array o) ≡ parse_map array (converted of_items o)
array_converted None = refl
array_converted (Some p) = both_ways array p.1 (of_items p.0)

pub object_converted : (o : Option (json.Members × List Token)) → converted of_json (parse_map json.object o) ≡ parse_map object (converted (λ ms. of_members ms no_members) o)
object_converted None = refl
object_converted (Some p) = both_ways object p.1 (of_members p.0 no_members)

item_converted : (j : json.Json) (d : Data) → of_json j ≡ Some d → (o : Option (json.Items × List Token)) → converted of_items (parse_map (json.item j) o) ≡ parse_map (item d) (converted of_items o)
item_converted j d e None = refl
item_converted j d e (Some p) = rw e (both_ways (item d) p.1 (of_items p.0))

member_converted : (k : List ℕ) (j : json.Json) (d : Data) (before : Members) → of_json j ≡ Some d → (o : Option (json.Members × List Token))
    → converted (λ ms. of_members ms before) (parse_map (json.member k j) o) ≡ converted (λ ms. of_members ms (put k d before)) o
member_converted k j d before e None = refl
member_converted k j d before e (Some p) = rw e

-- ---- a list and an object, where they begin and one item or member on

pub list_begins : (depth : ℕ) (ts : List Token) → 0 < depth → converted of_json (value depth (Token.begin_array ∷ ts)) ≡ parse_map array (converted of_items (items (value (depth - 1)) (length ts) ts))
list_begins depth ts some = ap (converted of_json) (value-begin_array depth ts some) ∙ array_converted (items (value (depth - 1)) (length ts) ts)

pub object_begins : (depth : ℕ) (ts : List Token) → 0 < depth
    → converted of_json (value depth (Token.begin_object ∷ ts)) ≡ parse_map object (converted (λ ms. of_members ms no_members) (members (value (depth - 1)) (length ts) ts))
object_begins depth ts some = ap (converted of_json) (value-begin_object depth ts some) ∙ object_converted (members (value (depth - 1)) (length ts) ts)

module _ (p : Parse json.Json) (n : ℕ) (ts : List Token) where
  pub one_item : (r : List Token) (d : Data) → 0 < n → after_end_array ts ≡ None → converted of_json (p ts) ≡ Some (d, r) → converted of_items (items p n ts) ≡ parse_map (item d) (converted of_items (items p (n - 1) r))
  one_item r d some goes_on e = let j = converted_from of_json (p ts) d r e in ap (converted of_items) (items_more p n ts r j.0 some goes_on j.1) ∙ item_converted j.0 d j.2 _

  pub no_item : (r : List Token) → length ts ≤ n → after_end_array ts ≡ Some r → converted of_items (items p n ts) ≡ Some (no_items, r)
  no_item r enough e = ap (converted of_items) (items_end p n ts r enough e)

  pub one_member : (before : Members) (k : List ℕ) (s r : List Token) (d : Data) → 0 < n → read_key ts ≡ Some (Some k, s) → converted of_json (p s) ≡ Some (d, r)
      → converted (λ ms. of_members ms before) (members p n ts) ≡ converted (λ ms. of_members ms (put k d before)) (members p (n - 1) r)
  one_member before k s r d some named e =
      let j = converted_from of_json (p s) d r e in
      ap (converted (λ ms. of_members ms before)) (members_more p n k ts s r j.0 some named j.1) ∙ member_converted k j.0 d before j.2 _

  pub no_member : (before : Members) (r : List Token) → length ts ≤ n → read_key ts ≡ Some (None, r) → converted (λ ms. of_members ms before) (members p n ts) ≡ Some (before, r)
  no_member before r enough e = ap (converted (λ ms. of_members ms before)) (members_end p n ts r enough e)

-- ---- the whole text

pub whole : (o : Option (json.Json × List Token)) (d : Data) → converted of_json o ≡ Some (d, []) → option_and_then of_json (option_and_then (λ p. if_last p.0 p.1) o) ≡ Some d
whole o d e = let j = converted_from of_json o d [] e in ap (λ q. option_and_then of_json (option_and_then (λ p. if_last p.0 p.1) q)) j.1 ∙ j.2

-- ---- items that come one after another

-- these items, followed by the others
abbrev pub items_onto : List Data → Items → Items
items_onto [] more = more
items_onto (d ∷ ds) more = item d (items_onto ds more)

onto_one : (ds : List Data) (d : Data) (more : Items) → items_onto ds (item d more) ≡ items_onto (ds ++ d ∷ []) more
onto_one [] d more = refl
onto_one (x ∷ ds) d more = ap (item x) (onto_one ds d more)

pub parsed_one : (ds : List Data) (d : Data) (r : Option (Items × List Token)) → parse_map (items_onto ds) (parse_map (item d) r) ≡ parse_map (items_onto (ds ++ d ∷ [])) r
parsed_one ds d None = refl
parsed_one ds d (Some p) = ap (λ ms. Some (ms, p.1)) (onto_one ds d p.0)

pub parsed_none : (r : Option (Items × List Token)) → r ≡ parse_map (items_onto []) r
parsed_none None = refl
parsed_none (Some p) = refl

pub onto_views : (vs : List Value) → items_onto (map view vs) no_items ≡ items_view vs
onto_views [] = refl
onto_views (v ∷ vs) = ap (item (view v)) (onto_views vs)

-- ---- one value

module _ (depth : ℕ) (ts rest : List Token) where
  pub value_of : (d : Data) → BeginsWith Some depth ts d rest → converted of_json (value depth ts) ≡ Some (d, rest)
  value_of d h = h.is_value ∙ ap (option_map (λ y. (y, rest))) h.stands

  pub stands_for : {A : Type 0} (f : Data → Option A) (d : Data) (a : A) → BeginsWith Some depth ts d rest → f d ≡ Some a → BeginsWith f depth ts a rest
  stands_for f d a h e = record { found = d; is_value = value_of d h; stands = e; shorter = h.shorter }

  pub begins_null : ts ≡ Token.null ∷ rest → BeginsWith Some depth ts null rest
  begins_null is = record { found = null; is_value = ap (converted of_json) (ap (value depth) is ∙ value_is depth (Token.null ∷ rest)); stands = refl; shorter = rw is (omega arith) }

  pub begins_boolean : (b : Bool) → ts ≡ Token.boolean b ∷ rest → BeginsWith Some depth ts (boolean b) rest
  begins_boolean b is = record { found = boolean b; is_value = ap (converted of_json) (ap (value depth) is ∙ value_is depth (Token.boolean b ∷ rest)); stands = refl; shorter = rw is (omega arith) }

  pub begins_string : (s : List ℕ) → ts ≡ Token.string s ∷ rest → BeginsWith Some depth ts (string s) rest
  begins_string s is = record { found = string s; is_value = ap (converted of_json) (ap (value depth) is ∙ value_is depth (Token.string s ∷ rest)); stands = refl; shorter = rw is (omega arith) }

  pub begins_number : (s : List ℕ) (n : Num) → ts ≡ Token.number s ∷ rest → number_of s ≡ Some n → BeginsWith Some depth ts (number n) rest
  begins_number s n is e = record {
    found = number n;
    is_value = ap (converted of_json) (ap (value depth) is ∙ value_is depth (Token.number s ∷ rest)) ∙ ap (λ o. option_map (λ b. (b, rest)) (option_map number o)) e;
    stands = refl;
    shorter = rw is (omega arith);
  }

  pub begins_array : (s : List Token) (xs : Items) → ts ≡ Token.begin_array ∷ s → 0 < depth → converted of_items (items (value (depth - 1)) (length s) s) ≡ Some (xs, rest) → length rest < length s
      → BeginsWith Some depth ts (array xs) rest
  begins_array s xs is some e less = record {
    found = array xs;
    is_value = ap (λ u. converted of_json (value depth u)) is ∙ list_begins depth s some ∙ ap (parse_map array) e;
    stands = refl;
    shorter = rw is (omega (arith, less));
  }

  pub begins_object : (s : List Token) (xs : Members) → ts ≡ Token.begin_object ∷ s → 0 < depth → converted (λ ms. of_members ms no_members) (members (value (depth - 1)) (length s) s) ≡ Some (xs, rest)
      → length rest < length s → BeginsWith Some depth ts (object xs) rest
  begins_object s xs is some e less = record {
    found = object xs;
    is_value = ap (λ u. converted of_json (value depth u)) is ∙ object_begins depth s some ∙ ap (parse_map object) e;
    stands = refl;
    shorter = rw is (omega (arith, less));
  }
