-- The text written for data is read back as that data.
use Rattle.std.proofs.Common.{◌≡◌, ℕ, suc, max, ◌<◌, ◌≤◌, ◌^◌, ℤ, pos, negsuc, List, [], ◌∷◌, map, false, Option, Some, Result, option_map, option_and_then, refl, sym, ap, ap₂, ◌∙◌, subst, arith, append-nil}
use Rattle.std.specs.Prelude.{All, FitsSigned, OnOk}
use Rattle.std.proofs.lemmas.Result.{on_ok_weaker}
use Rattle.std.specs.Int.{w64}
use Rattle.json.specs.Token.{Token}
use Rattle.json.specs.Lex.{tokens}
use Rattle.json.specs.Json as json
use Rattle.json.specs.Tree as tree
use Rattle.json.proofs.Numbered.{value-HasNumbers, ArePrintableOrBad-tokens}
use Rattle.json.proofs.Printed.Tokens.{tokens-print}
use Rattle.json.proofs.Printed.Trees.{value-json_tokens, ArePrintable-json_tokens}
use Rattle.json.proofs.Printed.Decimals.{IsNumber-decimal, IsNumber-signed_decimal}
use Rattle.serde_json.specs.Data.{Data, null, boolean, number, string, array, object, Items, no_items, item, Members, no_members, member, depth, items_depth, members_depth}
use Rattle.serde_json.specs.Read.{read, max_depth, of_json, of_items}
use Rattle.serde_json.specs.View.{items_of}
use Rattle.serde_json.specs.Written.{outline, items_outline, members_outline, has_float, compact_text, IsInOrder}
use Rattle.serde_json.proofs.Numbers.{number_of-decimal, number_of-negative}
use Rattle.serde_json.proofs.Texts.{tokens_from_order, print-outline}
use Rattle.tl_tree.specs.Writing.{integer_data, integers_data}
use Rattle.tl_json.specs.Lists.{natural, list_data}
use Rattle.tl_trail.specs.ReadsBack.{IsReadBack, Adds}

-- the same for items
pub record AreReadBack (ds : Items) : Type 0 where
  pub numbers : tree.ItemsHaveNumbers (items_outline ds)
  pub same : of_items (items_outline ds) ≡ Some ds

-- ---- texts

mutual
  depth_outline : (d : Data) → tree.depth (outline d) ≡ depth d
  depth_outline null = refl
  depth_outline (boolean b) = refl
  depth_outline (number n) = refl
  depth_outline (string s) = refl
  depth_outline (array ds) = ap (λ n. suc n) (items_depth_outline ds)
  depth_outline (object ms) = ap (λ n. suc n) (members_depth_outline ms)

  items_depth_outline : (ds : Items) → tree.items_depth (items_outline ds) ≡ items_depth ds
  items_depth_outline no_items = refl
  items_depth_outline (item d ds) = ap₂ max (depth_outline d) (items_depth_outline ds)

  members_depth_outline : (ms : Members) → tree.members_depth (members_outline ms) ≡ members_depth ms
  members_depth_outline no_members = refl
  members_depth_outline (member k d ms) = ap₂ max (depth_outline d) (members_depth_outline ms)

-- the data of a parsed text
abbrev data_of : Option (json.Json × List Token) → Option Data
data_of parsed = option_and_then of_json (option_and_then (λ p. json.if_last p.0 p.1) parsed)

-- the text of data that is read back is read as that data
pub text_read : (d : Data) → IsReadBack d → depth d ≤ max_depth → read (compact_text d) ≡ Some d
text_read d back shallow =
    let ts = tree.json_tokens (outline d) in
    let lexed = ap tokens (sym (print-outline d)) ∙ tokens-print ts (ArePrintable-json_tokens (outline d) back.numbers) ∙ sym (append-nil ts) in
    let parsed = value-json_tokens (outline d) max_depth [] (omega (arith, depth_outline d)) in
    ap data_of (ap (json.value max_depth) lexed ∙ parsed) ∙ back.same

-- data that was read from a text is read back
pub text_back : (text : List ℕ) (d : Data) → IsInOrder text d → has_float d ≡ false → depth d ≤ max_depth → read text ≡ Some d → IsReadBack d
text_back text d order whole shallow is =
    let lexed = tokens_from_order text d order whole ∙ sym (append-nil (tree.json_tokens (outline d))) in
    let parsed = ap (json.value max_depth) lexed ∙ value-json_tokens (outline d) max_depth [] (omega (arith, depth_outline d)) in
    record { numbers = value-HasNumbers max_depth (tokens text) [] (outline d) (ArePrintableOrBad-tokens text) parsed; same = sym (ap data_of parsed) ∙ is }

-- what was appended for a value, in terms of equal data
pub added : {U E : Type 0} (r : Result U E) (old new : List ℕ) (v d : Data) → v ≡ d → has_float d ≡ false → depth d ≤ max_depth
    → OnOk r (has_float v ≡ false → depth v ≤ max_depth → Adds old new v) → OnOk r (Adds old new d)
added r old new v d is whole shallow h =
    on_ok_weaker r (λ f. subst (Adds old new) is (f (ap has_float is ∙ whole) (subst (λ x. depth x ≤ max_depth) (sym is) shallow))) h

-- ---- what is read back

pub natural_back : (n : ℕ) → n < 2 ^ 64 → IsReadBack (natural n)
natural_back n fits = record { numbers = IsNumber-decimal n fits; same = ap (option_map number) (number_of-decimal n fits) }

pub integer_back : (z : ℤ) → FitsSigned w64 z → IsReadBack (integer_data z)
integer_back (pos n) h = let less : n < 2 ^ 63 = h.sfits in natural_back n (omega arith)
integer_back (negsuc n) h =
    let less : n < 2 ^ 63 = h.sfits in
    record { numbers = IsNumber-signed_decimal (negsuc n) less; same = ap (option_map number) (number_of-negative n less) }

pub string_back : (s : List ℕ) → IsReadBack (string s)
string_back s = record { numbers = tt; same = refl }

pub no_items_back : AreReadBack no_items
no_items_back = record { numbers = tt; same = refl }

pub item_back : (d : Data) (ds : Items) → IsReadBack d → AreReadBack ds → AreReadBack (item d ds)
item_back d ds first rest = record {
  numbers = (first.numbers, rest.numbers);
  same = ap (option_and_then (λ e. option_map (item e) (of_items (items_outline ds)))) first.same ∙ ap (option_map (item d)) rest.same;
}

pub array_back : (ds : Items) → AreReadBack ds → IsReadBack (array ds)
array_back ds back = record { numbers = back.numbers; same = ap (option_map array) back.same }

-- a list of data that is read back is read back
pub each_back : {A : Type 0} (f : A → Data) (P : A → Type 0) → ((x : A) → P x → IsReadBack (f x)) → (xs : List A) → All P xs → AreReadBack (items_of (map f xs))
each_back f P back [] all = no_items_back
each_back f P back (x ∷ xs) all =
    item_back (f x) (items_of (map f xs)) (back x (all 0 x (omega arith))) (each_back f P back xs (λ k d less. all (suc k) d (omega arith)))

pub list_back : {A : Type 0} (f : A → Data) (P : A → Type 0) → ((x : A) → P x → IsReadBack (f x)) → (xs : List A) → All P xs → IsReadBack (list_data (map f xs))
list_back f P back xs all = array_back (items_of (map f xs)) (each_back f P back xs all)

pub integers_back : (zs : List ℤ) → All (FitsSigned w64) zs → IsReadBack (integers_data zs)
integers_back zs all = list_back integer_data (FitsSigned w64) integer_back zs all
