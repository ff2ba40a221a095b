-- The trails of a chain, one after another.
use Rattle.std.proofs.Common.{◌≡◌, ◌≢◌, ◌⊎◌, ⊎_elim, ℕ, suc, ◌+◌, ◌-◌, ◌^◌, min, ◌<◌, ◌≤◌, List, [], ◌∷◌, ◌++◌, ℤ, length, get_or, take, drop, map, nat_le, Some, None, option_map, option_and_then, if◌then◌else◌, inl, inr, refl, sym, ap, ◌∙◌, subst, arith}
use Rattle.std.proofs.lemmas.Bool.{le-leb, lt-leb, cases_lt}
use Rattle.std.proofs.lemmas.List.{append_assoc, append-nil, length-append, length-map, map_more, map-append, drop_more, take-append-drop}
use Rattle.json.specs.Token.{Token}
use Rattle.json.specs.Lex.{tokens}
use Rattle.json.specs.Json.{parse_map, after_end_array, items, value}
use Rattle.json.proofs.Grammar.{left, skip_value-shorter, after_end_array-shorter}
use Rattle.serde_json.specs.Data.{Data, array, object, Items, no_items}
use Rattle.serde_json.specs.Find.{as_array}
use Rattle.serde_json.specs.View.{view, items_view}
use Rattle.serde_json.specs.declared.value.Value.{Value}
use Rattle.serde_json.specs.Read.{of_json, of_items, converted, read}
use Rattle.tl_tree.specs.Records.{Records}
use Rattle.tl_tree.specs.Trees.{TreeValue}
use Rattle.tl_json.specs.Lists.{items_of_list}
use Rattle.tl_trail.specs.declared.chain.Listed.{Listed}
use Rattle.tl_trail.specs.declared.chain.Listed.TheVariants.{Trails, Faulty, Unread}
use Rattle.tl_trail.specs.declared.fault.TrailFault.{TrailFault}
use Rattle.tl_trail.specs.declared.fault.TrailFault.TheVariants.{NotTrail, Memory}
use Rattle.tl_trail.specs.declared.raw.RawTrail.{RawTrail}
use Rattle.tl_trail.specs.Raw.{form_with, IsTrailOf}
use Rattle.tl_trail.specs.Trails.{TrailValue}
use Rattle.tl_trail.specs.Reading.{form_of_data, IsFound, IsFaultFound}
use Rattle.tl_trail.specs.Chains.{AreEach, IsFirstOf, IsChain, IsFaultOfChain, IsChainText, if_chain, chain_of, chain_in}
use Rattle.tl_trail.specs.ChainTokens.{BeginsWithTrail, BeginsWithTrails, BeginsWithFault, IsListed, IsListedIn, IsLeftBehind}
use Rattle.tl_tokens.specs.Tokens.{BeginsWith}
use Rattle.tl_trail.specs.Tokens.{trail_depth}
use Rattle.tl_trail.specs.TrailTokens.{AreOfTrail}
use Rattle.tl_tokens.proofs.TokenLemmas.{converted_from, value_of, items_onto, object_begins, list_begins, one_item, no_item, parsed_one, parsed_none, whole}
use Rattle.tl_trail.proofs.Deeper.{items_further}
use Rattle.tl_trail.proofs.WholeTrail.{found_is}

-- ---- one trail

value_shorter : (depth : ℕ) (ts rest : List Token) (d : Data) → converted of_json (value depth ts) ≡ Some (d, rest) → length rest < length ts
value_shorter depth ts rest d e = let j = converted_from of_json (value depth ts) d rest e in skip_value-shorter depth ts rest (ap left j.1)

pub begins_trail : (limit : ℕ) (ts s rest : List Token) (tree : TreeValue) (raw : RawTrail) (t : TrailValue) → ts ≡ Token.begin_object ∷ s → AreOfTrail limit s tree raw rest
    → ((parts : List ℤ × Records) → IsTrailOf tree (form_with raw parts) t) → BeginsWithTrail limit ts t rest
begins_trail limit ts s rest tree raw t begun got is =
    let read_it : converted of_json (value trail_depth ts) ≡ Some (object got.found, rest) =
    ap (λ u. converted of_json (value trail_depth u)) begun ∙ object_begins trail_depth s (omega arith) ∙ ap (parse_map object) got.are_members in
    record { found = object got.found; is_value = read_it; is_trail = found_is limit _ tree raw t got.half_read is; shorter = value_shorter trail_depth ts rest (object got.found) read_it }

-- ---- each trail

pub list_onto : (ds : List Data) (more : Items) → items_of_list (items_onto ds more) ≡ ds ++ items_of_list more
list_onto [] more = refl
list_onto (d ∷ ds) more = ap (λ l. d ∷ l) (list_onto ds more)

pub one_each : (limit : ℕ) (ds : List Data) (ts : List TrailValue) (d : Data) (t : TrailValue) → AreEach limit ds ts → IsFound limit (form_of_data d) t → AreEach limit (ds ++ d ∷ []) (ts ++ t ∷ [])
one_each limit [] [] d t h e = (e, tt)
one_each limit [] (u ∷ ts) d t h e = absurd h
one_each limit (x ∷ ds) [] d t h e = absurd h
one_each limit (x ∷ ds) (u ∷ ts) d t h e = (h.0, one_each limit ds ts d t h.1 e)

pub as_many : (limit : ℕ) (ds : List Data) (ts : List TrailValue) → AreEach limit ds ts → length ds ≡ length ts
as_many limit [] [] h = refl
as_many limit [] (u ∷ ts) h = absurd h
as_many limit (x ∷ ds) [] h = absurd h
as_many limit (x ∷ ds) (u ∷ ts) h = ap suc (as_many limit ds ts h.1)

pub first_wrong : (limit : ℕ) (ds : List Data) (ts : List TrailValue) (d : Data) (more : List Data) (e : TrailFault) → AreEach limit ds ts → IsFaultFound limit (form_of_data d) e → IsFirstOf limit (ds ++ d ∷ more) e
first_wrong limit [] [] d more e h wrong = inl wrong
first_wrong limit [] (u ∷ ts) d more e h wrong = absurd h
first_wrong limit (x ∷ ds) [] d more e h wrong = absurd h
first_wrong limit (x ∷ ds) (u ∷ ts) d more e h wrong = inr (u, h.0, first_wrong limit ds ts d more e h.1 wrong)

-- the items that were read, followed by the rest of the list
abbrev pub Read : List Token → List Data → List Token → Type 0
Read ts ds now = (n : ℕ) × (length now ≤ n) × (converted of_items (items (value trail_depth) (length ts) ts) ≡ parse_map (items_onto ds) (converted of_items (items (value trail_depth) n now)))

pub read_begins : (ts : List Token) → Read ts [] ts
read_begins ts = (length ts, omega arith, parsed_none (converted of_items (items (value trail_depth) (length ts) ts)))

pub read_more : (ts : List Token) (ds : List Data) (now r : List Token) (d : Data) → Read ts ds now → after_end_array now ≡ None → converted of_json (value trail_depth now) ≡ Some (d, r) → length r < length now → Read ts (ds ++ d ∷ []) r
read_more ts ds now r d read goes_on is shorter =
    let p = value trail_depth in
    let n = read.0 in (
      n - 1,
      omega (arith, read.1, shorter),
      read.2 ∙ ap (parse_map (items_onto ds)) (one_item p n now r d (omega (arith, read.1, shorter)) goes_on is) ∙ parsed_one ds d (converted of_items (items p (n - 1) r)),
    )

-- the list ends here
pub read_ends : (ts : List Token) (ds : List Data) (now r : List Token) → Read ts ds now → after_end_array now ≡ Some r → converted of_items (items (value trail_depth) (length ts) ts) ≡ Some (items_onto ds no_items, r)
read_ends ts ds now r read end = read.2 ∙ ap (parse_map (items_onto ds)) (no_item (value trail_depth) read.0 now r read.1 end)

pub trails_end : (limit : ℕ) (ts : List Token) (ds : List Data) (now r : List Token) (each : List TrailValue) → Read ts ds now → after_end_array now ≡ Some r → AreEach limit ds each → length now ≤ length ts → BeginsWithTrails limit ts each r
trails_end limit ts ds now r each read end h within = record {
  found = items_onto ds no_items;
  are_items = read_ends ts ds now r read end;
  are_trails = subst (λ l. AreEach limit l each) (sym (list_onto ds no_items ∙ append-nil ds)) h;
  shorter = omega (arith, after_end_array-shorter now r end, within);
}

-- ---- so many

pub chain_some : (ds : List Data) → 1 ≤ length ds → length ds ≤ 256 → if_chain ds ≡ Some ds
chain_some ds some few = rw (le-leb 1 (length ds) some, le-leb (length ds) 256 few) refl

pub chain_none : (ds : List Data) → 256 < length ds → if_chain ds ≡ None
chain_none ds many = rw (le-leb 1 (length ds) (omega (arith, many)), lt-leb (length ds) 256 many) refl

pub not_chain : (ds : List Data) → (1 ≤ length ds → length ds ≤ 256 → ⊥) → if_chain ds ≡ None
not_chain ds other = ⊎_elim
    (λ many. chain_none ds many)
    (λ few. ⊎_elim
    (λ none. rw (lt-leb 1 (length ds) none) refl)
    (λ some. absurd (other some few))
    (cases_lt (length ds) 1))
    (cases_lt 256 (length ds))

pub chain_stands : (limit : ℕ) (ds : List Data) (ts : List TrailValue) → AreEach limit ds ts → 0 < length ts → length ts ≤ 256 → IsChain limit (if_chain ds) ts
chain_stands limit ds ts h some few =
    let many = as_many limit ds ts h in
    record { items = ds; items_are = chain_some ds (omega (arith, many, some)) (omega (arith, many, few)); each = h }

pub chain_wrong : (limit : ℕ) (ds : List Data) (ts : List TrailValue) (d : Data) (more : List Data) (e : TrailFault) → AreEach limit ds ts → IsFaultFound limit (form_of_data d) e → length (ds ++ d ∷ more) ≤ 256 → IsFaultOfChain limit (if_chain (ds ++ d ∷ more)) e
chain_wrong limit ds ts d more e h wrong few =
    let long = length-append ds (d ∷ more) in
    inr (ds ++ d ∷ more, chain_some (ds ++ d ∷ more) (omega (arith, long)) few, first_wrong limit ds ts d more e h wrong)

-- ---- what is left behind

counted : (count n : ℕ) (fault e : TrailFault) → e ≡ (if nat_le (count + n) 256 then fault else NotTrail) → ((256 < count + n) × (e ≡ NotTrail)) ⊎ ((count + n ≤ 256) × (e ≡ fault))
counted count n fault e is = ⊎_elim
    (λ many. inl (many, is ∙ ap (λ b. if b then fault else NotTrail) (lt-leb (count + n) 256 many)))
    (λ few. inr (few, is ∙ ap (λ b. if b then fault else NotTrail) (le-leb (count + n) 256 few)))
    (cases_lt 256 (count + n))

-- with more than 256 values the fault is NotTrail; otherwise it is the earlier fault
all_wrong : (limit : ℕ) (ds : List Data) (count : ℕ) (fault e : TrailFault) (more : List Data) → count ≡ length ds → e ≡ (if nat_le (count + length more) 256 then fault else NotTrail)
    → (length (ds ++ more) ≤ 256 → e ≡ fault → IsFaultOfChain limit (if_chain (ds ++ more)) e) → IsFaultOfChain limit (if_chain (ds ++ more)) e
all_wrong limit ds count fault e more count_is is wrong =
    let long = length-append ds more in
    ⊎_elim
    (λ many. inl (many.1, chain_none (ds ++ more) (omega (arith, long, count_is, many.0))))
    (λ few. wrong (omega (arith, long, count_is, few.0)) few.1)
    (counted count (length more) fault e is)

-- all items, where these are the ones up to the end of the list
pub all_items : (ts now rest : List Token) (ds : List Data) (more : Items) → Read ts ds now → converted of_items (items (value trail_depth) (length now) now) ≡ Some (more, rest)
    → converted of_items (items (value trail_depth) (length ts) ts) ≡ Some (items_onto ds more, rest)
all_items ts now rest ds more read e =
    let js = converted_from of_items (items (value trail_depth) (length now) now) more rest e in
    let again = items_further (value trail_depth) (length now) read.0 now rest js.0 read.1 js.1 in
    read.2 ∙ ap (λ o. parse_map (items_onto ds) (converted of_items o)) again ∙ ap (λ o. parse_map (items_onto ds) (option_map (λ b. (b, rest)) o)) js.2

module _ (limit : ℕ) (ts now rest : List Token) (ds : List Data) (d : Data) (us : List TrailValue) (each : AreEach limit ds us) (read : Read ts (ds ++ d ∷ []) now) where
  one_more : length (ds ++ d ∷ []) ≡ length us + 1
  one_more = length-append ds (d ∷ []) ∙ ap (λ n. n + 1) (as_many limit ds us each)

  wrong_left : (fault e : TrailFault) (count : ℕ) (more : Items) → (fault ≢ Memory → IsFaultFound limit (form_of_data d) fault) → count ≡ length us + 1
      → converted of_items (items (value trail_depth) (length now) now) ≡ Some (more, rest) → e ≡ (if nat_le (count + length (items_of_list more)) 256 then fault else NotTrail) → e ≢ Memory → BeginsWithFault limit ts e rest
  wrong_left fault e count more wrong count_is follow is other =
      let after = items_of_list more in
      let found : length ((ds ++ d ∷ []) ++ after) ≤ 256 → e ≡ fault → IsFaultOfChain limit (if_chain ((ds ++ d ∷ []) ++ after)) e =
      λ few same.
      let own : IsFaultFound limit (form_of_data d) e = subst (λ f. IsFaultFound limit (form_of_data d) f) (sym same) (wrong (λ memory. other (same ∙ memory))) in
      let order = append_assoc ds (d ∷ []) after in
      subst (λ l. IsFaultOfChain limit (if_chain l) e) (sym order) (chain_wrong limit ds us d after e each own (subst (λ l. length l ≤ 256) order few)) in
      record {
        found = items_onto (ds ++ d ∷ []) more;
        are_items = all_items ts now rest (ds ++ d ∷ []) more read follow;
        is_fault = subst (λ l. IsFaultOfChain limit (if_chain l) e) (sym (list_onto (ds ++ d ∷ []) more)) (all_wrong limit (ds ++ d ∷ []) count fault e after (count_is ∙ sym one_more) is found);
      }

  pub left_wrong : (fault : TrailFault) (count : ℕ) → (fault ≢ Memory → IsFaultFound limit (form_of_data d) fault) → count ≡ length us + 1 → (listed : Listed) → IsLeftBehind now count fault listed rest → IsListed limit ts listed rest
  left_wrong fault count wrong count_is (Trails v) h = absurd h
  left_wrong fault count wrong count_is (Faulty e) h = wrong_left fault e count h.0 wrong count_is h.1 h.2
  left_wrong fault count wrong count_is Unread h = tt

  many_left : (e : TrailFault) (count : ℕ) (more : Items) → count ≡ length us + 1 → 256 ≤ length us → converted of_items (items (value trail_depth) (length now) now) ≡ Some (more, rest)
      → e ≡ (if nat_le (count + length (items_of_list more)) 256 then NotTrail else NotTrail) → e ≢ Memory → BeginsWithFault limit ts e rest
  many_left e count more count_is many follow is other =
      let after = items_of_list more in
      let found : length ((ds ++ d ∷ []) ++ after) ≤ 256 → e ≡ NotTrail → IsFaultOfChain limit (if_chain ((ds ++ d ∷ []) ++ after)) e =
      λ few same. absurd (omega (arith, length-append (ds ++ d ∷ []) after, one_more, few, many)) in
      record {
        found = items_onto (ds ++ d ∷ []) more;
        are_items = all_items ts now rest (ds ++ d ∷ []) more read follow;
        is_fault = subst (λ l. IsFaultOfChain limit (if_chain l) e) (sym (list_onto (ds ++ d ∷ []) more)) (all_wrong limit (ds ++ d ∷ []) count NotTrail e after (count_is ∙ sym one_more) is found);
      }

  pub left_many : (count : ℕ) → count ≡ length us + 1 → 256 ≤ length us → (listed : Listed) → IsLeftBehind now count NotTrail listed rest → IsListed limit ts listed rest
  left_many count count_is many (Trails v) h = absurd h
  left_many count count_is many (Faulty e) h = many_left e count h.0 count_is many h.1 h.2
  left_many count count_is many Unread h = tt

-- the list has no values
pub listed_none : (limit : ℕ) (ts rest : List Token) (ds : List Data) (us : List TrailValue) → AreEach limit ds us → length us ≡ 0 → converted of_items (items (value trail_depth) (length ts) ts) ≡ Some (items_onto ds no_items, rest) → BeginsWithFault limit ts NotTrail rest
listed_none limit ts rest [] us each none e = record { found = no_items; are_items = e; is_fault = inl (refl, refl) }
listed_none limit ts rest (d ∷ ds) us each none e = absurd (omega (arith, as_many limit (d ∷ ds) us each, none))

-- one more value was counted
pub one_counted : (ts : List Token) (ds : List Data) (now r : List Token) (d : Data) (count n more : ℕ) → Read ts ds now → after_end_array now ≡ None → BeginsWith Some trail_depth now d r
    → n ≡ min (count + length ds) (2 ^ 64 - 1) → more ≡ min (n + 1) (2 ^ 64 - 1) → length now ≤ length ts
    → (es : List Data) × Read ts es r × (more ≡ min (count + length es) (2 ^ 64 - 1)) × (length r ≤ length ts)
one_counted ts ds now r d count n more read goes_on got counts next within =
    let longer : length (ds ++ d ∷ []) ≡ length ds + 1 = length-append ds (d ∷ []) in (
      ds ++ d ∷ [],
      read_more ts ds now r d read goes_on (value_of trail_depth now r d got) got.shorter,
      omega (arith, longer, counts, next),
      omega (arith, within, got.shorter),
    )

-- the fault at the end of the list, where `count` values were counted
module _ (ts now r : List Token) (ds : List Data) (count n : ℕ) (fault : TrailFault) (read : Read ts ds now) (end : after_end_array now ≡ Some r) (counts : n ≡ min (count + length ds) (2 ^ 64 - 1)) where
  count_ended : length (items_of_list (items_onto ds no_items)) ≡ length ds
  count_ended = ap length (list_onto ds no_items ∙ append-nil ds)

  pub ends_many : 256 < n → IsLeftBehind ts count fault (Faulty NotTrail) r
  ends_many many =
      let more : 256 < count + length (items_of_list (items_onto ds no_items)) = omega (arith, count_ended, counts, many) in
      (items_onto ds no_items, read_ends ts ds now r read end, ap (λ b. if b then fault else NotTrail) (sym (lt-leb _ 256 more)))

  pub ends_few : n ≤ 256 → IsLeftBehind ts count fault (Faulty fault) r
  ends_few few =
      let fits : count + length (items_of_list (items_onto ds no_items)) ≤ 256 = omega (arith, count_ended, counts, few) in
      (items_onto ds no_items, read_ends ts ds now r read end, ap (λ b. if b then fault else NotTrail) (sym (le-leb _ 256 fits)))

-- ---- the text

module _ (limit : ℕ) (text : List ℕ) (s rest : List Token) (begun : tokens text ≡ Token.begin_array ∷ s) (over : rest ≡ []) where
  text_items : (found : Items) → converted of_items (items (value trail_depth) (length s) s) ≡ Some (found, rest) → chain_in text ≡ if_chain (items_of_list found)
  text_items found e =
      let is_value = ap (λ ts. converted of_json (value 127 ts)) begun ∙ list_begins 127 s (omega arith) ∙ ap (parse_map array) e ∙ ap (λ r. Some (array found, r)) over in
      let is : read text ≡ Some (array found) = whole (value 127 (tokens text)) (array found) is_value in
      ap (option_and_then chain_of) is

  pub text_chain : (ts : List TrailValue) → BeginsWithTrails limit s ts rest → 0 < length ts → length ts ≤ 256 → IsChainText limit text ts
  text_chain ts h some few = subst (λ o. IsChain limit o ts) (sym (text_items h.found h.are_items)) (chain_stands limit (items_of_list h.found) ts h.are_trails some few)

  pub text_listed : (listed : Listed) → IsListed limit s listed rest → IsListedIn limit text listed
  text_listed (Trails v) h = text_chain v.items h.0 h.1 (omega (arith, h.2))
  text_listed (Faulty e) h = λ other. let w = h other in subst (λ o. IsFaultOfChain limit o e) (sym (text_items w.found w.are_items)) w.is_fault
  text_listed Unread h = tt

-- ---- a value of the whole

pub list_view : (vs : List Value) → items_of_list (items_view vs) ≡ map view vs
list_view [] = refl
list_view (v ∷ vs) = ap (λ l. view v ∷ l) (list_view vs)

-- one more value is that of a trail
pub each_more : (limit : ℕ) (vs : List Value) (i : ℕ) (v : Value) (ts : List TrailValue) (t : TrailValue) → i < length vs → AreEach limit (map view (take i vs)) ts → IsFound limit (form_of_data (view (get_or vs i v))) t
    → AreEach limit (map view (take (i + 1) vs)) (ts ++ t ∷ [])
each_more limit vs i v ts t inside h e = subst (λ l. AreEach limit l (ts ++ t ∷ [])) (sym (map_more view vs i v inside)) (one_each limit (map view (take i vs)) ts (view (get_or vs i v)) t h e)

pub item_wrong : (limit : ℕ) (vs : List Value) (i : ℕ) (v : Value) (ts : List TrailValue) (e : TrailFault) → i < length vs → AreEach limit (map view (take i vs)) ts → IsFaultFound limit (form_of_data (view (get_or vs i v))) e
    → IsFirstOf limit (items_of_list (items_view vs)) e
item_wrong limit vs i v ts e inside h wrong =
    let after = drop (i + 1) vs in
    let all : map view (take i vs) ++ view (get_or vs i v) ∷ map view after ≡ items_of_list (items_view vs) =
    sym (map-append view (take i vs) (get_or vs i v ∷ after)) ∙ ap (λ l. map view (take i vs ++ l)) (sym (drop_more vs i v inside)) ∙ ap (map view) (take-append-drop i vs) ∙ sym (list_view vs) in
    subst (λ l. IsFirstOf limit l e) all (first_wrong limit (map view (take i vs)) ts (view (get_or vs i v)) (map view after) e h wrong)

pub value_chain : (d : Data) (vs : List Value) → Some (items_view vs) ≡ as_array d → chain_of d ≡ if_chain (items_of_list (items_view vs))
value_chain d vs is = ap (λ o. option_and_then if_chain (option_map items_of_list o)) (sym is)

pub view_count : (vs : List Value) → length (items_of_list (items_view vs)) ≡ length vs
view_count vs = ap length (list_view vs) ∙ length-map vs view

pub value_stands : (limit : ℕ) (d : Data) (vs : List Value) (ts : List TrailValue) → Some (items_view vs) ≡ as_array d → 0 < length vs → length vs ≤ 256 → AreEach limit (items_of_list (items_view vs)) ts → IsChain limit (chain_of d) ts
value_stands limit d vs ts is some few each =
    let many = view_count vs in
    record { items = items_of_list (items_view vs); items_are = value_chain d vs is ∙ chain_some (items_of_list (items_view vs)) (omega (arith, many, some)) (omega (arith, many, few)); each = each }

pub value_wrong : (limit : ℕ) (d : Data) (vs : List Value) (e : TrailFault) → Some (items_view vs) ≡ as_array d → 0 < length vs → length vs ≤ 256 → IsFirstOf limit (items_of_list (items_view vs)) e → IsFaultOfChain limit (chain_of d) e
value_wrong limit d vs e is some few wrong =
    let many = view_count vs in
    inr (items_of_list (items_view vs), value_chain d vs is ∙ chain_some (items_of_list (items_view vs)) (omega (arith, many, some)) (omega (arith, many, few)), wrong)

pub value_none : (d : Data) → None ≡ as_array d → chain_of d ≡ None
value_none d is = ap (λ o. option_and_then if_chain (option_map items_of_list o)) (sym is)

pub value_other : (d : Data) (vs : List Value) → Some (items_view vs) ≡ as_array d → (0 < length vs → length vs ≤ 256 → ⊥) → chain_of d ≡ None
value_other d vs is other = value_chain d vs is ∙ not_chain (items_of_list (items_view vs)) (λ some few. let many = view_count vs in other (omega (arith, many, some)) (omega (arith, many, few)))
