-- The text written for a chain is read as that chain.
use Rattle.std.proofs.Common.{◌≡◌, ℕ, suc, ◌<◌, ◌≤◌, nat_lt, List, [], ◌∷◌, ◌++◌, map, length, codes, Some, option_and_then, refl, sym, ap, ◌∙◌, subst, arith}
use Rattle.std.specs.Prelude.{All}
use Rattle.std.proofs.lemmas.Bool.{lt-ltb, le-ltb}
use Rattle.std.proofs.lemmas.List.{append-nil, length-map}
use Rattle.serde_json.specs.Data.{Data, depth}
use Rattle.serde_json.specs.Read.{max_depth, read}
use Rattle.serde_json.specs.View.{items_of}
use Rattle.serde_json.specs.Written.{comma_if, compact_text}
use Rattle.tl_tree.proofs.Texts.{shallow_items, list_written}
use Rattle.tl_json.specs.Lists.{items_of_list, list_data}
use Rattle.tl_trail.specs.Trails.{TrailValue}
use Rattle.tl_trail.specs.Writing.{trail_data, trail_text, IsWritable}
use Rattle.tl_trail.specs.Chains.{AreEach, IsChain, IsChainText, if_chain, chain_of, chain_in, chain_text}
use Rattle.tl_trail.proofs.ReadsBack.{list_back, text_read}
use Rattle.tl_trail.proofs.WrittenIsRead.{trail_flat, trail_back, data_read}
use Rattle.tl_trail.proofs.ChainTokenLemmas.{chain_some}

pub chain_written : (ts : List TrailValue) → compact_text (list_data (map trail_data ts)) ≡ chain_text ts
chain_written ts = list_written trail_data trail_text (λ t. refl) ts

pub same_list : (ds : List Data) → items_of_list (items_of ds) ≡ ds
same_list [] = refl
same_list (d ∷ ds) = ap (λ l. d ∷ l) (same_list ds)

each_read : (limit : ℕ) (ts : List TrailValue) → All IsWritable ts → All (λ (t : TrailValue). length t.parents ≤ limit) ts → AreEach limit (map trail_data ts) ts
each_read limit [] h fit = tt
each_read limit (t ∷ ts) h fit = (
  data_read limit t (fit 0 t (omega arith)) (h 0 t (omega arith)),
  each_read limit ts (λ k d less. h (suc k) d (omega arith)) (λ k d less. fit (suc k) d (omega arith)),
)

chain_shallow : (ts : List TrailValue) → depth (list_data (map trail_data ts)) ≤ max_depth
chain_shallow ts = omega (arith, shallow_items trail_data 4 trail_flat ts)

chain_found : (limit : ℕ) (ts : List TrailValue) → All IsWritable ts → All (λ (t : TrailValue). length t.parents ≤ limit) ts → 1 ≤ length ts → length ts ≤ 256 → IsChain limit (if_chain (map trail_data ts)) ts
chain_found limit ts h fit some few =
    let many = length-map ts trail_data in
    record { items = map trail_data ts; items_are = chain_some (map trail_data ts) (omega (arith, many, some)) (omega (arith, many, few)); each = each_read limit ts h fit }

pub chain_read : (limit : ℕ) (ts : List TrailValue) → All IsWritable ts → All (λ (t : TrailValue). length t.parents ≤ limit) ts → 1 ≤ length ts → length ts ≤ 256 → IsChainText limit (chain_text ts) ts
chain_read limit ts h fit some few =
    let ds = map trail_data ts in
    let is : read (chain_text ts) ≡ Some (list_data ds) = subst (λ l. read l ≡ Some (list_data ds)) (chain_written ts) (text_read (list_data ds) (list_back trail_data IsWritable trail_back ts h) (chain_shallow ts)) in
    let in_it : chain_in (chain_text ts) ≡ if_chain ds = ap (option_and_then chain_of) is ∙ ap if_chain (same_list ds) in
    subst (λ o. IsChain limit o ts) (sym in_it) (chain_found limit ts h fit some few)

-- ---- the commas

pub comma_put : (old now : List ℕ) (i : ℕ) → 0 < i → now ≡ old ++ codes "," → now ≡ old ++ comma_if (nat_lt 0 i)
comma_put old now i later is = is ∙ ap (λ b. old ++ comma_if b) (sym (lt-ltb 0 i later))

pub no_comma : (old now : List ℕ) (i : ℕ) → i ≤ 0 → now ≡ old → now ≡ old ++ comma_if (nat_lt 0 i)
no_comma old now i first is = is ∙ sym (append-nil old) ∙ ap (λ b. old ++ comma_if b) (sym (le-ltb 0 i first))
