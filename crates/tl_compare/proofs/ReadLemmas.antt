-- What was read between two counts.
use Rattle.std.proofs.Common.{◌≡◌, ◌∙◌, ℕ, ◌+◌, ◌-◌, ◌<◌, ◌≤◌, ℤ, pos, List, [], ◌∷◌, length, map, take, drop, get_or, Some, slice_get, sym, ap, subst, arith, inl, inr}
use Rattle.std.proofs.lemmas.List.{drop_more}
use Rattle.std.proofs.lemmas.Option.{slice_get-get_or}
use Rattle.sqlite_value.specs.Order.{Row}
use Rattle.sqlite_trees.specs.Tree.{Trees}
use Rattle.sqlite_trees.specs.View.{View, IsQuiet}
use Rattle.tl_ledger.specs.declared.schema.TheConstants.{NAME}
use Rattle.tl_ledger.specs.Rows.{rows_from}
use Rattle.tl_ledger.specs.Contents.{Contents, Holds}
use Rattle.tl_compare.specs.Epochs.{AreBetween}

first_taken : (row : Row) (rows : List Row) (n : ℕ) (x : Row) → n < length rows → x ∷ [] ≡ take 1 (drop n rows) → row ≡ x → slice_get rows n ≡ Some row
first_taken row rows n x less is same =
    let whole : x ∷ [] ≡ get_or rows n row ∷ [] = is ∙ ap (take 1) (drop_more rows n row less) in
    let here : x ≡ get_or rows n row = ap (λ l. get_or l 0 row) whole in
    slice_get-get_or rows n row less ∙ ap Some (sym (same ∙ here))

-- the only one that was read from a place on is the one there
pub one_read : {X : Type 0} (columns : X → Row) (rows : List Row) (n : ℕ) (xs : List X) (x : X) → length xs ≡ 1 → x ≡ get_or xs 0 x → n < length rows
    → map columns xs ≡ take (length xs) (drop n rows) → slice_get rows n ≡ Some (columns x)
one_read columns rows n [] x one is less read = absurd (omega arith)
one_read columns rows n (y ∷ []) x one is less read = first_taken (columns x) rows n (columns y) less read (ap columns is)
one_read columns rows n (y ∷ z ∷ xs) x one is less read = absurd (omega (arith, one))

pub are_between : {X : Type 0} (columns : X → Row) (rows : List Row) (first last : ℤ) (from to : ℕ) (xs : List X) → first ≡ pos from → last ≡ pos to → from ≤ to → to ≤ length rows
    → from + length xs ≡ to → map columns xs ≡ take (length xs) (drop from rows) → AreBetween columns rows first last xs
are_between columns rows first last from to xs first_is last_is order inside counted read = record {
  from = from;
  to = to;
  first_is = first_is;
  last_is = last_is;
  order = order;
  inside = inside;
  are = read ∙ ap (λ n. take n (drop from rows)) (let many : length xs ≡ to - from = omega (arith, counted) in many);
}

-- the same counts, written otherwise
pub between_same : {X : Type 0} (columns : X → Row) (rows : List Row) (first last first' last' : ℤ) (xs : List X) → AreBetween columns rows first last xs → first ≡ first' → last ≡ last'
    → AreBetween columns rows first' last' xs
between_same columns rows first last first' last' xs are same_first same_last = record {
  from = are.from;
  to = are.to;
  first_is = sym same_first ∙ are.first_is;
  last_is = sym same_last ∙ are.last_is;
  order = are.order;
  inside = are.inside;
  are = are.are;
}

-- two quiet calls, one after the other
pub quiet_then : {S : Type 0} {view : S → View} {faults : S → ℕ} {recovers : S → Trees → Type 0} {is_shielded : S → Type 0} {old mid new : S}
    → IsQuiet view faults recovers is_shielded old mid → IsQuiet view faults recovers is_shielded mid new → IsQuiet view faults recovers is_shielded old new
quiet_then first second = record {
  shield = λ s. second.shield (first.shield s);
  clean = omega (arith, first.clean, second.clean);
  counts = omega (arith, first.counts, second.counts);
  closes = λ clean was_open. elim (first.closes (omega (arith, clean, second.clean)) was_open) [
    | inl still ↦ elim (second.closes clean still) [ inl now ↦ inl now | inr fault ↦ inr (omega (arith, fault, first.counts)) ]
    | inr fault ↦ inr (omega (arith, fault, second.counts))
  ];
  outcomes = λ db found. first.outcomes db (second.outcomes db found);
}

-- what a database has that is the same as one with these contents
pub rows_held : (c : Contents) (db old : Trees) (table : ℕ) → table < NAME → Holds old c → db ≡ old → db table ≡ rows_from 0 (c table)
rows_held c db old table inside holds same = ap (λ f. f table) same ∙ holds.numbered table inside

pub holds_again : (c : Contents) (db old : Trees) → Holds old c → db ≡ old → Holds db c
holds_again c db old holds same = subst (λ (trees : Trees). Holds trees c) (sym same) holds
