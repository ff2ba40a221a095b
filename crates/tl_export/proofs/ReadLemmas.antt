-- What was read of a store is what it holds.
use Rattle.std.proofs.Common.{◌≡◌, ℕ, ◌+◌, ◌-◌, ◌<◌, ◌≤◌, ◌^◌, List, [], ◌∷◌, length, map, take, drop, refl, sym, ap, ◌∙◌, subst, arith}
use Rattle.std.proofs.lemmas.List.{drop-map, length-map}
use Rattle.sqlite_value.specs.Order.{Row}
use Rattle.sqlite_trees.specs.Tree.{Trees}
use Rattle.tl_ledger.specs.declared.schema.TheConstants.{NAME}
use Rattle.tl_ledger.specs.Rows.{rows_from}
use Rattle.tl_ledger.specs.Contents.{Contents, Holds}
use Rattle.tl_export.specs.Epochs.{between}

-- rows that are numbered alike have the same columns
same_columns : (n : ℕ) (xs ys : List Row) → rows_from n xs ≡ rows_from n ys → xs ≡ ys
same_columns n [] [] e = refl
same_columns n [] (y ∷ ys) e = absurd (let l = ap length e in omega arith)
same_columns n (x ∷ xs) [] e = absurd (let l = ap length e in omega arith)
same_columns n (x ∷ xs) (y ∷ ys) e =
    let heads : x ≡ y = cc in
    let tails : rows_from (n + 1) xs ≡ rows_from (n + 1) ys = cc in
    ap (λ z. z ∷ xs) heads ∙ ap (λ l. y ∷ l) (same_columns (n + 1) xs ys tails)

pub all_read : (c : Contents) (db old : Trees) (table : ℕ) (items : List Row) → table < NAME → Holds old c → db ≡ old → db table ≡ rows_from 0 items → c table ≡ items
all_read c db old table items inside holds same rows = same_columns 0 (c table) items (sym (holds.numbered table inside) ∙ ap (λ f. f table) (sym same) ∙ rows)

pub some_read : (c : Contents) (db old : Trees) (table first last count : ℕ) (items : List Row) → table < NAME → Holds old c → db ≡ old → first ≤ length (c table) → first + count ≡ last
    → ((columns : List Row) → db table ≡ rows_from 0 columns → first ≤ length columns → items ≡ take count (drop first columns)) → items ≡ between first last (c table)
some_read c db old table first last count items inside holds same few counted some =
    let many : count ≡ last - first = omega (arith, counted) in
    some (c table) (ap (λ f. f table) same ∙ holds.numbered table inside) few ∙ ap (λ n. take n (drop first (c table))) many

-- what readers ask of a table, so that only the disk or memory can fail
pub rows_there : {X : Type 0} (c : Contents) (db old : Trees) (table : ℕ) (columns : X → Row) (xs : List X) → table < NAME → Holds old c → db ≡ old → c table ≡ map columns xs → db table ≡ rows_from 0 (map columns xs)
rows_there c db old table columns xs inside holds same are = ap (λ f. f table) same ∙ holds.numbered table inside ∙ ap (rows_from 0) are

pub rows_few : {X : Type 0} (c : Contents) (table : ℕ) (columns : X → Row) (xs : List X) → c table ≡ map columns xs → length (c table) ≤ 2 ^ 62 → length xs ≤ 2 ^ 62
rows_few c table columns xs are few = let l = ap length are in let m = length-map xs columns in omega (arith, l, m, few)

pub rows_behind : {X : Type 0} (columns : X → Row) (rows : List Row) (first : ℕ) (xs : List X) → map columns xs ≡ rows → map columns (drop first xs) ≡ drop first rows
rows_behind columns rows first xs are = sym (drop-map columns first xs) ∙ ap (drop first) are

pub holds_again : (c : Contents) (db old : Trees) → Holds old c → db ≡ old → Holds db c
holds_again c db old holds same = subst (λ (trees : Trees). Holds trees c) (sym same) holds
