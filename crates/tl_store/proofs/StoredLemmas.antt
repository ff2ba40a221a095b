-- What was read from a store is what it contains.
use Rattle.std.proofs.Common.{◌≡◌, ℕ, ◌+◌, ◌<◌, ◌≤◌, List, [], ◌∷◌, length, drop, refl, sym, ap, ◌∙◌, subst, arith}
use Rattle.sqlite_value.specs.Order.{Row}
use Rattle.sqlite_trees.specs.Tree.{Trees}
use Rattle.tl_ledger.specs.declared.schema.TheConstants.{NAME}
use Rattle.tl_ledger.specs.Rows.{rows_from}
use Rattle.tl_ledger.specs.Contents.{Contents, Holds}

-- equal rows that are numbered from the same number have equal columns
same_columns : (n : ℕ) (xs ys : List Row) → rows_from n xs ≡ rows_from n ys → xs ≡ ys
same_columns n [] [] e = refl
same_columns n [] (y ∷ ys) e = absurd (let l = ap length e in omega arith)
same_columns n (x ∷ xs) [] e = absurd (let l = ap length e in omega arith)
same_columns n (x ∷ xs) (y ∷ ys) e =
    let heads : x ≡ y = cc in
    let tails : rows_from (n + 1) xs ≡ rows_from (n + 1) ys = cc in
    ap (λ z. z ∷ xs) heads ∙ ap (λ l. y ∷ l) (same_columns (n + 1) xs ys tails)

pub all_read : (c : Contents) (db old : Trees) (table : ℕ) (items : List Row) → table < NAME → Holds old c → db ≡ old → db table ≡ rows_from 0 items → c table ≡ items
all_read c db old table items inside holds same rows = same_columns 0 (c table) items (sym (holds.numbered table inside) ∙ ap (λ f. f table) (sym same) ∙ rows)

pub rest_read : (c : Contents) (db old : Trees) (table first : ℕ) (items : List Row) → table < NAME → Holds old c → db ≡ old → first ≤ length (c table)
    → ((columns : List Row) → db table ≡ rows_from 0 columns → first ≤ length columns → items ≡ drop first columns) → items ≡ drop first (c table)
rest_read c db old table first items inside holds same few rest = rest (c table) (ap (λ f. f table) same ∙ holds.numbered table inside) few

pub holds_again : (c : Contents) (db old : Trees) → Holds old c → db ≡ old → Holds db c
holds_again c db old holds same = subst (λ (trees : Trees). Holds trees c) (sym same) holds

-- there are at least as many rows as were sealed
pub as_many : (sealed counted rows : ℕ) → rows ≡ counted → sealed ≤ counted → sealed ≤ rows
as_many sealed counted rows is few = omega arith
