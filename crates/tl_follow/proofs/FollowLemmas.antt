-- Rows between positions.
use Rattle.std.proofs.Common.{◌≡◌, ℕ, ◌+◌, ◌-◌, ◌<◌, ◌≤◌, List, ◌++◌, length, map, take, drop, sym, ap, ◌∙◌, subst, arith}
use Rattle.std.proofs.lemmas.List.{take-take, drop-take, drop-drop, take-append-drop, take-map}
use Rattle.sqlite_value.specs.Order.{Row}
use Rattle.sqlite_trees.specs.Tree.{Trees}
use Rattle.sqlite_trees.specs.View.{View}
use Rattle.tl_ledger.specs.declared.schema.TheConstants.{NAME}
use Rattle.tl_ledger.specs.Rows.{rows_from}
use Rattle.tl_ledger.specs.Contents.{Contents, Holds}
use Rattle.tl_follow.specs.Positions.{between}

-- ---- lists

further : {A : Type 0} (xs : List A) (a n : ℕ) → drop (a + n) xs ≡ drop n (drop a xs)
further xs a n = sym (drop-drop n a xs)

-- some items, and those behind them
some_and_more : {A : Type 0} (ys : List A) (n m : ℕ) → take n ys ++ take m (drop n ys) ≡ take (n + m) ys
some_and_more ys n m =
    ap (λ l. l ++ take m (drop n ys)) (sym (take-take n (n + m) ys (omega arith)))
    ∙ ap (λ l. take n (take (n + m) ys) ++ l) (sym (drop-take n m ys))
    ∙ take-append-drop n (take (n + m) ys)

pub joined : {A : Type 0} (xs : List A) (a b c : ℕ) → a ≤ b → b ≤ c → between a b xs ++ between b c xs ≡ between a c xs
joined xs a b c ab bc =
    let n : ℕ = b - a in
    let m : ℕ = c - b in
    let is_b : b ≡ a + n = omega (arith, ab) in
    let whole : n + m ≡ c - a = omega (arith, ab, bc) in
    ap (λ k. between a b xs ++ take m (drop k xs)) is_b
    ∙ ap (λ l. between a b xs ++ take m l) (further xs a n)
    ∙ some_and_more (drop a xs) n m
    ∙ ap (λ k. take k (drop a xs)) whole

-- ---- what was read

-- rows that were read from a number on are those between two positions
pub some_read : (c : Contents) (db old : Trees) (table first last count : ℕ) (items : List Row) → table < NAME → Holds old c → db ≡ old → first + count ≡ last → first ≤ length (c table)
    → ((columns : List Row) → db table ≡ rows_from 0 columns → first ≤ length columns → items ≡ take count (drop first columns)) → items ≡ between first last (c table)
some_read c db old table first last count items inside holds same many few rest =
    let counted : count ≡ last - first = omega (arith, many) in
    rest (c table) (ap (λ f. f table) same ∙ holds.numbered table inside) few ∙ ap (λ n. take n (drop first (c table))) counted

-- the first of the nodes between two positions are those up to an earlier one
pub fewer : {A B : Type 0} (f : A → B) (xs : List A) (some : List A) (ys : List B) (a b : ℕ) → map f xs ≡ between a b ys → a + length xs ≡ b → some ≡ take (length some) xs → length some ≤ length xs
    → map f some ≡ between a (a + length some) ys
fewer f xs some ys a b all count first few =
    let n : ℕ = length some in
    let whole : n ≤ b - a = omega (arith, count, few) in
    let own : n ≡ (a + n) - a = omega arith in
    ap (map f) first
    ∙ sym (take-map f n xs)
    ∙ ap (take n) all
    ∙ take-take n (b - a) (drop a ys) whole
    ∙ ap (λ k. take k (drop a ys)) own

-- where only cursors were moved, there are the rows that there were
pub holds_then : (c : Contents) (old new : View) → Holds old.trees c → new ≡ record old { cursors = new.cursors } → Holds new.trees c
holds_then c old new holds same = subst (λ (trees : Trees). Holds trees c) (sym (ap (λ v. v.trees) same)) holds
