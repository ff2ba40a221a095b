-- Reading rows one after another, from any row on, and the last row.
use Rattle.std.proofs.Common.{◌≡◌, ℕ, zero, suc, ◌+◌, ◌<◌, ◌≤◌, pos, All, List, [], ◌∷◌, ◌++◌, length, map, drop, reverse, refl, sym, ap, ◌∙◌, subst, arith, Some, Less, Equal, true, false}
use Rattle.std.proofs.lemmas.List.{append-nil, reverse-append, reverse-reverse, length-append, length-reverse}
use Rattle.std.proofs.lemmas.List.Elements.{All-head, All-tail}
use Rattle.sqlite_value.specs.declared.value.Value.TheVariants.{Int}
use Rattle.sqlite_value.specs.declared.keys.Order.{Order}
use Rattle.sqlite_value.specs.Keys.{plain}
use Rattle.sqlite_value.specs.Order.{Row, value_cmp}
use Rattle.sqlite_value.proofs.OrderLemmas.{value_cmp-Int}
use Rattle.sqlite_trees.specs.Tree.{Trees, from_key, up_to_key}
use Rattle.sqlite_trees.specs.View.{View, Advances}
use Rattle.sqlite_trees.proofs.TreeLemmas.{prefix_cmp-one}
use Rattle.tl_ledger.specs.Entries.{BeginsWithEntry}
use Rattle.tl_ledger.specs.Rows.{rows_from, IsLastRow}
use Rattle.tl_ledger.proofs.RowLemmas.{less_numbers, same_numbers}

pub all_sought : (o : Order) (rows : List Row) → from_key o [] rows ≡ rows
all_sought o [] = refl
all_sought o ([] ∷ rows) = refl
all_sought o ((x ∷ row) ∷ rows) = refl

pub none_above : (o : Order) (rows : List Row) → up_to_key o [] rows ≡ rows
none_above o [] = refl
none_above o ([] ∷ rows) = ap (λ l. [] ∷ l) (none_above o rows)
none_above o ((x ∷ row) ∷ rows) = ap (λ l. (x ∷ row) ∷ l) (none_above o rows)

-- ---- from any row on

from_number : (k n : ℕ) (columns : List Row) → k ≤ length columns → from_key plain (Int (pos (n + k)) ∷ []) (rows_from n columns) ≡ rows_from (n + k) (drop k columns)
from_number zero n [] few = refl
from_number zero n (c ∷ columns) few =
    let e : n ≡ n + zero = omega arith in
    let same : value_cmp (Int (pos n)) (Int (pos (n + zero))) ≡ Equal = value_cmp-Int (pos n) (pos (n + zero)) ∙ ap (λ k. Rattle.std.proofs.Common.int_cmp (pos n) (pos k)) (sym e) ∙ same_numbers n in
    rw (prefix_cmp-one (Int (pos n)) c (Int (pos (n + zero))), same) (ap (λ m. rows_from m (c ∷ columns)) e)
from_number (suc k) n [] few = absurd (omega arith)
from_number (suc k) n (c ∷ columns) few =
    let e : n + 1 + k ≡ n + suc k = omega arith in
    let less : value_cmp (Int (pos n)) (Int (pos (n + suc k))) ≡ Less = value_cmp-Int (pos n) (pos (n + suc k)) ∙ less_numbers n (n + suc k) (omega arith) in
    rw (prefix_cmp-one (Int (pos n)) c (Int (pos (n + suc k))), less)
    (subst (λ m. from_key plain (Int (pos m) ∷ []) (rows_from (n + 1) columns) ≡ rows_from m (drop k columns)) e (from_number k (n + 1) columns (omega arith)))

pub sought_from : (first : ℕ) (columns : List Row) → first ≤ length columns → from_key plain (Int (pos first) ∷ []) (rows_from 0 columns) ≡ rows_from first (drop first columns)
sought_from first columns few =
    let e : 0 + first ≡ first = omega arith in
    subst (λ m. from_key plain (Int (pos m) ∷ []) (rows_from 0 columns) ≡ rows_from m (drop first columns)) e (from_number first 0 columns few)

pub same_columns : (n : ℕ) (xs ys : List Row) → rows_from n xs ≡ rows_from n ys → xs ≡ ys
same_columns n [] [] e = refl
same_columns n [] (y ∷ ys) e = absurd (let l = ap length e in omega arith)
same_columns n (x ∷ xs) [] e = absurd (let l = ap length e in omega arith)
same_columns n (x ∷ xs) (y ∷ ys) e =
    let heads : x ≡ y = cc in
    let tails : rows_from (n + 1) xs ≡ rows_from (n + 1) ys = cc in
    ap (λ z. z ∷ xs) heads ∙ ap (λ l. y ∷ l) (same_columns (n + 1) xs ys tails)

-- ---- one after another

-- of the rows `given`, those with the columns `done` have been read, and the cursor has the rest
pub record Reads (given : List Row) (trees : Trees) (new : View) (first : ℕ) (done : List Row) : Type 0 where
  pub left : List Row
  pub cursor : new.cursors 0 ≡ Some left
  pub rows : given ≡ rows_from first done ++ left
  pub trees_are : new.trees ≡ trees

one_more : (n : ℕ) (done : List Row) (c : Row) (left : List Row) → rows_from n (done ++ c ∷ []) ++ left ≡ rows_from n done ++ (Int (pos (n + length done)) ∷ c) ∷ left
one_more n [] c left = let e : n ≡ n + 0 = omega arith in ap (λ k. (Int (pos k) ∷ c) ∷ left) e
one_more n (d ∷ done) c left =
    let e : n + 1 + length done ≡ n + length (d ∷ done) = omega arith in
    ap (λ l. (Int (pos n) ∷ d) ∷ l) (one_more (n + 1) done c left ∙ ap (λ k. rows_from (n + 1) done ++ (Int (pos k) ∷ c) ∷ left) e)

pub reads_none : (given : List Row) (v : View) (first : ℕ) → v.cursors 0 ≡ Some given → Reads given v.trees v first []
reads_none given v first is = record { left = given; cursor = is; rows = refl; trees_are = refl }

pub reads_more : (given : List Row) (trees : Trees) (mid new : View) (first : ℕ) (done : List Row) (row c : Row) → Reads given trees mid first done → Advances mid new 0 row true
    → row ≡ Int (pos (first + length done)) ∷ c → Reads given trees new first (done ++ c ∷ [])
reads_more given trees mid new first done row c so_far moves is =
    let there : so_far.left ≡ row ∷ moves.0 = (let both : Some so_far.left ≡ Some (row ∷ moves.0) = sym so_far.cursor ∙ moves.1 in cc) in record {
      left = moves.0;
      cursor = ap (λ v. v.cursors 0) moves.2;
      rows = so_far.rows ∙ ap (λ l. rows_from first done ++ l) (there ∙ ap (λ r. r ∷ moves.0) is) ∙ sym (one_more first done c moves.0);
      trees_are = ap (λ v. v.trees) moves.2 ∙ so_far.trees_are;
    }

pub reads_all : (given : List Row) (trees : Trees) (mid new : View) (first : ℕ) (done : List Row) (row : Row) → Reads given trees mid first done → Advances mid new 0 row false
    → (given ≡ rows_from first done) × (new.trees ≡ trees)
reads_all given trees mid new first done row so_far moves =
    let none : so_far.left ≡ [] = (let both : Some so_far.left ≡ Some [] = sym so_far.cursor ∙ moves.0 in cc) in
    (so_far.rows ∙ ap (λ l. rows_from first done ++ l) none ∙ append-nil (rows_from first done), ap (λ v. v.trees) moves.1 ∙ so_far.trees_are)

-- ---- the last row

record Ends (n : ℕ) (columns : List Row) (row : Row) : Type 0 where
  pub front : List Row
  pub last : Row
  pub columns_are : columns ≡ front ++ last ∷ []
  pub row_is : row ≡ Int (pos (n + length front)) ∷ last

ends : (n : ℕ) (columns front : List Row) (row : Row) → rows_from n columns ≡ front ++ row ∷ [] → Ends n columns row
ends n [] front row e = absurd (let l = ap length e in let k = length-append front (row ∷ []) in omega arith)
ends n (c ∷ columns) [] row e = only columns e
  where
    only : (columns : List Row) → (Int (pos n) ∷ c) ∷ rows_from (n + 1) columns ≡ row ∷ [] → Ends n (c ∷ columns) row
    only (d ∷ more) e = absurd (let l = ap length e in omega arith)
    only [] e =
        let here : Int (pos n) ∷ c ≡ row = cc in
        let k : n ≡ n + 0 = omega arith in
        record { front = []; last = c; columns_are = refl; row_is = sym here ∙ ap (λ m. Int (pos m) ∷ c) k }
ends n (c ∷ columns) (f ∷ front) row e =
    let tails : rows_from (n + 1) columns ≡ front ++ row ∷ [] = cc in
    let rest = ends (n + 1) columns front row tails in
    let k : n + 1 + length rest.front ≡ n + length (c ∷ rest.front) = omega arith in
    record { front = c ∷ rest.front; last = rest.last; columns_are = ap (λ l. c ∷ l) rest.columns_are; row_is = rest.row_is ∙ ap (λ m. Int (pos m) ∷ rest.last) k }

pub last_given : (old mid new : View) (rows columns : List Row) (row : Row) (found : Rattle.std.proofs.Common.Bool) → rows ≡ rows_from 0 columns → mid.cursors 0 ≡ Some (reverse rows)
    → Advances mid new 0 row found → IsLastRow columns row found
last_given old mid new rows columns row true is sought moves =
    let given : reverse rows ≡ row ∷ moves.0 = (let both : Some (reverse rows) ≡ Some (row ∷ moves.0) = sym sought ∙ moves.1 in cc) in
    let all : rows_from 0 columns ≡ reverse moves.0 ++ row ∷ [] = sym is ∙ sym (reverse-reverse rows) ∙ ap reverse given ∙ reverse-append (row ∷ []) moves.0 in
    let e = ends 0 columns (reverse moves.0) row all in
    let k : 0 + length e.front ≡ length e.front = omega arith in
    (length e.front, e.last, record { front = e.front; number_is = refl; columns_are = e.columns_are }, e.row_is ∙ ap (λ m. Int (pos m) ∷ e.last) k)
last_given old mid new rows columns row false is sought moves =
    let given : reverse rows ≡ [] = (let both : Some (reverse rows) ≡ Some [] = sym sought ∙ moves.0 in cc) in
    let long : length (rows_from 0 columns) ≡ 0 = ap length (sym is) ∙ sym (length-reverse rows) ∙ ap length given in
    none columns long
  where
    none : (columns : List Row) → length (rows_from 0 columns) ≡ 0 → columns ≡ []
    none [] l = refl
    none (c ∷ columns) l = absurd (omega arith)

pub trees_given : (mid new : View) (row : Row) (found : Rattle.std.proofs.Common.Bool) → Advances mid new 0 row found → new.trees ≡ mid.trees
trees_given mid new row true moves = ap (λ v. v.trees) moves.2
trees_given mid new row false moves = ap (λ v. v.trees) moves.1

-- ---- rows of entries

-- what is left behind the first rows begins with the row of an entry, if all rows are those of entries
pub next_entry : {X : Type 0} (is_whole : X → Type 0) (columns : X → Row) (first : ℕ) (xs : List X) (done left : List Row) → All is_whole xs → rows_from first (map columns xs) ≡ rows_from first done ++ left
    → BeginsWithEntry is_whole columns (first + length done) left
next_entry is_whole columns first [] [] left whole e = subst (BeginsWithEntry is_whole columns (first + 0)) e tt
next_entry is_whole columns first (x ∷ xs) [] left whole e =
    let k : first ≡ first + 0 = omega arith in
    subst (BeginsWithEntry is_whole columns (first + 0)) e (x, All-head is_whole x xs whole, ap (λ n. Int (pos n) ∷ columns x) k)
next_entry is_whole columns first [] (d ∷ done) left whole e = absurd (let l = ap length e in omega arith)
next_entry is_whole columns first (x ∷ xs) (d ∷ done) left whole e =
    let tails : rows_from (first + 1) (map columns xs) ≡ rows_from (first + 1) done ++ left = cc in
    let k : first + 1 + length done ≡ first + length (d ∷ done) = omega arith in
    subst (λ n. BeginsWithEntry is_whole columns n left) k (next_entry is_whole columns (first + 1) xs done left (All-tail is_whole x xs whole) tails)

-- no more rows were read than there are
pub no_more_rows : (first : ℕ) (all done left : List Row) → rows_from first all ≡ rows_from first done ++ left → length done ≤ length all
no_more_rows first all [] left e = omega arith
no_more_rows first [] (d ∷ done) left e = absurd (let l = ap length e in omega arith)
no_more_rows first (x ∷ all) (d ∷ done) left e =
    let tails : rows_from (first + 1) all ≡ rows_from (first + 1) done ++ left = cc in
    let fewer = no_more_rows (first + 1) all done left tails in
    omega (arith, fewer)

-- how many rows there are behind the first ones
pub behind_first : (first : ℕ) (all : List Row) → first ≤ length all → {n : ℕ} → n ≡ length (drop first all) → first + n ≡ length all
behind_first zero all few is = omega (arith, is)
behind_first (suc first) [] few is = absurd (omega (arith, few))
behind_first (suc first) (x ∷ all) few is = let rest = behind_first first all (omega (arith, few)) is in omega (arith, rest)
