-- Rows that are appended to a table.
use Rattle.std.proofs.Common.{◌≡◌, ℕ, zero, suc, ◌+◌, ◌<◌, ◌≤◌, pos, List, [], ◌∷◌, ◌++◌, length, map, take, replicate, get_or, refl, sym, ap, ◌∙◌, arith, Less, Equal, slice_set, int_cmp}
use Rattle.std.proofs.lemmas.Bool.{ne_eqb, eq-eqb}
use Rattle.std.proofs.lemmas.Bool.Decides.{nat_tests}
use Rattle.std.proofs.lemmas.List.{length-append, append-nil, append_assoc, length-map, length-take-le}
use Rattle.sqlite_value.specs.declared.value.Value.TheVariants.{Int}
use Rattle.sqlite_value.specs.Order.{Row, value_cmp}
use Rattle.sqlite_value.proofs.OrderLemmas.{value_cmp-Int}
use Rattle.sqlite_trees.specs.Tree.{Trees, put_row, with_tree}
use Rattle.sqlite_trees.specs.View.{View, SetsTree, OnlyWrites}
use Rattle.tl_ledger.specs.declared.rows.NodeRow.{NodeRow}
use Rattle.tl_ledger.specs.declared.rows.TheConstants.{FIELDS}
use Rattle.tl_ledger.specs.News.{fields_columns, new_columns}
use Rattle.tl_ledger.specs.Rows.{rows_from, Appends}

pub less_numbers : (m n : ℕ) → m < n → int_cmp (pos m) (pos n) ≡ Less
less_numbers m n lt = grind (arith, nat_tests)

pub same_numbers : (m : ℕ) → int_cmp (pos m) (pos m) ≡ Equal
same_numbers m = grind (arith, nat_tests)

pub put_row-last : (m : ℕ) (columns : List Row) (c : Row) (n : ℕ) → n ≡ m + length columns
    → put_row (Int (pos n) ∷ c) (rows_from m columns) ≡ rows_from m (columns ++ c ∷ [])
put_row-last m [] c n is = let e : n ≡ m = omega arith in ap (λ k. (Int (pos k) ∷ c) ∷ []) e
put_row-last m (d ∷ columns) c n is =
    let less : value_cmp (Int (pos m)) (Int (pos n)) ≡ Less = value_cmp-Int (pos m) (pos n) ∙ less_numbers m n (omega arith) in
    rw less (ap (λ l. (Int (pos m) ∷ d) ∷ l) (put_row-last (m + 1) columns c n (omega arith)))

pub put_row-at : (m : ℕ) (columns : List Row) (c : Row) (x n : ℕ) → x < length columns → n ≡ m + x
    → put_row (Int (pos n) ∷ c) (rows_from m columns) ≡ rows_from m (slice_set columns x c)
put_row-at m [] c x n inside is = absurd (omega arith)
put_row-at m (d ∷ columns) c zero n inside is =
    let e : n ≡ m = omega arith in
    let same : value_cmp (Int (pos m)) (Int (pos n)) ≡ Equal = value_cmp-Int (pos m) (pos n) ∙ ap (λ k. int_cmp (pos m) (pos k)) e ∙ same_numbers m in
    rw same (ap (λ k. (Int (pos k) ∷ c) ∷ rows_from (m + 1) columns) e)
put_row-at m (d ∷ columns) c (suc x) n inside is =
    let less : value_cmp (Int (pos m)) (Int (pos n)) ≡ Less = value_cmp-Int (pos m) (pos n) ∙ less_numbers m n (omega arith) in
    rw less (ap (λ l. (Int (pos m) ∷ d) ∷ l) (put_row-at (m + 1) columns c x n (omega arith) (omega arith)))

pub only_again : (old mid new : View) → OnlyWrites old mid → OnlyWrites mid new → OnlyWrites old new
only_again old mid new p q =
    let put : View → View = λ v. record v { trees = new.trees; cursors = new.cursors } in
    q ∙ ap put p

-- the elements up to the next one
pub map_more : {X : Type 0} (f : X → Row) (xs : List X) (i : ℕ) (x : X) → i < length xs → x ≡ get_or xs i x → map f (take (i + 1) xs) ≡ map f (take i xs) ++ f x ∷ []
map_more f xs i x lt is = let e : i + 1 ≡ suc i = omega arith in ap (λ n. map f (take n xs)) e ∙ go xs i lt is
  where
    go : (xs : List _) (i : ℕ) → i < length xs → x ≡ get_or xs i x → map f (take (suc i) xs) ≡ map f (take i xs) ++ f x ∷ []
    go [] i lt is = absurd (omega arith)
    go (y ∷ xs) zero lt is = ap (λ z. f z ∷ []) (sym is)
    go (y ∷ xs) (suc i) lt is = ap (λ l. f y ∷ l) (go xs i (omega arith) is)

-- the records of the nodes up to the next one
pub zeros_more : (nodes : List NodeRow) (i : ℕ) → i < length nodes → map new_columns (take (i + 1) nodes) ≡ map new_columns (take i nodes) ++ fields_columns (replicate FIELDS (pos 0)) ∷ []
zeros_more nodes i lt = let e : i + 1 ≡ suc i = omega arith in ap (λ n. map new_columns (take n nodes)) e ∙ go nodes i lt
  where
    go : (nodes : List NodeRow) (i : ℕ) → i < length nodes → map new_columns (take (suc i) nodes) ≡ map new_columns (take i nodes) ++ fields_columns (replicate FIELDS (pos 0)) ∷ []
    go [] i lt = absurd (omega arith)
    go (n ∷ nodes) zero lt = refl
    go (n ∷ nodes) (suc i) lt = ap (λ l. fields_columns (replicate FIELDS (pos 0)) ∷ l) (go nodes i (omega arith))

pub map_length : {X : Type 0} (f : X → Row) (xs : List X) (i : ℕ) → i ≤ length xs → length (map f (take i xs)) ≡ i
map_length f xs i le = length-map (take i xs) f ∙ length-take-le i xs le

pub appends_none : (v : View) (table first : ℕ) → Appends v v table first []
appends_none v table first = record {
  tree = λ columns long is. is ∙ ap (rows_from 0) (sym (append-nil columns));
  others = λ t other. refl;
  only = refl;
}

pub appends_more : (old mid new : View) (table first : ℕ) (more : List Row) (c : Row) → Appends old mid table first more
    → SetsTree mid new table (put_row (Int (pos (first + length more)) ∷ c)) → Appends old new table first (more ++ c ∷ [])
appends_more old mid new table first more c so_far sets =
    let put : Trees → View = λ t. record mid { trees = t; cursors = new.cursors } in
    let trees : new.trees ≡ with_tree mid.trees table (put_row (Int (pos (first + length more)) ∷ c) (mid.trees table)) = ap (λ v. v.trees) sets.is in record {
      tree = λ columns long is.
          ap (λ f. f table) trees
          ∙ rw (eq-eqb table table refl) (
          ap (put_row (Int (pos (first + length more)) ∷ c)) (so_far.tree columns long is)
          ∙ put_row-last 0 (columns ++ more) c (first + length more) (let e = length-append columns more in omega arith)
          ∙ ap (rows_from 0) (append_assoc columns more (c ∷ []))
          );
      others = λ t other. ap (λ f. f t) trees ∙ rw (ne_eqb t table other) (so_far.others t other);
      only = only_again old mid new so_far.only (sets.is ∙ ap put (sym trees));
    }
