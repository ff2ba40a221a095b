-- Rows that are put behind those of a table, one after another.
use Rattle.std.proofs.Common.{◌≡◌, ◌≢◌, ℕ, ◌+◌, ◌<◌, ◌≤◌, ◌⊎◌, inl, inr, List, [], ◌∷◌, ◌++◌, Some, IsTrue, true, false, refl, sym, ap, ◌∙◌, subst, append_assoc, arith}
use Rattle.std.specs.List.{AllByRecursion}
use Rattle.std.specs.declared.cmp.Ordering.TheVariants.{Less}
use Rattle.std.proofs.lemmas.Bool.{ne_eqb, eq-eqb, cases_eq}
use Rattle.std.proofs.lemmas.List.{append-nil}
use Rattle.sqlite_value.specs.declared.keys.Order.{Order}
use Rattle.sqlite_value.specs.Order.{Row, value_cmp}
use Rattle.sqlite_trees.specs.Tree.{Trees, IsTable, put_row, rowid, with_tree, from_key}
use Rattle.sqlite_trees.specs.View.{View, Commits, OnlyWrites}
use Rattle.tl_ledger.specs.declared.schema.TheConstants.{TABLES}
use Rattle.tl_ledger.specs.Contents.{IsAtRest, Holds, no_contents}
use Rattle.tl_snapshot.specs.Copies.{PutsNext, Fills, IsCopy}

-- ---- the rows of a table

one_of : (P : Row → Type 0) (xs : List Row) (y : Row) (ys : List Row) → AllByRecursion P (xs ++ y ∷ ys) → P y
one_of P [] y ys all = all.0
one_of P (x ∷ xs) y ys all = one_of P xs y ys all.1

-- the number of the next row is above those before, so the row is put behind them
put_behind : (done : List Row) (row : Row) (left : List Row) → IsTable (done ++ row ∷ left) → put_row row done ≡ done ++ row ∷ []
put_behind [] row left sorted = refl
put_behind (d ∷ done) row left sorted =
    let less : value_cmp (rowid d) (rowid row) ≡ Less = one_of (λ r. value_cmp (rowid d) (rowid r) ≡ Less) done row left sorted.0 in
    rw less (ap (λ l. d ∷ l) (put_behind done row left sorted.1))

-- all rows are given behind no key
pub all_given : (o : Order) (rows : List Row) → from_key o [] rows ≡ rows
all_given o [] = refl
all_given o ([] ∷ rows) = refl
all_given o ((x ∷ row) ∷ rows) = refl

-- the table has the first of these rows, and the cursor has the others
pub record Copied (rows : List Row) (from old new : View) (table : ℕ) : Type 0 where
  pub done : List Row
  pub left : List Row
  pub rows_are : rows ≡ done ++ left
  pub cursor : from.cursors 0 ≡ Some left
  pub fills : Fills old new table done

pub copied_none : (rows : List Row) (from v : View) (table : ℕ) → from.cursors 0 ≡ Some rows → v.trees table ≡ [] → Copied rows from v v table
copied_none rows from v table is empty = record { done = []; left = rows; rows_are = refl; cursor = is; fills = record { tree = empty; others = λ t other. refl } }

pub copied_more : (rows : List Row) (from from2 old to to2 : View) (table : ℕ) → IsTable rows → Copied rows from old to table → PutsNext from from2 to to2 table true
    → Copied rows from2 old to2 table
copied_more rows from from2 old to to2 table sorted so_far puts =
    let row : Row = puts.0 in
    let left : List Row = puts.1 in
    let next : so_far.left ≡ row ∷ left = (let both : Some so_far.left ≡ Some (row ∷ left) = sym so_far.cursor ∙ puts.2 in cc) in
    let whole : rows ≡ so_far.done ++ row ∷ left = so_far.rows_are ∙ ap (λ l. so_far.done ++ l) next in
    let trees : to2.trees ≡ with_tree to.trees table (put_row row (to.trees table)) = ap (λ v. v.trees) puts.4.is in record {
      done = so_far.done ++ row ∷ [];
      left = left;
      rows_are = whole ∙ sym (append_assoc so_far.done (row ∷ []) left);
      cursor = puts.3;
      fills = record {
        tree = ap (λ f. f table) trees ∙ rw (eq-eqb table table refl) (ap (put_row row) so_far.fills.tree ∙ put_behind so_far.done row left (subst IsTable whole sorted));
        others = λ t other. ap (λ f. f t) trees ∙ rw (ne_eqb t table other) (so_far.fills.others t other);
      };
    }

pub copied_all : (rows : List Row) (from from2 old to to2 : View) (table : ℕ) → Copied rows from old to table → PutsNext from from2 to to2 table false → Fills old to2 table rows
copied_all rows from from2 old to to2 table so_far puts =
    let none : so_far.left ≡ [] = (let both : Some so_far.left ≡ Some [] = sym so_far.cursor ∙ puts.0 in cc) in
    let whole : rows ≡ so_far.done = so_far.rows_are ∙ ap (λ l. so_far.done ++ l) none ∙ append-nil so_far.done in record {
      tree = ap (λ f. f table) puts.1 ∙ so_far.fills.tree ∙ sym whole;
      others = λ t other. ap (λ f. f t) puts.1 ∙ so_far.fills.others t other;
    }

-- ---- the tables

-- the first tables are copied, and the others have no rows
pub record CopiedTo (from to : Trees) (count : ℕ) : Type 0 where
  pub same : (t : ℕ) → t < count → to t ≡ from t
  pub empty : (t : ℕ) → count ≤ t → t < TABLES → to t ≡ []

pub tables_more : (from : Trees) (old new : View) (table : ℕ) (rows : List Row) → CopiedTo from old.trees table → rows ≡ from table → Fills old new table rows → CopiedTo from new.trees (table + 1)
tables_more from old new table rows so_far is fills = record {
  same = λ t below. by_cases t below (cases_eq t table);
  empty = λ t above inside. fills.others t (λ e. absurd (omega (arith, e, above))) ∙ so_far.empty t (omega (arith, above)) inside;
}
  where
    by_cases : (t : ℕ) → t < table + 1 → (t ≡ table) ⊎ (t ≢ table) → new.trees t ≡ from t
    by_cases t below (inl e) = ap new.trees e ∙ fills.tree ∙ is ∙ ap from (sym e)
    by_cases t below (inr other) = fills.others t other ∙ so_far.same t (omega (arith, below, other))

pub all_tables : (from to : Trees) (count : ℕ) → TABLES ≤ count → CopiedTo from to count → IsCopy from to
all_tables from to count whole so_far t inside = so_far.same t (omega (arith, inside, whole))

-- ---- the commit

pub at_rest_copied : (from to mid : View) → IsAtRest from → IsAtRest to → Holds to.committed no_contents → (Holds to.trees no_contents → IsCopy from.trees mid.trees)
    → IsCopy from.committed mid.trees
at_rest_copied from to mid from_rests to_rests blank copied t inside =
    copied (subst (λ (db : Trees). Holds db no_contents) (sym to_rests.settled) blank) t inside ∙ ap (λ f. f t) from_rests.settled

pub committed_copy : (from : Trees) (mid new : View) → IsCopy from mid.trees → Commits mid new → IsCopy from new.committed
committed_copy from mid new copied commits t inside = ap (λ v. v.committed t) commits.is ∙ copied t inside

-- a store that was open still is
pub still_open : (to mid new : View) → IsAtRest to → OnlyWrites to mid → Commits mid new → IsTrue new.is_open
still_open to mid new rests writes commits =
    let same : new.is_open ≡ to.is_open = ap (λ v. v.is_open) commits.is ∙ ap (λ v. v.is_open) writes in
    subst IsTrue (sym same) rests.is_open
