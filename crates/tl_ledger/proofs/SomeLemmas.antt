-- Rows read one after another, as far as they were read.
use Rattle.std.proofs.Common.{◌≡◌, ℕ, ◌+◌, List, [], ◌∷◌, ◌++◌, length, take, refl, sym, ap, ◌∙◌}
use Rattle.sqlite_value.specs.Order.{Row}
use Rattle.sqlite_trees.specs.Tree.{Trees}
use Rattle.sqlite_trees.specs.View.{View}
use Rattle.tl_ledger.specs.Rows.{rows_from}
use Rattle.tl_ledger.proofs.ReadLemmas.{Reads}

pub first_ones : (n : ℕ) (columns done left : List Row) → rows_from n columns ≡ rows_from n done ++ left → done ≡ take (length done) columns
first_ones n columns [] left e = refl
first_ones n [] (d ∷ done) left e = absurd cc
first_ones n (c ∷ columns) (d ∷ done) left e =
    let heads : c ≡ d = cc in
    let tails : rows_from (n + 1) columns ≡ rows_from (n + 1) done ++ left = cc in
    ap (λ x. x ∷ done) (sym heads) ∙ ap (λ l. c ∷ l) (first_ones (n + 1) columns done left tails)

pub reads_first : (trees : Trees) (new : View) (first : ℕ) (columns done : List Row) → Reads (rows_from first columns) trees new first done → done ≡ take (length done) columns
reads_first trees new first columns done so_far = first_ones first columns done so_far.left so_far.rows
