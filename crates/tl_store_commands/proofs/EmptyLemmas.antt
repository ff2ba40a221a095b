-- Tables without rows.
use Rattle.std.proofs.Common.{◌≡◌, ◌≢◌, ◌∙◌, ℕ, ◌+◌, ◌<◌, ◌≤◌, ◌⊎◌, inl, inr, List, [], ◌∷◌, Some, Bool, true, false, not, IsTrue, sym, ap, refl, true≢false, arith}
use Rattle.std.proofs.lemmas.Bool.{cases_eq}
use Rattle.sqlite_value.specs.Order.{Row}
use Rattle.sqlite_value.specs.declared.keys.Order.{Order}
use Rattle.sqlite_trees.specs.Tree.{Trees, from_key}
use Rattle.sqlite_trees.specs.View.{View, Advances}
use Rattle.tl_ledger.specs.declared.schema.TheConstants.{NAME, TABLES}
use Rattle.tl_ledger.specs.Contents.{Holds, no_contents}

-- all rows are given behind no key
pub all_sought : (o : Order) (rows : List Row) → from_key o [] rows ≡ rows
all_sought o [] = refl
all_sought o ([] ∷ rows) = refl
all_sought o ((x ∷ row) ∷ rows) = refl

pub not_found : (found : Bool) → IsTrue (not found) → found ≡ false
not_found true is = absurd (true≢false (sym is))
not_found false is = refl

-- the first tables have no rows
abbrev pub AreEmptyTo : Trees → ℕ → Type 0
AreEmptyTo db count = (t : ℕ) → t < count → db t ≡ []

pub none_given : (mid new : View) (rows : List Row) (row : Row) → mid.cursors 0 ≡ Some rows → Advances mid new 0 row false → rows ≡ []
none_given mid new rows row is moves = let both : Some rows ≡ Some [] = sym is ∙ moves.0 in cc

pub one_more_empty : (db : Trees) (table : ℕ) → AreEmptyTo db table → db table ≡ [] → AreEmptyTo db (table + 1)
one_more_empty db table so_far here t below = by_cases (cases_eq t table)
  where
    by_cases : (t ≡ table) ⊎ (t ≢ table) → db t ≡ []
    by_cases (inl e) = ap db e ∙ here
    by_cases (inr other) = so_far t (omega (arith, below, other))

pub all_empty : (db : Trees) (count : ℕ) → TABLES ≤ count → AreEmptyTo db count → Holds db no_contents
all_empty db count whole so_far = record {
  numbered = λ t below. so_far t (omega (arith, below, whole));
  names = so_far NAME (omega (arith, whole));
}
