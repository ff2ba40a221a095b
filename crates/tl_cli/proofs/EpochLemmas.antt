-- The tree as it was after an epoch, once one trail more came.
use Rattle.std.proofs.Common.{◌≡◌, ◌∙◌, ◌+◌, ℕ, List, [], ◌∷◌, ◌++◌, length, Option, Some, None, slice_get, subst, arith}
use Rattle.std.specs.Prelude.{IfSome}
use Rattle.std.proofs.lemmas.List.{length-append}
use Rattle.tl_tree.specs.Trees.{TreeValue}
use Rattle.tl_tree_locking.proofs.ListPlaces.{place_kept, place_new}
use Rattle.tl_trail.specs.Trails.{TrailValue}
use Rattle.tl_cli.specs.Epochs.{IsEnding, IsAfter}

still_right : (epoch : ℕ) (tree : Option TreeValue) (trails : List TrailValue) (t : TrailValue) → IfSome tree (IsEnding trails epoch) → IfSome tree (IsEnding (trails ++ t ∷ []) epoch)
still_right epoch None trails t right = right
still_right epoch (Some tree) trails t right = record {
  trail = right.trail;
  at = place_kept trails (t ∷ []) epoch right.trail right.at;
  parents = right.parents;
  records = right.records;
}

pub trail_more : (epoch seen : ℕ) (tree : Option TreeValue) (trails : List TrailValue) (t : TrailValue) → IsAfter epoch seen tree trails → IsAfter epoch (seen + 1) tree (trails ++ t ∷ [])
trail_more epoch seen tree trails t after =
    let longer : length (trails ++ t ∷ []) ≡ length trails + 1 = length-append trails (t ∷ []) in record {
      count = omega (arith, longer, after.count);
      right = still_right epoch tree trails t after.right;
    }

-- the trail is that of the epoch
pub ends_here : (epoch seen : ℕ) (old : Option TreeValue) (tree : TreeValue) (trails : List TrailValue) (t : TrailValue) → seen ≡ epoch → tree.parents ≡ t.parents → tree.records ≡ t.ends
    → IsAfter epoch seen old trails → IsAfter epoch (seen + 1) (Some tree) (trails ++ t ∷ [])
ends_here epoch seen old tree trails t is parents records after =
    let longer : length (trails ++ t ∷ []) ≡ length trails + 1 = length-append trails (t ∷ []) in
    let here : length trails ≡ epoch = after.count ∙ is in record {
      count = omega (arith, longer, after.count);
      right = record {
        trail = t;
        at = subst (λ n. slice_get (trails ++ t ∷ []) n ≡ Some t) here (place_new trails t);
        parents = parents;
        records = records;
      };
    }
