-- The tree of a text, and the rest that is read of it.
use Rattle.std.proofs.Common.{ℕ, ◌≡◌, ◌≢◌, ℤ, List, ◌∙◌, Option, Some, None, option_map, Ok, Err, refl, ap, inl, inr}
use Rattle.tl_tree.specs.Records.{Records}
use Rattle.tl_tree.specs.Trees.{TreeValue}
use Rattle.tl_tree.specs.Reading.{tree_from}
use Rattle.tl_tree.proofs.EitherWidth.{formed_is_tree}
use Rattle.tl_tree.specs.declared.fault.TreeFault.{TreeFault}
use Rattle.tl_tree.specs.declared.fault.TreeFault.TheVariants.{Empty, TooMany, BadRoot, BadParent, WrongCount, NotTree}
use Rattle.tl_tree.specs.declared.fault.TreeFault.TheVariants as tree
use Rattle.tl_trail.specs.declared.raw.RawTrail.{RawTrail}
use Rattle.tl_trail.specs.declared.fault.TrailFault.{TrailFault}
use Rattle.tl_trail.specs.declared.fault.TrailFault.TheVariants.{Tree, Memory}
use Rattle.tl_trail.specs.Faults.{of_tree}
use Rattle.tl_trail.specs.Raw.{form_with, IsHalfRead, IsUnread}

-- ---- of a value that is this

pub half_read : (limit : ℕ) (o : Option (List ℤ × Records)) (this : RawTrail) (tree : TreeValue) → tree_from limit o ≡ Ok tree → IsHalfRead limit (option_map (form_with this) o) tree this
half_read limit None this tree e = absurd cc
half_read limit (Some parts) this tree e = record { parts = parts; form_is = refl; tree_is = e }

-- a fault that is neither one of the form nor of memory is a fault of the tree
own_fault : (f : TreeFault) → f ≢ NotTree → of_tree f ≢ Memory → of_tree f ≡ Tree f
own_fault Empty form memory = refl
own_fault TooMany form memory = refl
own_fault BadRoot form memory = refl
own_fault (BadParent x) form memory = refl
own_fault WrongCount form memory = refl
own_fault NotTree form memory = absurd (form refl)
own_fault tree.Memory form memory = absurd (memory refl)

pub unread : (limit : ℕ) (o : Option (List ℤ × Records)) (this : RawTrail) (f : TreeFault) (e : TrailFault) → (f ≢ tree.Memory → tree_from limit o ≡ Err f) → e ≡ of_tree f → e ≢ Memory
    → IsUnread limit (option_map (form_with this) o) e
unread limit o this f e fault is memory = go o (fault (λ same. memory (is ∙ ap of_tree same)))
  where
    go : (o : Option (List ℤ × Records)) → tree_from limit o ≡ Err f → IsUnread limit (option_map (form_with this) o) e
    go None wrong = inl (is ∙ ap of_tree (let same : f ≡ NotTree = cc in same), refl)
    go (Some parts) wrong = inr (form_with this parts, f, refl, is ∙ own_fault f (λ same. formed_is_tree limit parts (wrong ∙ ap Err same)) (λ same. memory (is ∙ same)), wrong)
