-- The intersection of several sets of registers.
use Rattle.std.proofs.Common.{◌≡◌, List, [], ◌∷◌, ◌++◌, Bool, true, false, ◌&&◌, Option, Some, None, refl, sym, ap, ap₂, ◌∙◌}
use Rattle.tl_lowering.specs.Sets.{Nodes, both, both_of, all_of}

and_assoc : (a b c : Bool) → (a && b) && c ≡ a && (b && c)
and_assoc true b c = refl
and_assoc false b c = refl

both_assoc : (x y z : Nodes) → both (both x y) z ≡ both x (both y z)
both_assoc [] y z = refl
both_assoc (a ∷ x) [] z = refl
both_assoc (a ∷ x) (b ∷ y) [] = refl
both_assoc (a ∷ x) (b ∷ y) (c ∷ z) = ap₂ (λ h t. h ∷ t) (and_assoc a b c) (both_assoc x y z)

of_assoc : (x y z : Option Nodes) → both_of (both_of x y) z ≡ both_of x (both_of y z)
of_assoc None y z = refl
of_assoc (Some x) None z = refl
of_assoc (Some x) (Some y) None = refl
of_assoc (Some x) (Some y) (Some z) = ap Some (both_assoc x y z)

pub all_joined : (xs ys : List Nodes) → all_of (xs ++ ys) ≡ both_of (all_of xs) (all_of ys)
all_joined [] ys = refl
all_joined (x ∷ xs) ys = ap (both_of (Some x)) (all_joined xs ys) ∙ sym (of_assoc (Some x) (all_of xs) (all_of ys))
