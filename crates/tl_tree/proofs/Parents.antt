-- Integers that may be the parents of a tree.
use Rattle.std.proofs.Common.{◌≡◌, ℕ, zero, suc, ◌+◌, ◌-◌, ◌<◌, ◌≤◌, ◌==◌, ℤ, pos, negsuc, unsigned_abs, List, [], ◌∷◌, length, get_or, map, nat_lt, cond, Bool, true, false, Option, Some, None, option_map, Ok, Err, refl, sym, ap, ap₂, ◌∙◌, arith, add-zero}
use Rattle.std.proofs.lemmas.Bool.Decides.{nat_tests}
use Rattle.std.proofs.lemmas.List.{length-map, get_or-map}
use Rattle.tl_tree.specs.declared.fault.TreeFault.TheVariants.{TooMany, BadRoot, BadParent}
use Rattle.tl_tree.specs.declared.shape.TheConstants.{MAX_NODES}
use Rattle.tl_tree.specs.Shape.{IsTree, is_root, is_lower, first_astray, unless_fault, shape_of, IsFirstAstray}

-- ---- one integer

pub lower_is : (z : ℤ) (x : ℕ) → is_lower z x ≡ true → (z ≡ pos (unsigned_abs z)) × (unsigned_abs z < x)
lower_is (pos p) x h = (refl, grind (arith, nat_tests))
lower_is (negsuc p) x h = absurd cc

pub root_is : (z : ℤ) → is_root z ≡ true → (z ≡ pos 0) × (unsigned_abs z ≡ 0)
root_is (pos p) h = let zero_is : p ≡ 0 = grind (arith, nat_tests) in (ap pos zero_is, zero_is)
root_is (negsuc p) h = absurd cc

-- ---- the first node that has no parent before it

step_none : (b : Bool) (o : Option ℕ) (x : ℕ) → cond b o (Some x) ≡ None → (b ≡ true) × (o ≡ None)
step_none true o x h = (refl, h)
step_none false o x h = absurd cc

pub astray_none : (ps : List ℤ) (x : ℕ) → first_astray x ps ≡ None → (y : ℕ) → y < length ps → is_lower (get_or ps y (pos 0)) (x + y) ≡ true
astray_none [] x h y less = absurd (omega arith)
astray_none (p ∷ ps) x h zero less = rw add-zero ((step_none _ _ x h).0)
astray_none (p ∷ ps) x h (suc y) less =
    let along : (x + 1) + y ≡ x + suc y = omega arith in
    rw along at (astray_none ps (x + 1) ((step_none _ _ x h).1) y (omega arith))

-- x is the first node, where nodes are counted from low, whose parent isn't a lower number
record IsFirst (ps : List ℤ) (low x : ℕ) : Type 0 where
  from : low ≤ x
  inside : x < low + length ps
  astray : is_lower (get_or ps (x - low) (pos 0)) x ≡ false
  least : (y : ℕ) → low ≤ y → y < x → is_lower (get_or ps (y - low) (pos 0)) y ≡ true

here : (p : ℤ) (ps : List ℤ) (low x : ℕ) → is_lower p low ≡ false → Some low ≡ Some x → IsFirst (p ∷ ps) low x
here p ps low x not_lower e =
    let same : low ≡ x = cc in
    let none : low - low ≡ 0 = omega arith in
    rw (← same) (record { from = omega arith; inside = omega arith; astray = rw none not_lower; least = λ y from less. absurd (omega arith) })

least_at : (p : ℤ) (ps : List ℤ) (low y n : ℕ) → is_lower p low ≡ true → (suc low ≤ y → is_lower (get_or ps (y - (low + 1)) (pos 0)) y ≡ true) → low + n ≡ y → is_lower (get_or (p ∷ ps) n (pos 0)) y ≡ true
least_at p ps low y zero is rest e = let same : y ≡ low = omega arith in rw same is
least_at p ps low y (suc n) is rest e = let back : y - (low + 1) ≡ n = omega arith in rw back at (rest (omega arith))

there : (p : ℤ) (ps : List ℤ) (low x : ℕ) → is_lower p low ≡ true → IsFirst ps (low + 1) x → IsFirst (p ∷ ps) low x
there p ps low x is h =
    let from = h.from in
    let inside = h.inside in
    let back : x - low ≡ suc (x - (low + 1)) = omega arith in
    record {
      from = omega arith;
      inside = omega arith;
      astray = rw back h.astray;
      least = λ y low_y less. least_at p ps low y (y - low) is (λ above. h.least y (omega arith) less) (omega arith);
    }

first_at : (b : Bool) (p : ℤ) (ps : List ℤ) (low x : ℕ) → is_lower p low ≡ b → (first_astray (low + 1) ps ≡ Some x → IsFirst ps (low + 1) x) → cond b (first_astray (low + 1) ps) (Some low) ≡ Some x → IsFirst (p ∷ ps) low x
first_at true p ps low x is rest h = there p ps low x is (rest h)
first_at false p ps low x is rest h = here p ps low x is h

first_is : (ps : List ℤ) (low x : ℕ) → first_astray low ps ≡ Some x → IsFirst ps low x
first_is [] low x h = absurd cc
first_is (p ∷ ps) low x h = first_at (is_lower p low) p ps low x refl (first_is ps (low + 1) x) h

none_astray : (ps : List ℕ) (x : ℕ) → ((y : ℕ) → y < length ps → get_or ps y 0 < x + y) → first_astray x (map pos ps) ≡ None
none_astray [] x h = refl
none_astray (p ∷ ps) x h =
    let first : p < x = (let at = h 0 (omega arith) in omega arith) in
    let rest = none_astray ps (x + 1) (λ y less. (let at = h (suc y) (omega arith) in omega arith)) in
    grind (arith, nat_tests)

-- ---- the whole

shape_ok : (b r : Bool) (a : Option ℕ) (xs s : List ℕ) → unless_fault (cond b (Some TooMany) (cond r (option_map BadParent a) (Some BadRoot))) xs ≡ Ok s → (b ≡ false) × (r ≡ true) × (a ≡ None) × (xs ≡ s)
shape_ok true r a xs s h = absurd cc
shape_ok false false a xs s h = absurd cc
shape_ok false true (Some x) xs s h = absurd cc
shape_ok false true None xs s h = (refl, refl, refl, cc)

shape_bad : (b r : Bool) (a : Option ℕ) (xs : List ℕ) (x : ℕ) → unless_fault (cond b (Some TooMany) (cond r (option_map BadParent a) (Some BadRoot))) xs ≡ Err (BadParent x) → a ≡ Some x
shape_bad true r a xs x h = absurd cc
shape_bad false false a xs x h = absurd cc
shape_bad false true None xs x h = absurd cc
shape_bad false true (Some y) xs x h = cc

same_pos : (ps : List ℤ) (x : ℕ) → first_astray x ps ≡ None → map pos (map unsigned_abs ps) ≡ ps
same_pos [] x h = refl
same_pos (p ∷ ps) x h =
    let split = step_none _ _ x h in
    ap₂ ◌∷◌ (sym ((lower_is p x split.0).0)) (same_pos ps (x + 1) split.1)

same_nodes : (ps : List ℕ) → map unsigned_abs (map pos ps) ≡ ps
same_nodes [] = refl
same_nodes (p ∷ ps) = ap (λ l. p ∷ l) (same_nodes ps)

lower_at : (p : ℤ) (ps : List ℤ) → first_astray 1 ps ≡ None → (x : ℕ) → 0 < x → x < suc (length ps) → get_or (map unsigned_abs (p ∷ ps)) x 0 < x
lower_at p ps none zero above less = absurd (omega arith)
lower_at p ps none (suc y) above less =
    let inside : y < length ps = omega arith in
    let is = (lower_is (get_or ps y (pos 0)) (1 + y) (astray_none ps 1 none y inside)).1 in
    rw (get_or-map unsigned_abs ps y (pos 0) 0 inside) (omega (arith, is))

tree_at : (limit : ℕ) (p : ℤ) (ps : List ℤ) → limit ≤ MAX_NODES → nat_lt limit (length (p ∷ ps)) ≡ false → is_root p ≡ true → first_astray 1 ps ≡ None → IsTree (map unsigned_abs (p ∷ ps))
tree_at limit p ps most few root none =
    let size = length-map ps unsigned_abs in
    record {
      some = omega arith;
      few = grind (arith, nat_tests, size);
      root = (root_is p root).1;
      lower = λ x above less. lower_at p ps none x above (omega (arith, size));
    }

-- the parents that `shape_of` accepts are those of a tree
pub tree_from_shape_of : (limit : ℕ) (numbers : List ℤ) (s : List ℕ) → limit ≤ MAX_NODES → shape_of limit numbers ≡ Ok s → IsTree s × (map pos s ≡ numbers)
tree_from_shape_of limit [] s most h = absurd cc
tree_from_shape_of limit (p ∷ ps) s most h =
    let parts = shape_ok _ _ _ (map unsigned_abs (p ∷ ps)) s h in
    rw (← parts.3) (
      tree_at limit p ps most parts.0 parts.1 parts.2,
      ap₂ ◌∷◌ (sym ((root_is p parts.1).0 ∙ ap pos (sym ((root_is p parts.1).1)))) (same_pos ps 1 parts.2),
    )

-- `shape_of` accepts the parents of a tree
pub shape_of-pos : (limit : ℕ) (s : List ℕ) → IsTree s → length s ≤ limit → shape_of limit (map pos s) ≡ Ok s
shape_of-pos limit [] h small = absurd (let some = h.some in omega arith)
shape_of-pos limit (p ∷ ps) h small =
    let few : length (map pos (p ∷ ps)) ≤ limit = omega (arith, length-map ps pos) in
    let many : nat_lt limit (length (map pos (p ∷ ps))) ≡ false = grind (arith, nat_tests) in
    let root : (p == 0) ≡ true = (let at = h.root in grind (arith, nat_tests)) in
    let none = none_astray ps 1 (λ y less. (let at = h.lower (suc y) (omega arith) (omega arith) in omega arith)) in
    rw (many, root, none, same_nodes ps) refl

shifted : (p : ℤ) (ps : List ℤ) (x : ℕ) → 0 < x → get_or (p ∷ ps) x (pos 0) ≡ get_or ps (x - 1) (pos 0)
shifted p ps zero above = absurd (omega arith)
shifted p ps (suc x) above = let back : suc x - 1 ≡ x = omega arith in rw back refl

-- the node of a `BadParent` fault is the lowest such node
pub astray_from_shape_of : (limit : ℕ) (numbers : List ℤ) (x : ℕ) → shape_of limit numbers ≡ Err (BadParent x) → IsFirstAstray numbers x
astray_from_shape_of limit [] x h = absurd cc
astray_from_shape_of limit (p ∷ ps) x h =
    let first : IsFirst ps 1 x = first_is ps 1 x (shape_bad (nat_lt limit (length (p ∷ ps))) (is_root p) (first_astray 1 ps) (map unsigned_abs (p ∷ ps)) x h) in
    let from = first.from in
    let inside = first.inside in
    record {
      below_root = omega arith;
      inside = omega arith;
      astray = rw (shifted p ps x (omega arith)) first.astray;
      least = λ y above less. rw (shifted p ps y above) (first.least y (omega arith) less);
    }
