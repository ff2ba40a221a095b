-- Appending nodes to a tree.
use Rattle.std.proofs.Common.{◌≡◌, ℕ, zero, suc, ◌+◌, ◌-◌, ◌<◌, ◌≤◌, ℤ, pos, negsuc, unsigned_abs, List, [], ◌∷◌, ◌++◌, length, get_or, map, Bool, true, false, ◌⊎◌, inl, inr, refl, sym, ap, ap₂, ◌∙◌, subst, arith}
use Rattle.std.proofs.lemmas.Bool.{cases_lt}
use Rattle.std.proofs.lemmas.Bool.Decides.{nat_tests}
use Rattle.std.proofs.lemmas.List.{length-append, length-map, get_or-map, get_or_append_left, get_or-append_right, get_or-append-add, map-append}
use Rattle.tl_tree.specs.declared.shape.TheConstants.{MAX_NODES}
use Rattle.tl_tree.specs.Shape.{IsTree, parent, is_lower}
use Rattle.tl_tree.proofs.Parents.{lower_is}
use Rattle.tl_generations.specs.Growth.{AreLower, CanGrow, IsFirstBad, IsGrowthFault}
use Rattle.tl_generations.specs.declared.growth.GrowthFault.{GrowthFault}
use Rattle.tl_generations.specs.declared.growth.GrowthFault.TheVariants.{TooMany, BadParent, Memory}

no_negative : (first : ℕ) (zs : List ℤ) → AreLower first zs (length zs) → map pos (map unsigned_abs zs) ≡ zs
no_negative first [] h = refl
no_negative first (z ∷ zs) h =
    let here = (lower_is z (first + 0) (h 0 (omega arith))).0 in
    let later : AreLower (first + 1) zs (length zs) =
    λ i less. (let along : first + suc i ≡ (first + 1) + i = omega arith in rw along at (h (suc i) (omega arith))) in
    ap₂ ◌∷◌ (sym here) (no_negative (first + 1) zs later)

-- the parent of each node of the result has a lower number
lower_in : (parents : List ℕ) (zs : List ℤ) → IsTree parents → AreLower (length parents) zs (length zs)
    → (x : ℕ) → 0 < x → x < length parents + length zs → (x < length parents) ⊎ (length parents ≤ x) → parent (parents ++ map unsigned_abs zs) x < x
lower_in parents zs tree lower x above less (inl old) = rw (get_or_append_left parents (map unsigned_abs zs) 0 x old) (tree.lower x above old)
lower_in parents zs tree lower x above less (inr new) =
    let count = length parents in
    let i = x - count in
    let inside : i < length zs = omega arith in
    let at : count + i ≡ x = omega arith in
    let is = (lower_is (get_or zs i (pos 0)) (count + i) (lower i inside)).1 in
    rw (get_or-append_right parents (map unsigned_abs zs) count x 0 refl new, get_or-map unsigned_abs zs i (pos 0) 0 inside) (omega (arith, is, at))

pub can_grow : (parents : List ℕ) (zs : List ℤ) → IsTree parents → length parents + length zs ≤ MAX_NODES → AreLower (length parents) zs (length zs)
    → CanGrow parents zs (map unsigned_abs zs)
can_grow parents zs tree few lower =
    let added = map unsigned_abs zs in
    let size : length (parents ++ added) ≡ length parents + length zs = omega (arith, length-append parents added, length-map zs unsigned_abs) in
    let some = tree.some in
    record {
      same = no_negative (length parents) zs lower;
      tree = record {
        some = omega (arith, size, some);
        few = omega (arith, size, few);
        root = rw (get_or_append_left parents added 0 0 some) tree.root;
        lower = λ x above less. lower_in parents zs tree lower x above (omega (arith, size)) (cases_lt x (length parents));
      };
    }

lower_test : (p x : ℕ) → p < x → is_lower (pos p) x ≡ true
lower_test p x less = grind (arith, nat_tests)

-- if nodes can be appended, only memory can be refused
pub only_memory : (limit : ℕ) (parents : List ℕ) (zs : List ℤ) (added : List ℕ) (e : GrowthFault) → 0 < length parents → CanGrow parents zs added
    → length parents + length zs ≤ limit → IsGrowthFault limit (length parents) zs e → e ≡ Memory
only_memory limit parents zs added TooMany some can few h = absurd (omega (arith, h, few))
only_memory limit parents zs added (BadParent i) some can few h =
    let count = length parents in
    let bad = h.1 in
    let size : length added ≡ length zs = sym (length-map added pos) ∙ ap length can.same in
    let inside : i < length added = omega (arith, size, bad.inside) in
    let within : count + i < length (parents ++ added) = omega (arith, inside, length-append parents added) in
    let lower : get_or (parents ++ added) (count + i) 0 < count + i = can.tree.lower (count + i) (omega (arith, some)) within in
    let less : get_or added i 0 < count + i = rw (get_or-append-add parents added i 0) at lower in
    let at : get_or zs i (pos 0) ≡ pos (get_or added i 0) = ap (λ xs. get_or xs i (pos 0)) (sym can.same) ∙ get_or-map pos added i 0 (pos 0) inside in
    let good : is_lower (get_or zs i (pos 0)) (count + i) ≡ true = ap (λ z. is_lower z (count + i)) at ∙ lower_test (get_or added i 0) (count + i) less in
    absurd (let e : true ≡ false = sym good ∙ bad.bad in cc)
only_memory limit parents zs added Memory some can few h = refl

-- all parents as integers
pub all_integers : (parents added : List ℕ) (zs : List ℤ) → map pos added ≡ zs → map pos (parents ++ added) ≡ map pos parents ++ zs
all_integers parents added zs same = map-append pos parents added ∙ ap (λ xs. map pos parents ++ xs) same
