-- Which nodes a call may still lock, determined from its marks.
use Rattle.std.proofs.Common.{◌≡◌, ℕ, ◌<◌, Bool, true, false, List, length, get_or, arith}
use Rattle.std.specs.Prelude.{if◌then◌else◌}
use Rattle.tl_tree.specs.Shape.{parent, IsTree}
use Rattle.tl_tree_locking.specs.declared.action.Action.{Action}
use Rattle.tl_tree_locking.specs.Actions.{locked, held, may_come}
use Rattle.tl_tree_locking.proofs.Ancestors.{by_climbing, parent-lower}
use Rattle.tl_tree_locking.proofs.MayComeLemmas.{comes, comes-root, comes-step}
use Rattle.tl_serial_order.specs.Part.{IsPart, trues}
use Rattle.tl_serial_order.proofs.Marks.{marks, trues-none}

-- a call that holds no nodes may lock no further ones
none_held : (parents : List ℕ) → IsTree parents → (done : List Action) → ((y : ℕ) → y < length parents → held done y ≡ false)
    → (x : ℕ) → x < length parents → comes parents done x ≡ false
none_held parents tree done none =
    by_climbing parents tree (λ x. x < length parents → comes parents done x ≡ false)
    (λ inside. comes-root parents done)
    (λ x pos ih inside.
    let low = parent-lower parents tree x pos in
    let e = comes-step parents tree done x pos in
    let h = none (parent parents x) (omega arith) in
    let rest = ih (omega arith) in
    grind (arith, e, h, rest))

pub may_come-none_held : (parents : List ℕ) → IsTree parents → (done : List Action) → ((y : ℕ) → y < length parents → held done y ≡ false)
    → (x : ℕ) → x < length parents → may_come parents done x ≡ false
may_come-none_held parents tree done none x inside = let h = none_held parents tree done none x inside in grind (arith, h)

pub may_come-locked : (parents : List ℕ) (done : List Action) (x : ℕ) → locked done x ≡ true → may_come parents done x ≡ false
may_come-locked parents done x l = grind (arith, l)

pub may_come-comes : (parents : List ℕ) (done : List Action) (x : ℕ) → locked done x ≡ false → may_come parents done x ≡ comes parents done x
may_come-comes parents done x l = grind (arith, l)

-- a call without a mark that it holds a node
pub may_come-no_marks : (parents : List ℕ) → IsTree parents → (ls hs : List Bool) → length ls ≡ length parents → trues hs ≡ 0
    → (done : List Action) → IsPart (marks ls hs) done → (x : ℕ) → x < length parents → may_come parents done x ≡ false
may_come-no_marks parents tree ls hs same none done part x inside =
    may_come-none_held parents tree done
    (λ y h. let p = part.holds y (omega arith) in let t = trues-none hs y none in grind (arith, p, t)) x inside

-- one step up: if the parent was locked, whether it is held decides; otherwise the nodes above it do
pub comes_up-locked : (parents : List ℕ) → IsTree parents → (ls hs : List Bool) → length ls ≡ length parents
    → (done : List Action) → IsPart (marks ls hs) done → (x up : ℕ) → 0 < x → x < length parents → up ≡ parent parents x → up < length parents
    → get_or ls up false ≡ true → comes parents done x ≡ get_or hs up false
comes_up-locked parents tree ls hs same done part x up pos inside is up_inside marked =
    let l = part.locks up (omega arith) in
    let h = part.holds up (omega arith) in
    let e : comes parents done x ≡ (if locked done up then held done up else comes parents done up) =
    rw is (comes-step parents tree done x pos) in
    grind (arith, e, l, h, marked)

pub comes_up-not_locked : (parents : List ℕ) → IsTree parents → (ls hs : List Bool) → length ls ≡ length parents
    → (done : List Action) → IsPart (marks ls hs) done → (x up : ℕ) → 0 < x → x < length parents → up ≡ parent parents x → up < length parents
    → get_or ls up false ≡ false → comes parents done x ≡ comes parents done up
comes_up-not_locked parents tree ls hs same done part x up pos inside is up_inside marked =
    let l = part.locks up (omega arith) in
    let e : comes parents done x ≡ (if locked done up then held done up else comes parents done up) =
    rw is (comes-step parents tree done x pos) in
    grind (arith, e, l, marked)
