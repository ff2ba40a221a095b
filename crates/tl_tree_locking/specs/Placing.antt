-- For each node two values, its holder and the call that last locked it while holding its parent, determine which calls may still lock it.
use Rattle.std.specs.Prelude.{◌≡◌, ◌≢◌, ℕ, ◌+◌, ◌<◌, Bool, true, false, ◌&&◌, List, [], ◌∷◌, ◌==◌, if◌then◌else◌, Option, Some, None, is_some, get_or, length}
use Rattle.std.proofs.Common.{zero, suc}
use Rattle.tl_tree.specs.Shape.{parent}
use Rattle.tl_tree_locking.specs.declared.event.Event.{Event}
use Rattle.tl_tree_locking.specs.declared.event.Event.TheVariants.{Admit, Lock, Free, Done}
use Rattle.tl_tree_locking.specs.Ancestors.{nodes_above}
use Rattle.tl_tree_locking.specs.Actions.{locked_any}
use Rattle.tl_tree_locking.specs.History.{part_of, admits, IsOpen}
use Rattle.tl_tree_locking.specs.Order.{stands}
use Rattle.tl_tree_locking.specs.Holders.{holder_of}

-- whether the option is this call
abbrev pub is_call : Option ℕ → ℕ → Bool
is_call None c = false
is_call (Some d) c = d == c

-- the call that last locked x while it held the parent of x
abbrev pub under_of : List ℕ → List Event → ℕ → Option ℕ
under_of parents [] x = None
under_of parents (Lock y c found ∷ past) x =
    if (y == x) && is_call (holder_of past (parent parents x)) c then Some c else under_of parents past x
under_of parents (_ ∷ past) x = under_of parents past x

-- the calls, with the holder of a node added in front unless the holder is `under`, the call that last locked the next lower node
abbrev pub with_coming : Option ℕ → Option ℕ → List ℕ → List ℕ
with_coming None under calls = calls
with_coming (Some c) under calls = if is_call under c then calls else c ∷ calls

-- the same for a list of nodes on the way up, the nearest first, where x is the node just below the first of them
abbrev pub coming_along : List ℕ → List Event → ℕ → List ℕ → List ℕ
coming_along parents past x [] = []
coming_along parents past x (y ∷ ys) =
    with_coming (holder_of past y) (under_of parents past x) (coming_along parents past y ys)

-- The calls that one climb from x to the root finds: each call that holds a node strictly above x, unless it is the call
-- that last locked, while holding that node, the next lower node on the way to x.
abbrev pub coming_calls : List ℕ → List Event → ℕ → List ℕ
coming_calls parents past x = coming_along parents past x (nodes_above parents x)

-- how many calls of the order precede the first one that is in `calls`; the length of the order if none is
abbrev pub place_before : List ℕ → List ℕ → ℕ
place_before calls [] = 0
place_before calls (d ∷ order) = if stands d calls then 0 else place_before calls order + 1

-- how many of the nodes below n have a holder
abbrev pub held_below : ℕ → List Event → ℕ
held_below zero past = 0
held_below (suc n) past = if is_some (holder_of past n) then held_below n past + 1 else held_below n past

-- What keeps the history legal, in terms of the two values of each node. No call holds a node that is locked. If the lock
-- isn't the call's first, the call also holds the node's parent and isn't the last to have locked the node while holding
-- it. A node that is freed is held by the call. A call that is done holds no node.
abbrev pub IsLegalNext : List ℕ → List Event → Event → Type 0
IsLegalNext parents past (Admit c) = c ≡ admits past
IsLegalNext parents past (Lock x c found) =
    IsOpen c past × (holder_of past x ≡ None)
    × (locked_any (part_of c past) ≡ true
    → (0 < x) × (holder_of past (parent parents x) ≡ Some c) × (under_of parents past x ≢ Some c))
IsLegalNext parents past (Free x c left) = IsOpen c past × (holder_of past x ≡ Some c)
IsLegalNext parents past (Done c) = IsOpen c past × ((x : ℕ) → holder_of past x ≢ Some c)

-- the list gives the holder of each node
abbrev pub AreHolders : List (Option ℕ) → List Event → Type 0
AreHolders holders past = (x : ℕ) → x < length holders → get_or holders x None ≡ holder_of past x

-- the list gives for each node the call that last locked it while holding its parent
abbrev pub AreUnder : List ℕ → List (Option ℕ) → List Event → Type 0
AreUnder parents under past = (x : ℕ) → x < length under → get_or under x None ≡ under_of parents past x
