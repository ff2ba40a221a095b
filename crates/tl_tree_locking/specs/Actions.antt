-- What one call has done: a list of actions, the latest first.
use Rattle.std.specs.Prelude.{◌≡◌, ℕ, ◌+◌, Bool, true, false, not, ◌&&◌, ◌||◌, List, [], ◌∷◌, ◌++◌, ◌==◌, if◌then◌else◌, ℤ}
use Rattle.std.proofs.Common.{zero, suc}
use Rattle.tl_tree.specs.Records.{Record, Records, put_record}
use Rattle.tl_tree.specs.Shape.{parent}
use Rattle.tl_tree_locking.specs.declared.action.Action.{Action}
use Rattle.tl_tree_locking.specs.declared.action.Action.TheVariants.{Plain, Lock, Read, Write, Free, Emit, End}
use Rattle.tl_tree_locking.specs.Ancestors.{nodes_above}

-- ---- one action

abbrev pub locks : Action → ℕ → Bool
locks (Lock y found) x = y == x
locks _ x = false

abbrev pub frees : Action → ℕ → Bool
frees (Free y left) x = y == x
frees _ x = false

abbrev pub is_lock : Action → Bool
is_lock (Lock y found) = true
is_lock _ = false

abbrev pub is_end : Action → Bool
is_end End = true
is_end _ = false

-- ---- what was done, the latest first

-- whether x was locked
abbrev pub locked : List Action → ℕ → Bool
locked [] x = false
locked (a ∷ done) x = locks a x || locked done x

-- whether x was locked and not freed since
abbrev pub held : List Action → ℕ → Bool
held [] x = false
held (a ∷ done) x = locks a x || (not (frees a x) && held done x)

-- whether x was freed
abbrev pub freed : List Action → ℕ → Bool
freed [] x = false
freed (a ∷ done) x = frees a x || freed done x

-- whether any node was locked
abbrev pub locked_any : List Action → Bool
locked_any [] = false
locked_any (a ∷ done) = is_lock a || locked_any done

-- whether the call has ended
abbrev pub has_ended : List Action → Bool
has_ended [] = false
has_ended (a ∷ done) = is_end a || has_ended done

-- the record that the call found at its latest lock of x; r if it hasn't locked x
abbrev pub found_in : List Action → ℕ → Record → Record
found_in [] x r = r
found_in (Lock y found ∷ done) x r = if y == x then found else found_in done x r
found_in (_ ∷ done) x r = found_in done x r

-- the record that the call left at its latest free of x; r if it hasn't freed x
abbrev pub left_in : List Action → ℕ → Record → Record
left_in [] x r = r
left_in (Free y left ∷ done) x r = if y == x then left else left_in done x r
left_in (_ ∷ done) x r = left_in done x r

-- the records t, with the record of each locked node replaced by the one that the call found there
abbrev pub with_found : List Action → Records → Records
with_found [] t = t
with_found (Lock x found ∷ done) t = put_record (with_found done t) x found
with_found (_ ∷ done) t = with_found done t

-- the values that the call emitted, the earliest first
abbrev pub emitted : List Action → List ℤ
emitted [] = []
emitted (Emit value ∷ done) = emitted done ++ value ∷ []
emitted (_ ∷ done) = emitted done

-- the actions that a history stores: locks, frees, and the end, which is stored as the event Done
abbrev pub shared_actions : List Action → List Action
shared_actions [] = []
shared_actions (Lock x found ∷ done) = Lock x found ∷ shared_actions done
shared_actions (Free x left ∷ done) = Free x left ∷ shared_actions done
shared_actions (End ∷ done) = End ∷ shared_actions done
shared_actions (_ ∷ done) = shared_actions done

-- only the locks and the frees
abbrev pub locks_and_frees : List Action → List Action
locks_and_frees [] = []
locks_and_frees (Lock x found ∷ done) = Lock x found ∷ locks_and_frees done
locks_and_frees (Free x left ∷ done) = Free x left ∷ locks_and_frees done
locks_and_frees (_ ∷ done) = locks_and_frees done

-- the number of locks, and below the number of frees
abbrev pub lock_count : List Action → ℕ
lock_count [] = 0
lock_count (Lock x found ∷ done) = lock_count done + 1
lock_count (_ ∷ done) = lock_count done

abbrev pub free_count : List Action → ℕ
free_count [] = 0
free_count (Free x left ∷ done) = free_count done + 1
free_count (_ ∷ done) = free_count done

-- ---- from a list with the earliest first

-- the list `done` after the first k of `actions`, the latest first
abbrev pub taken : ℕ → List Action → List Action → List Action
taken zero actions done = done
taken (suc k) [] done = done
taken (suc k) (a ∷ actions) done = taken k actions (a ∷ done)

-- ---- the tree protocol

-- what the protocol requires of the next action: a lock is the call's first or its node's parent is held, and the node
-- hasn't been locked before; a node that is read, written or freed is held; at the end no node is held
abbrev pub Permitted : List ℕ → List Action → Action → Type 0
Permitted parents done (Lock x found) =
    (locked done x ≡ false) × (locked_any done ≡ true → held done (parent parents x) ≡ true)
Permitted parents done (Read x field value) = held done x ≡ true
Permitted parents done (Write x field value) = held done x ≡ true
Permitted parents done (Free x left) = held done x ≡ true
Permitted parents done (Emit value) = Unit {0}
Permitted parents done End = (x : ℕ) → held done x ≡ false
Permitted parents done Plain = Unit {0}

-- each action is permitted after the actions before it, and no action follows the end
abbrev pub EachPermitted : List ℕ → List Action → Type 0
EachPermitted parents [] = Unit {0}
EachPermitted parents (a ∷ done) = Permitted parents done a × (has_ended done ≡ false) × EachPermitted parents done

-- the same for further actions, the earliest first, that follow `done`
abbrev pub PermittedAfter : List ℕ → List Action → List Action → Type 0
PermittedAfter parents done [] = Unit {0}
PermittedAfter parents done (a ∷ actions) =
    Permitted parents done a × (has_ended done ≡ false) × PermittedAfter parents (a ∷ done) actions

-- ---- where the call may still come

-- whether the call still holds the first of these nodes that it has locked; false if it has locked none
abbrev pub holds_first : List Action → List ℕ → Bool
holds_first done [] = false
holds_first done (y ∷ ys) = if locked done y then held done y else holds_first done ys

-- whether the call holds one of these nodes
abbrev pub holds_some : List Action → List ℕ → Bool
holds_some done [] = false
holds_some done (y ∷ ys) = held done y || holds_some done ys

-- whether the call may still lock x: it hasn't locked x, and it still holds the nearest node strictly above x that it has locked
abbrev pub may_come : List ℕ → List Action → ℕ → Bool
may_come parents done x = not (locked done x) && holds_first done (nodes_above parents x)
