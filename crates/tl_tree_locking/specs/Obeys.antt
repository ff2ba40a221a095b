-- The rules of the tree protocol, by positions in a call's list of actions, the earliest first.
use Rattle.std.specs.Prelude.{◌≡◌, ◌≢◌, ◌⊎◌, ℕ, ◌+◌, ◌<◌, List, length, Some, slice_get}
use Rattle.tl_tree.specs.Records.{Record}
use Rattle.tl_tree.specs.Shape.{parent}
use Rattle.tl_tree_locking.specs.declared.action.Action.{Action}
use Rattle.tl_tree_locking.specs.declared.action.Action.TheVariants.{Plain, Lock, Read, Write, Free, Emit, End}

-- x is locked before position k, and isn't freed between that lock and k
pub record IsHeldAt (actions : List Action) (k x : ℕ) : Type 0 where
  pub place : ℕ
  pub found : Record
  pub earlier : place < k
  pub is_lock : slice_get actions place ≡ Some (Lock x found)
  pub kept : (i : ℕ) (left : Record) → place < i → i < k → slice_get actions i ≢ Some (Free x left)

-- x is freed after position k
pub record IsFreedAfter (actions : List Action) (k x : ℕ) : Type 0 where
  pub place : ℕ
  pub left : Record
  pub later : k < place
  pub is_free : slice_get actions place ≡ Some (Free x left)

-- there is no lock before position k
abbrev pub IsFirstLock : List Action → ℕ → Type 0
IsFirstLock actions k = (j y : ℕ) (found : Record) → j < k → slice_get actions j ≢ Some (Lock y found)

-- the action reads, writes or frees y
abbrev pub Touches : Action → ℕ → Type 0
Touches (Read x field value) y = x ≡ y
Touches (Write x field value) y = x ≡ y
Touches (Free x left) y = x ≡ y
Touches (Lock x found) y = ⊥
Touches (Emit value) y = ⊥
Touches End y = ⊥
Touches Plain y = ⊥

-- the rules of the protocol, including that a call that has ended has freed every node it locked
pub record Obeys (parents : List ℕ) (actions : List Action) : Type 0 where
  -- for each lock except the first of the list, the parent of its node is held
  pub parent_held : (k x : ℕ) (found : Record) → slice_get actions k ≡ Some (Lock x found)
      → IsFirstLock actions k ⊎ IsHeldAt actions k (parent parents x)
  -- no node is locked twice
  pub once : (j k x : ℕ) (found again : Record) → slice_get actions j ≡ Some (Lock x found)
      → slice_get actions k ≡ Some (Lock x again) → j ≡ k
  -- a node that is read, written or freed is held
  pub touched_held : (k x : ℕ) (a : Action) → slice_get actions k ≡ Some a → Touches a x → IsHeldAt actions k x
  -- if the list contains an end, each lock is followed by a free of its node
  pub all_freed : (e k x : ℕ) (found : Record) → slice_get actions e ≡ Some End
      → slice_get actions k ≡ Some (Lock x found) → IsFreedAfter actions k x

-- no action follows an end
abbrev pub EndsLast : List Action → Type 0
EndsLast actions = (e : ℕ) → slice_get actions e ≡ Some End → e + 1 ≡ length actions
