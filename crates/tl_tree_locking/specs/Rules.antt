-- When an event keeps the rules, given the events before it.
use Rattle.std.specs.Prelude.{◌≡◌, ◌≢◌, ℕ, false, List}
use Rattle.tl_tree_locking.specs.declared.action.Action.TheVariants as A
use Rattle.tl_tree_locking.specs.declared.event.Event.{Event}
use Rattle.tl_tree_locking.specs.declared.event.Event.TheVariants.{Admit, Lock, Free, Done}
use Rattle.tl_tree_locking.specs.Actions.{held, Permitted}
use Rattle.tl_tree_locking.specs.History.{part_of, MayHappen}

-- the protocol permits the event's action to its call
abbrev pub IsPermitted : List ℕ → List Event → Event → Type 0
IsPermitted parents past (Admit c) = Unit {0}
IsPermitted parents past (Lock x c found) = Permitted parents (part_of c past) (A.Lock x found)
IsPermitted parents past (Free x c left) = Permitted parents (part_of c past) (A.Free x left)
IsPermitted parents past (Done c) = Permitted parents (part_of c past) A.End

-- An admission gets the next number, and every other event is of an open call. A lock is its call's first or the call
-- holds the node's parent, and the call hasn't locked the node before. A call frees only nodes that it holds, and holds
-- none at its end.
pub record KeepsRules (parents : List ℕ) (past : List Event) (e : Event) : Type 0 where
  pub may_happen : MayHappen past e
  pub permitted : IsPermitted parents past e

-- a node that is locked isn't held by another call
abbrev pub IsApart : List Event → Event → Type 0
IsApart past (Lock x c found) = (d : ℕ) → d ≢ c → held (part_of d past) x ≡ false
IsApart past _ = Unit {0}
