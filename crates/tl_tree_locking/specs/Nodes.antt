-- The nodes that events refer to.
use Rattle.std.specs.Prelude.{ℕ, ◌<◌}
use Rattle.tl_tree_locking.specs.declared.event.Event.{Event}
use Rattle.tl_tree_locking.specs.declared.event.Event.TheVariants.{Admit, Lock, Free, Done}

-- the node of a lock or a free is lower than `count`
abbrev pub IsOfNodes : ℕ → Event → Type 0
IsOfNodes count (Admit c) = Unit {0}
IsOfNodes count (Lock x c found) = x < count
IsOfNodes count (Free x c left) = x < count
IsOfNodes count (Done c) = Unit {0}
