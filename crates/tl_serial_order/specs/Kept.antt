-- The order of a history that keeps the rules, and the two values of each node that determine it.
use Rattle.std.specs.Prelude.{◌≡◌, ℕ, List, length, Option, is_some, count_by}
use Rattle.tl_tree_locking.specs.declared.event.Event.{Event}
use Rattle.tl_tree_locking.specs.Order.{placed}
use Rattle.tl_tree_locking.specs.Placing.{AreHolders, AreUnder}
use Rattle.tl_serial_order.specs.Order.{OrderValue}

-- the order so far, the limit for the number of calls, and for each node its holder and the call that last locked it while holding its parent
pub record KeptValue : Type 0 where
  pub order : OrderValue
  pub calls : ℕ
  pub holders : List (Option ℕ)
  pub under : List (Option ℕ)

-- the number of nodes that are held
abbrev pub count_held : List (Option ℕ) → ℕ
count_held holders = count_by is_some holders

-- there is an entry for each of `nodes` nodes
pub record IsOfSize (k : KeptValue) (nodes : ℕ) : Type 0 where
  pub holders : length k.holders ≡ nodes
  pub under : length k.under ≡ nodes

-- the order and the two values of each node are those of the history
pub record IsKept (k : KeptValue) (parents : List ℕ) (past : List Event) : Type 0 where
  pub order : k.order.calls ≡ placed parents past
  pub holders : AreHolders k.holders past
  pub under : AreUnder parents k.under past
