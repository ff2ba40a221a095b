-- The order of a history whose events are checked one by one.
use Rattle.std.specs.Prelude.{◌≡◌, ℕ, ◌+◌, ◌<◌, false, List, length, get_or, All}
use Rattle.tl_tree_locking.specs.declared.event.Event.{Event}
use Rattle.tl_tree_locking.specs.Actions.{lock_count, free_count}
use Rattle.tl_tree_locking.specs.History.{caller, part_of, is_done, admits, IsLegalHistory}
use Rattle.tl_tree_locking.specs.Nodes.{IsOfNodes}
use Rattle.tl_tree_locking.specs.Rules.{KeepsRules, IsApart}
use Rattle.tl_serial_order.specs.Kept.{IsOfSize, IsKept}
use Rattle.tl_serial_order.specs.declared.checked.CheckedOrder.{CheckedOrder}

-- the event's call is below `calls`, and its node, if it has one, is below `nodes`
pub record IsEventOf (nodes calls : ℕ) (e : Event) : Type 0 where
  pub call : caller e < calls
  pub node : IsOfNodes nodes e

-- the number of calls for which there are entries
abbrev pub calls_of : CheckedOrder → ℕ
calls_of o = length o.done.items

-- there are entries for the same number of calls everywhere, and for each of `nodes` nodes
pub record IsEven (o : CheckedOrder) (nodes : ℕ) : Type 0 where
  pub holding : length o.holding.items ≡ calls_of o
  pub calls : o.kept.calls ≡ calls_of o
  pub size : IsOfSize o.kept nodes

-- The events keep the rules, and the stored values are determined by them: the order and its two values for each node,
-- the number of admitted calls, and for each call whether it is done and how many nodes it holds.
pub record IsChecked (parents : List ℕ) (o : CheckedOrder) (past : List Event) : Type 0 where
  pub even : IsEven o (length parents)
  pub inside : All (IsOfNodes (length parents)) past
  pub legal : IsLegalHistory parents past
  pub kept : IsKept o.kept parents past
  pub admitted : o.admitted ≡ admits past
  pub done : (c : ℕ) → c < calls_of o → get_or o.done.items c false ≡ is_done c past
  pub holding : (c : ℕ) → c < calls_of o → lock_count (part_of c past) ≡ free_count (part_of c past) + get_or o.holding.items c 0

-- the event's call and node exist, and the event keeps the rules after these events
pub record IsLegal (parents : List ℕ) (o : CheckedOrder) (past : List Event) (e : Event) : Type 0 where
  pub event : IsEventOf (length parents) (calls_of o) e
  pub rules : KeepsRules parents past e
  pub apart : IsApart past e

-- the stored values are those of some list of events
pub record IsOfEvents (parents : List ℕ) (o : CheckedOrder) : Type 0 where
  pub past : List Event
  pub checked : IsChecked parents o past

-- the stored values are those of some list of events, and the next event keeps the rules after them
pub record IsNext (parents : List ℕ) (o : CheckedOrder) (e : Event) : Type 0 where
  pub past : List Event
  pub checked : IsChecked parents o past
  pub legal : IsLegal parents o past e
