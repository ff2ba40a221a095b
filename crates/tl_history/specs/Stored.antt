-- The value of a history, as its callers see it.
use Rattle.std.specs.Prelude.{ℕ, ◌+◌, ◌-◌, ◌≤◌, List, length}
use Rattle.tl_tree_locking.specs.declared.event.Event.{Event}
use Rattle.tl_history.specs.declared.history.TheConstants.{MAX_EVENTS}

-- the events, the latest first; the limit for their number; and how many places are reserved for future events
pub record Stored : Type 0 where
  pub past : List Event
  pub limit : ℕ
  pub reserved : ℕ

-- how many more places can be reserved
abbrev pub room_of : Stored → ℕ
room_of h = h.limit - (length h.past + h.reserved)

-- True of every history: stored events and reserved places are within the limit, and the limit is at most MAX_EVENTS.
pub record IsWithinLimit (h : Stored) : Type 0 where
  pub within : length h.past + h.reserved ≤ h.limit
  pub most : h.limit ≤ MAX_EVENTS
