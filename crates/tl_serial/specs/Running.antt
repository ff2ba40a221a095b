-- A core together with the order of its history.
use Rattle.std.specs.Prelude.{◌≡◌, ℕ, ◌<◌, List, length}
use Rattle.tl_tree_locking.specs.declared.action.Action.{Action}
use Rattle.tl_tree_locking.specs.declared.event.Event.{Event}
use Rattle.tl_tree_locking.specs.World.{past_after}
use Rattle.tl_history.specs.declared.history.TheConstants.{MAX_CALLS}
use Rattle.tl_machine.specs.declared.want.Stop.{Stop}
use Rattle.tl_machine.specs.declared.want.Stop.TheVariants.{Lock, Free, Return, Over}
use Rattle.tl_core.specs.Cores.{CoreValue}
use Rattle.tl_core.specs.Followed.{EndsStop}
use Rattle.tl_serial_order.specs.Kept.{KeptValue, IsOfSize, IsKept}

-- the order is that of the core's history, and there is memory for MAX_CALLS calls
pub record IsOrderOf (k : KeptValue) (v : CoreValue) : Type 0 where
  pub kept : IsKept k v.parents v.past
  pub size : IsOfSize k (length v.parents)
  pub calls : k.calls ≡ MAX_CALLS

-- the node of a lock or of a free is below `count`
abbrev pub IsStopInside : ℕ → Stop → Type 0
IsStopInside count (Lock x) = x < count
IsStopInside count (Free x) = x < count
IsStopInside count Return = Unit {0}
IsStopInside count Over = Unit {0}

-- the call's last action was the one at its stop, and the history before it was `past`
pub record HasStopped (v : CoreValue) (c : ℕ) (s : Stop) (past : List Event) : Type 0 where
  pub last : Action
  pub ends : EndsStop s last
  pub past_is : v.past ≡ past_after c last past
