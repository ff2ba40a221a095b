use Rattle.std.proofs.Common.{◌≡◌, ◌<◌, ◌≤◌, List, length}
use Rattle.tl_tree_locking.specs.declared.event.Event.{Event}
use Rattle.tl_tree_locking.specs.Placing.{coming_calls, held_below}
use Rattle.tl_tree_locking.specs.Placing.{AreHolders, AreUnder}
use Rattle.tl_serial_order.proofs.climb.nearest_coming.Given as goal

-- the climb finds the same from this node on up, and at most `left` nodes with lower numbers are held
abbrev pub invariant-loop-step : goal.invariant-loop-step
invariant-loop-step l =
    (l.step < length l.shape)
    × ((past : List Event) → AreHolders l.holders past → AreUnder l.shape l.under past
    → (coming_calls l.shape past l.node ≡ coming_calls l.shape past l.step) × (held_below l.step past ≤ l.left))

abbrev pub decreases-loop-step : goal.decreases-loop-step
decreases-loop-step l = l.step
