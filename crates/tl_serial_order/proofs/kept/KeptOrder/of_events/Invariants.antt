-- The stored order is that of the events so far.
use Rattle.std.proofs.Common.{◌≡◌, length, take, reverse}
use Rattle.tl_serial_order.specs.Kept.{IsOfSize, IsKept}
use Rattle.tl_serial_order.proofs.kept.KeptOrder.of_events.Given as goal

abbrev pub invariant-loop-event : goal.invariant-loop-event
invariant-loop-event l =
    (l.kept.calls ≡ l.calls)
    × IsOfSize l.kept (length l.shape)
    × IsKept l.kept l.shape (reverse (take l.event-index l.events))
