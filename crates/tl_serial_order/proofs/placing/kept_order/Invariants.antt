-- The stored order is that of the events so far, each of which was checked.
use Rattle.std.proofs.Common.{◌≡◌, take, reverse}
use Rattle.tl_serial_order.specs.Checked.{calls_of, IsChecked}
use Rattle.tl_serial_order.proofs.placing.kept_order.Given as goal

abbrev pub invariant-loop-event : goal.invariant-loop-event
invariant-loop-event l = (calls_of l.order ≡ l.calls) × IsChecked l.shape l.order (reverse (take l.event-index l.event-items))
