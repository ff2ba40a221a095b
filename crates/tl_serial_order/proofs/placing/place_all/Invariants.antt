-- The marks and the order are those of the events so far.
use Rattle.std.proofs.Common.{◌≡◌, length, take, reverse}
use Rattle.tl_tree_locking.specs.Order.{placed}
use Rattle.tl_serial_order.specs.Parts.{AreOfNodes, ShowAll}
use Rattle.tl_serial_order.proofs.placing.place_all.Given as goal

abbrev pub invariant-loop-event : goal.invariant-loop-event
invariant-loop-event l =
    (length l.parts ≡ l.line.count)
    × AreOfNodes (length l.shape) l.parts
    × ShowAll l.parts (reverse (take l.event-index l.events))
    × (l.line.order ≡ placed l.shape (reverse (take l.event-index l.events)))
