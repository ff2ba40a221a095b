-- There are marks for all calls so far.
use Rattle.std.proofs.Common.{◌≡◌, ◌≤◌, List, length}
use Rattle.tl_tree_locking.specs.declared.event.Event.{Event}
use Rattle.tl_serial_order.specs.Parts.{AreOfNodes, ShowAll}
use Rattle.tl_serial_order.proofs.placing.make_room.Given as goal

abbrev pub invariant-loop-call : goal.invariant-loop-call
invariant-loop-call l =
    (length l.parts ≡ l.line.count)
    × (l._call ≤ l.line.count)
    × (l.line.order ≡ l.fn.line.order)
    × (AreOfNodes l.nodes l.fn.parts → AreOfNodes l.nodes l.parts)
    × ((past : List Event) → ShowAll l.fn.parts past → ShowAll l.parts past)
