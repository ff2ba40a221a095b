use Rattle.std.proofs.Common.{length, take}
use Rattle.std.specs.Prelude.{All}
use Rattle.tl_tree_locking.specs.Nodes.{IsOfNodes}
use Rattle.tl_serial_order.proofs.placing.is_of_shape.Given as goal

abbrev pub invariant-loop-event : goal.invariant-loop-event
invariant-loop-event l = All (IsOfNodes (length l.shape)) (take l.event-index l.event-items)
