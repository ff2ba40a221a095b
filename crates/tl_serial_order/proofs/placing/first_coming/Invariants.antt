-- No call before this position may still lock the node.
use Rattle.std.proofs.Common.{◌≡◌, ℕ, ◌<◌, List, false, get_or}
use Rattle.tl_tree_locking.specs.declared.event.Event.{Event}
use Rattle.tl_tree_locking.specs.Actions.{may_come}
use Rattle.tl_tree_locking.specs.History.{part_of}
use Rattle.tl_serial_order.specs.Parts.{Show}
use Rattle.tl_serial_order.proofs.placing.first_coming.Given as goal

abbrev pub invariant-loop-place : goal.invariant-loop-place
invariant-loop-place l =
    (past : List Event) → Show l.parts past
    → (k : ℕ) → k < l.place → may_come l.shape (part_of (get_or l.order k 0) past) l.node ≡ false
