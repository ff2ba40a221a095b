use Rattle.std.proofs.Common.{◌≡◌, take}
use Rattle.tl_tree.specs.Records.{Records}
use Rattle.tl_tree_locking.specs.History.{past_of, records_now}
use Rattle.tl_opening.specs.Opening.{records_left}
use Rattle.tl_opening.proofs.frees.lefts_of.Given as goal

abbrev pub invariant-loop-event : goal.invariant-loop-event
invariant-loop-event l = (records : Records) → records_left records l.lefts.items ≡ records_now (past_of (take l.event-index l.events)) records
