-- The events not yet searched determine the result.
use Rattle.std.proofs.Common.{◌≡◌, reverse}
use Rattle.std.specs.Slice.Iter.{iter_rest}
use Rattle.std.specs.Iterator.Adapters.{rev_source}
use Rattle.tl_tree.specs.Records.{Record as RecordValue}
use Rattle.tl_tree_locking.specs.History.{last_left}
use Rattle.tl_history.proofs.history.History.last_left.Given as goal

abbrev pub invariant-loop-event : goal.invariant-loop-event
invariant-loop-event l =
    (opening : RecordValue) → last_left (reverse (iter_rest (rev_source l.event-iterator))) l.node opening ≡ last_left l.self.past l.node opening
