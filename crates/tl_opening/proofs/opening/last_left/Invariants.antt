-- What is not yet searched determines the record.
use Rattle.std.proofs.Common.{◌≡◌, ◌<◌, length}
use Rattle.std.specs.Slice.Iter.{iter_rest}
use Rattle.std.specs.Iterator.Adapters.{rev_source}
use Rattle.tl_tree.specs.Records.{Records, record_at}
use Rattle.tl_opening.specs.Opening.{records_behind, epochs_of}
use Rattle.tl_opening.proofs.opening.last_left.Given as goal

abbrev pub invariant-loop-frees : goal.invariant-loop-frees
invariant-loop-frees l =
    (records : Records) → l.node < length records
    → record_at (records_behind records (epochs_of (iter_rest (rev_source l.frees-iterator)))) l.node
    ≡ record_at (records_behind records (epochs_of l.left)) l.node
