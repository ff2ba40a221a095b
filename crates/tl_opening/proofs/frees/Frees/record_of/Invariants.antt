-- The frees not yet searched determine the record.
use Rattle.std.proofs.Common.{◌≡◌, ◌<◌, length}
use Rattle.std.specs.Slice.Iter.{iter_rest}
use Rattle.std.specs.Iterator.Adapters.{rev_source}
use Rattle.tl_tree.specs.Records.{Records, record_at}
use Rattle.tl_opening.specs.Opening.{records_left}
use Rattle.tl_opening.proofs.frees.Frees.record_of.Given as goal

abbrev pub invariant-loop-left : goal.invariant-loop-left
invariant-loop-left l =
    (records : Records) → l.node < length records
    → record_at (records_left records (iter_rest (rev_source l.left-iterator))) l.node ≡ record_at (records_left records l.self) l.node
