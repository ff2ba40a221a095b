use Rattle.std.proofs.Common.{◌≡◌, ◌+◌, ◌-◌, ◌^◌, ◌≤◌, min, List, length}
use Rattle.serde_json.specs.Data.{Data}
use Rattle.tl_trail.proofs.ChainTokenLemmas.{Read}
use Rattle.tl_trail.proofs.chain.faulty.Given as goal

abbrev pub invariant-loop-alloc : goal.invariant-loop-alloc
invariant-loop-alloc l =
    (ds : List Data) × Read l.fn.reader ds l.reader × (l.count ≡ min (l.fn.count + length ds) (2 ^ 64 - 1)) × (length l.reader ≤ length l.fn.reader)

abbrev pub decreases-loop-alloc : goal.decreases-loop-alloc
decreases-loop-alloc l = length l.reader
