use Rattle.std.proofs.Common.{◌≤◌, List, length, vec_len}
use Rattle.serde_json.specs.Data.{Data}
use Rattle.tl_trail.specs.Chains.{AreEach}
use Rattle.tl_trail.proofs.ChainTokenLemmas.{Read}
use Rattle.tl_trail.proofs.chain.each_in_order.Given as goal

abbrev pub invariant-loop-alloc : goal.invariant-loop-alloc
invariant-loop-alloc l =
    (ds : List Data) × Read l.fn.reader ds l.reader × AreEach l.limit ds l.trails.items × (length l.reader ≤ length l.fn.reader) × (vec_len l.trails ≤ 256)

abbrev pub decreases-loop-alloc : goal.decreases-loop-alloc
decreases-loop-alloc l = length l.reader
