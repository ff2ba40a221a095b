use Rattle.std.proofs.Common.{refl, rules}
use Rattle.tl_compiler.specs.NodeSets.{nodes_of}
use Rattle.tl_compiler.proofs.SetNumbers.{one_more}
use Rattle.tl_compiler.proofs.node_set.NodeSets.with.Goals as goal

pub returns : goal.returns
unfolding nodes_of
returns c = λ list those.
    rw (← c.index-index.ensures.same)
    (one_more c.args.self _ c.index-index.result list c.index-index.ensures.in_range (search rules) refl those)
