use Rattle.tl_verify.proofs.RegisterSetLemmas.{cleared_bit}
use Rattle.tl_compiler.specs.NodeSets.{nodes_of}
use Rattle.tl_compiler.proofs.node_set.NodeSet.without.Goals as goal

pub returns : goal.returns
unfolding nodes_of
returns c = rw (← c.number.ensures.same) (cleared_bit c.args.self.bits c.number.result c.number.ensures.in_range)
