use Rattle.tl_compiler.proofs.SetBits.{bits_both}
use Rattle.tl_compiler.specs.NodeSets.{nodes_of}
use Rattle.tl_compiler.proofs.node_set.NodeSet.and.Goals as goal

pub returns : goal.returns
unfolding nodes_of
returns c = bits_both c.args.self.bits c.args.other.bits
