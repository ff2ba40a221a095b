use Rattle.std.proofs.Common.{rules}
use Rattle.tl_compiler.proofs.SetBits.{bits_minus}
use Rattle.tl_compiler.specs.NodeSets.{nodes_of}
use Rattle.tl_compiler.proofs.node_set.NodeSet.minus.Goals as goal

pub returns : goal.returns
unfolding nodes_of
returns c = bits_minus c.args.self.bits c.args.other.bits (search rules)
