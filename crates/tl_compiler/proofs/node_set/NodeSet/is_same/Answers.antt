use Rattle.std.proofs.Common.{rules, sym}
use Rattle.tl_compiler.specs.NodeSets.{nodes_of}
use Rattle.tl_compiler.proofs.SetNumbers.{same_number}
use Rattle.tl_compiler.proofs.node_set.NodeSet.is_same.Goals as goal

pub returns : goal.returns
unfolding nodes_of
returns c = sym (same_number 8 c.args.self.bits c.args.other.bits (search rules) (search rules))
