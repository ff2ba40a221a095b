use Rattle.std.proofs.Common.{refl}
use Rattle.tl_compiler.proofs.SetNumbers.{all_sets_joined}
use Rattle.tl_compiler.proofs.node_set.NodeSets.or.Goals as goal

pub returns : goal.returns
returns c = λ list more those these. all_sets_joined c.args.self.now c.args.other.now _ list more refl those these
