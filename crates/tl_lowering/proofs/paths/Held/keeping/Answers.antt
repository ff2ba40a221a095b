use Rattle.tl_lowering.proofs.BitLemmas.{both_bits}
use Rattle.tl_lowering.proofs.paths.Held.keeping.Goals as goal

pub returns-clause-nodes : goal.returns-clause-nodes
returns-clause-nodes c = both_bits c.args.self.nodes c.args.nodes
