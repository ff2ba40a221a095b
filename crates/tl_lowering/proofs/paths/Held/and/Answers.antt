use Rattle.tl_lowering.proofs.BitLemmas.{both_bits}
use Rattle.tl_lowering.proofs.paths.Held.and.Goals as goal

pub returns-then-self-clause-nodes : goal.returns-then-self-clause-nodes
returns-then-self-clause-nodes c = both_bits c.args.self.nodes c.args.other.nodes

pub returns-else-self-clause-nodes : goal.returns-else-self-clause-nodes
returns-else-self-clause-nodes c = both_bits c.args.self.nodes c.args.other.nodes

pub returns-then-self-clause-passed : goal.returns-then-self-clause-passed
returns-then-self-clause-passed c = both_bits c.args.self.visited c.args.other.visited

pub returns-else-self-clause-passed : goal.returns-else-self-clause-passed
returns-else-self-clause-passed c = both_bits c.args.self.visited c.args.other.visited
