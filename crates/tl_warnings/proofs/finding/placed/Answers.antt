use Rattle.std.proofs.lemmas.Result.{on_ok_weaker}
use Rattle.tl_warnings.specs.Finding.{one_node, one_child, two_children}
use Rattle.tl_warnings.proofs.finding.placed.Goals as goal

pub returns-in-Node : goal.returns-in-Node
returns-in-Node c = rw c.in-Node.is (on_ok_weaker c.node.result (λ w. one_node w) c.node.ensures)

pub returns-in-Child : goal.returns-in-Child
returns-in-Child c = rw c.in-Child.is (on_ok_weaker c.node-in-Child.result (λ w. one_child w) c.node-in-Child.ensures)

pub returns-in_ok-node-in-Pair : goal.returns-in_ok-node-in-Pair
returns-in_ok-node-in-Pair c = rw c.in-Pair.is (on_ok_weaker c.node-in-Pair-2.result (λ w. two_children c.in_ok-node-in-Pair.ensures w) c.node-in-Pair-2.ensures)
