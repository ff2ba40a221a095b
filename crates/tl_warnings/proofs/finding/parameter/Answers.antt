use Rattle.std.proofs.Common.{refl}
use Rattle.std.proofs.lemmas.Result.{on_ok_weaker}
use Rattle.tl_warnings.specs.Finding.{node_parameter, variable_parameter, value_parameter}
use Rattle.tl_warnings.proofs.FindingLemmas.{value_at}
use Rattle.tl_warnings.proofs.WalkingLemmas.{block_at as walks_at}
use Rattle.tl_warnings.proofs.finding.parameter.Goals as goal

pub returns-in-Node : goal.returns-in-Node
returns-in-Node c = rw c.in-Node.is (on_ok_weaker c.node.result (λ w. node_parameter (walks_at c.deref.ensures.value refl w)) c.node.ensures)

pub returns-in-Variable : goal.returns-in-Variable
returns-in-Variable c = rw c.in-Variable.is variable_parameter

pub returns-in-Value : goal.returns-in-Value
returns-in-Value c = rw c.in-Value.is (on_ok_weaker c.value.result (λ w. value_parameter (value_at c.deref-in-Value.ensures.value w)) c.value.ensures)
