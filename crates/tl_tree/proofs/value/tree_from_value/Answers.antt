use Rattle.std.proofs.Common.{arith}
use Rattle.std.proofs.lemmas.Result.{IfOk-weaker}
use Rattle.serde_json.specs.View.{view}
use Rattle.tl_tree.proofs.Faults.{taken_from_exact}
use Rattle.tl_tree.proofs.Stands.{stands_from_tree_at, tree_at_stands}
use Rattle.tl_tree.proofs.value.tree_from_value.Goals as goal

pub returns-clause-stands : goal.returns-clause-stands
returns-clause-stands c = IfOk-weaker c.checked_tree.result _ _ (λ t is. stands_from_tree_at c.args.limit c.args.width (view c.args.value.now) t (omega arith) is) c.checked_tree.ensures.ok

pub returns-clause-taken : goal.returns-clause-taken
returns-clause-taken c = λ t stands few. taken_from_exact c.checked_tree.result t _ (tree_at_stands c.args.limit c.args.width (view c.args.value.now) t stands few) c.checked_tree.ensures.ok c.checked_tree.ensures.fault
