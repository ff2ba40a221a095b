use Rattle.tl_tree.proofs.Texts.{tree_whole, tree_shallow}
use Rattle.tl_trail.proofs.ReadsBack.{added}
use Rattle.tl_trail.proofs.writing.push_tree.Goals as goal

pub returns-clause-added : goal.returns-clause-added
returns-clause-added c =
    added c.push_value.result _ _ _ _ c.in-Ok.ensures.value (tree_whole c.args.tree.now) (tree_shallow c.args.tree.now) c.push_value.ensures
