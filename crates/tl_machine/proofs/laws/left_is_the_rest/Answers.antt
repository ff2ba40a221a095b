use Rattle.std.proofs.Common.{◌∙◌}
use Rattle.tl_tree_locking.specs.Actions.{with_found}
use Rattle.tl_tree_locking.proofs.Records.{length-with_found}
use Rattle.tl_machine.proofs.Along.{has_found}
use Rattle.tl_machine.proofs.RestOfCall.{is_rest}
use Rattle.tl_machine.proofs.laws.left_is_the_rest.Goals as goal

pub returns-clause-found : goal.returns-clause-found
returns-clause-found s turn args done t valid acc tree is along size has = is_rest turn.code turn.parents args done turn.call t valid acc tree is along size has

pub returns-clause-opening : goal.returns-clause-opening
returns-clause-opening s turn args done part t valid acc tree is along size e =
    is_rest turn.code turn.parents args done turn.call (with_found part t) valid acc tree is along (length-with_found part t ∙ size) (has_found done part t e)
