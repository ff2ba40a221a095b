use Rattle.std.proofs.Common.{◌≡◌, ℕ, List, length, ap, ◌∙◌, subst}
use Rattle.tl_tree.specs.Records.{Records}
use Rattle.tl_tree_locking.specs.Actions.{with_found}
use Rattle.tl_tree_locking.specs.History.{part_of}
use Rattle.tl_tree_locking.specs.Alone.{IsAlone}
use Rattle.tl_tree_locking.proofs.ObeysByPlaces.{obeys_first}
use Rattle.tl_tree_locking.proofs.Records.{length-with_found}
use Rattle.tl_tree_locking.proofs.NoStandstill.{some_may_take}
use Rattle.tl_tree_locking.proofs.EpochsReached.{reached_in_line, all-follow, epochs-placed}
use Rattle.tl_tree_locking.proofs.laws.headline_of_epochs.Goals as goal

pub returns-clause-legal : goal.returns-clause-legal
returns-clause-legal c = λ parents opening sealed w tree size reached. (reached_in_line parents opening tree size sealed w reached).sound.legal

pub returns-clause-follow : goal.returns-clause-follow
returns-clause-follow c = λ parents opening sealed w tree size reached.
    let is = reached_in_line parents opening tree size sealed w reached in
    (all-follow parents opening sealed w is, is.rest)

pub returns-clause-obeys : goal.returns-clause-obeys
returns-clause-obeys c = λ parents opening sealed w call tree size reached lt.
    let is = reached_in_line parents opening tree size sealed w reached in
    let t = with_found (part_of call w.past) w.opening in
    let is_alone = subst (λ ps. IsAlone ps (w.meanings call)) is.parents_are (is.sound.meanings call lt) in
    obeys_first parents (w.meanings call) is_alone t (length-with_found (part_of call w.past) w.opening ∙ is.sound.size ∙ ap length is.parents_are) (w.counts call)

pub returns-clause-goes_on : goal.returns-clause-goes_on
returns-clause-goes_on c = λ parents opening sealed w call tree size reached is_open. some_may_take w (reached_in_line parents opening tree size sealed w reached).sound call is_open

pub returns-clause-tree : goal.returns-clause-tree
returns-clause-tree c = λ parents opening sealed w tree size reached over. (epochs-placed parents opening sealed w (reached_in_line parents opening tree size sealed w reached) over).0

pub returns-clause-replies : goal.returns-clause-replies
returns-clause-replies c = λ parents opening sealed w tree size reached over. (epochs-placed parents opening sealed w (reached_in_line parents opening tree size sealed w reached) over).1
