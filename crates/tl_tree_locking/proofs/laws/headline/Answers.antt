use Rattle.std.proofs.Common.{◌≡◌, ℕ, List, ◌∙◌, subst, map}
use Rattle.tl_tree.specs.Records.{Records}
use Rattle.tl_tree_locking.specs.Actions.{with_found}
use Rattle.tl_tree_locking.specs.History.{part_of, records_now}
use Rattle.tl_tree_locking.specs.Order.{placed}
use Rattle.tl_tree_locking.specs.Alone.{IsAlone, serial}
use Rattle.tl_tree_locking.specs.World.{reply_of}
use Rattle.tl_tree_locking.proofs.ObeysByPlaces.{obeys_first}
use Rattle.tl_tree_locking.proofs.Records.{length-with_found}
use Rattle.tl_tree_locking.proofs.NoStandstill.{some_may_take}
use Rattle.tl_tree_locking.proofs.ReachedWorlds.{reached_sound, serial-placed}
use Rattle.tl_tree_locking.proofs.laws.headline.Goals as goal

pub returns-clause-legal : goal.returns-clause-legal
returns-clause-legal c = λ parents opening w tree size reached. (reached_sound parents opening tree size w reached).sound.legal

pub returns-clause-obeys : goal.returns-clause-obeys
returns-clause-obeys c = λ parents opening w call tree size reached lt.
    let over = reached_sound parents opening tree size w reached in
    let t = with_found (part_of call w.past) opening in
    let is_alone = subst (λ ps. IsAlone ps (w.meanings call)) over.parents_are (over.sound.meanings call lt) in
    obeys_first parents (w.meanings call) is_alone t (length-with_found (part_of call w.past) opening ∙ size) (w.counts call)

pub returns-clause-goes_on : goal.returns-clause-goes_on
returns-clause-goes_on c = λ parents opening w call tree size reached is_open. some_may_take w (reached_sound parents opening tree size w reached).sound call is_open

pub returns-clause-tree : goal.returns-clause-tree
returns-clause-tree c = λ parents opening w tree size reached over.
    let is = reached_sound parents opening tree size w reached in
    let P : List ℕ → Records → Type 0 = λ ps os. (serial w.meanings (placed ps w.past) os).tree ≡ records_now w.past os in
    subst (P parents) is.opening_is (subst (λ ps. P ps w.opening) is.parents_are (serial-placed w is.sound over).0)

pub returns-clause-replies : goal.returns-clause-replies
returns-clause-replies c = λ parents opening w tree size reached over.
    let is = reached_sound parents opening tree size w reached in
    let P : List ℕ → Records → Type 0 = λ ps os. (serial w.meanings (placed ps w.past) os).replies ≡ map (reply_of w) (placed ps w.past) in
    subst (P parents) is.opening_is (subst (λ ps. P ps w.opening) is.parents_are (serial-placed w is.sound over).1)
