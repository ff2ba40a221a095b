use Rattle.std.proofs.Common.{◌≢◌, ℤ, List}
use Rattle.std.proofs.lemmas.Result.{IfOk-weaker, IfErr-weaker}
use Rattle.tl_tree.specs.Records.{Records}
use Rattle.tl_trail.specs.declared.fault.TrailFault.TheVariants.{Memory}
use Rattle.tl_trail.specs.Reading.{form_in, IsTrailText, IsFirstTrailFault}
use Rattle.tl_trail.specs.Raw.{form_with, IsTrailOf, IsFaultOf}
use Rattle.tl_trail.proofs.WholeTrail.{found_is, found_fault}
use Rattle.tl_trail.proofs.reading.trail_of_text.Goals as goal

pub returns-clause-ok : goal.returns-clause-ok
returns-clause-ok c =
    let text = c.args.text.now in
    let tree = c.in_ok-tree.tree in
    let raw = c.in_ok-tree.raw in
    IfOk-weaker c.checked_trail.result (λ t. (parts : List ℤ × Records) → IsTrailOf tree (form_with raw parts) t) (λ t. IsTrailText c.args.limit text t)
    (λ t is. found_is c.args.limit (form_in text) tree raw t c.in_ok-tree.ensures.ok is) c.checked_trail.ensures.ok

pub returns-clause-fault : goal.returns-clause-fault
returns-clause-fault c =
    let text = c.args.text.now in
    let tree = c.in_ok-tree.tree in
    let raw = c.in_ok-tree.raw in
    IfErr-weaker c.checked_trail.result (λ e. e ≢ Memory → (parts : List ℤ × Records) → IsFaultOf tree (form_with raw parts) e) (λ e. e ≢ Memory → IsFirstTrailFault c.args.limit text e)
    (λ e wrong ne. found_fault c.args.limit (form_in text) tree raw e c.in_ok-tree.ensures.ok (wrong ne)) c.checked_trail.ensures.fault
