use Rattle.std.proofs.Common.{◌≡◌, ◌≢◌, get_or, ap, ◌∙◌, subst, arith, eq-eqb}
use Rattle.std.proofs.lemmas.Bool.{eqb-true}
use Rattle.std.proofs.lemmas.List.{get_or_read}
use Rattle.tl_tree.specs.Shape.{parent, Above, itself, below}
use Rattle.tl_tree.proofs.Paths.{Above-le, Above-parent}
use Rattle.tl_tree.proofs.shape.Shape.is_above.Goals as goal

pub loop-step-preserved : goal.loop-step-preserved
loop-step-preserved c =
    let parents = c.self.inside.parents.items in
    let tree = c.self.invariant.0 in
    let now = c.loop-step.invariant in
    let up : c.index-step.result.now ≡ parent parents c.loop-step.step =
    get_or_read parents c.loop-step.step c.index-step.result.now (omega arith) c.index-step.ensures 0 in
    let lower = tree.lower c.loop-step.step (omega arith) now.0 in
    let other : c.loop-step.step ≢ c.args.upper = omega arith in
    rw up (omega (arith, lower), ((λ above. now.1.0 (below above)), (λ above. Above-parent parents c.args.upper c.loop-step.step other (now.1.1 above))))

pub returns : goal.returns
returns c =
    let parents = c.self.inside.parents.items in
    let now = c.loop-step.invariant in
    rw (← c.self.view_is) (
      (λ same. now.1.0 (subst (λ x. Above parents x c.loop-step.step) (eqb-true c.loop-step.step c.args.upper same) itself)),
      (λ above. eq-eqb c.loop-step.step c.args.upper (omega (arith, Above-le parents c.self.invariant.0 c.args.upper c.loop-step.step (now.1.1 above)))),
    )
