use Rattle.std.proofs.Common.{◌≡◌, length, arith}
use Rattle.std.proofs.lemmas.Grind.{common_steps}
use Rattle.tl_tree.specs.Shape.{kids}
use Rattle.tl_tree.proofs.Kids.{length-kids}
use Rattle.tl_tree.proofs.shape.Shape.kids.Goals as goal

pub overflow_cast-result : goal.overflow_cast-result
overflow_cast-result c =
    let is : c.len.result ≡ length (kids c.self.inside.parents.items c.args.node) = grind (arith, common_steps) in
    let tree = c.self.invariant.0 in
    let few = tree.few in
    omega (arith, length-kids c.self.inside.parents.items c.args.node tree.some)
