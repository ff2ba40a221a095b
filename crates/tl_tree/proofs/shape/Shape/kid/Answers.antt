use Rattle.std.proofs.Common.{◌≡◌, ◌<◌, length, get_or, arith}
use Rattle.std.proofs.lemmas.Grind.{common_steps}
use Rattle.tl_tree.specs.Shape.{kids}
use Rattle.tl_tree.proofs.Kids.{IsKid-kids}
use Rattle.tl_tree.proofs.shape.Shape.kid.Goals as goal

pub returns-clause-child : goal.returns-clause-child
returns-clause-child c =
    let parents = c.self.inside.parents.items in
    let is : c.index-2.result.now ≡ get_or (kids parents c.args.node) c.args.number 0 = grind (arith, common_steps) in
    let number : c.args.number < length (kids parents c.args.node) = rw c.self.view_is c.requires.number in
    rw (← c.self.view_is, is) (IsKid-kids parents c.args.node c.args.number number)
