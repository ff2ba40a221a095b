use Rattle.std.proofs.Common.{◌≡◌, ◌<◌, ◌++◌, ◌∷◌, [], length, get_or, arith, refl}
use Rattle.std.proofs.lemmas.Grind.{common_steps}
use Rattle.std.proofs.lemmas.List.{map-set, length-map}
use Rattle.tl_tree.specs.Shape.{lists_of}
use Rattle.tl_tree.proofs.Kids.{kids_step}
use Rattle.tl_tree.proofs.shape.kid_lists.Goals as goal

pub loop-node-2-preserved : goal.loop-node-2-preserved
loop-node-2-preserved c =
    let parents = c.args.parents.now in
    let lists = lists_of c.loop-node-2.lists.items in
    let node = c.loop-node-2.node in
    let up = get_or parents node 0 in
    let more = c.push-in-loop-node-2.new.self.items in
    let up_is : up ≡ get_or parents node 0 = refl in
    let more_is : more ≡ get_or lists up [] ++ node ∷ [] = grind (arith, common_steps) in
    let up_inside : up < length lists = omega (arith, c.requires.lower node, c.type_inv.parents node, length-map c.loop-node-2.lists.items (λ v. v.items)) in
    (grind (arith, common_steps), λ x inside. rw map-set (kids_step parents lists node up more (omega arith) (omega arith) up_is up_inside more_is x (c.loop-node-2.invariant.1 x inside)))
