use Rattle.std.proofs.Common.{◌≡◌, length, refl, arith}
use Rattle.tl_audit.proofs.SeamLemmas.{same_first}
use Rattle.tl_audit.proofs.chain.begins_with.Goals as goal

pub returns : goal.returns
returns c =
    let first = c.args.first.now in
    let end = c.node_count-node-end.ensures.count in
    let over = c.loop-node-test.false in
    let within = c.loop-node.auto.node-end in
    let whole : c.loop-node.node ≡ length first = omega (arith, end, over, within) in
    ((λ t. same_first first c.args.shape.now c.loop-node.node whole c.loop-node.invariant), (λ w. refl))
