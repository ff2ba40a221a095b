use Rattle.std.proofs.Common.{rules, ◌≡◌, ◌<◌, [], true, false, length, get_or, ap, ◌∙◌, arith}
use Rattle.std.specs.Cmp.Lexicographic.{pointwise}
use Rattle.std.specs.Ordering.{int_eq}
use Rattle.tl_tree_locking.proofs.Records.{length-records_now}
use Rattle.tl_audit.proofs.EndRecords.{ends_so, ends_other, ends_more}
use Rattle.tl_audit.proofs.auditing.check_ends.Goals as goal

pub bounds-records-node : goal.bounds-records-node
bounds-records-node c =
    let t = c.args.trail.now in
    let trail = c.opening.ensures.trail in
    let size = trail.size in
    let now_size = ap length c.requires.records ∙ length-records_now t.past t.opening in
    let nodes = c.node_count-node-end.ensures.count ∙ ap length (c.deref.ensures ∙ c.shape.ensures.shape ∙ ap (λ u. u.parents) c.opening.ensures.tree) in
    let inside = c.loop-node-test.true in
    omega arith

pub returns-then-ne-clause-fault : goal.returns-then-ne-clause-fault
returns-then-ne-clause-fault c =
    let t = c.args.trail.now in
    let x = c.loop-node.node in
    let trail = c.opening.ensures.trail in
    let nodes = c.node_count-node-end.ensures.count ∙ ap length (c.deref.ensures ∙ c.shape.ensures.shape ∙ ap (λ u. u.parents) c.opening.ensures.tree) in
    let inside = c.loop-node-test.true in
    let here : x < length t.parents = omega arith in
    let test : pointwise int_eq (get_or c.ends-ends.result.now x []) (get_or c.args.records.now x []) ≡ false = search rules in
    (c.requires.so, here, ends_other t trail c.ends-ends.result.now c.ends-ends.ensures.records c.args.records.now c.requires.records x here test, c.loop-node.invariant)

pub loop-node-preserved : goal.loop-node-preserved
loop-node-preserved c =
    let t = c.args.trail.now in
    let x = c.loop-node.node in
    let trail = c.opening.ensures.trail in
    let nodes = c.node_count-node-end.ensures.count ∙ ap length (c.deref.ensures ∙ c.shape.ensures.shape ∙ ap (λ u. u.parents) c.opening.ensures.tree) in
    let inside = c.loop-node-test.true in
    let here : x < length t.parents = omega arith in
    let test : pointwise int_eq (get_or c.ends-ends.result.now x []) (get_or c.args.records.now x []) ≡ true = search rules in
    ends_more t x c.loop-node.invariant (ends_so t trail c.ends-ends.result.now c.ends-ends.ensures.records c.args.records.now c.requires.records x here test)
