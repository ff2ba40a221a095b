use Rattle.std.proofs.Common.{length, arith}
use Rattle.std.proofs.Math.Nat.{le-max_left, le-max_right}
use Rattle.tl_export.proofs.DifferingLemmas.{all_same}
use Rattle.tl_export.proofs.differing.first_other.Goals as goal

pub returns-clause-none : goal.returns-clause-none
returns-clause-none c =
    let records = c.args.records.now in
    let rows = c.args.rows.now in
    let few = le-max_left (length records) (length rows) in
    let also = le-max_right (length records) (length rows) in
    all_same records rows c.loop-node.node (omega (arith, few, c.max-count.ensures, c.loop-node-test.false)) (omega (arith, also, c.max-count.ensures, c.loop-node-test.false)) c.loop-node.invariant
