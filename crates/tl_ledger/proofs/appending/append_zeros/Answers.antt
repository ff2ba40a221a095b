use Rattle.std.proofs.Common.{rules, ◌≡◌, ◌+◌, ◌<◌, ◌≤◌, map, take, take_all, length, replicate, pos, arith}
use Rattle.tl_ledger.specs.declared.rows.TheConstants.{FIELDS}
use Rattle.tl_ledger.specs.News.{new_columns, fields_columns}
use Rattle.tl_ledger.proofs.RowLemmas.{appends_none, appends_more, zeros_more, map_length}
use Rattle.tl_ledger.proofs.appending.append_zeros.Goals as goal

pub loop-node-init : goal.loop-node-init
loop-node-init g c = (omega arith, λ clean. appends_none _ _ _, search rules, search rules)

pub loop-node-preserved : goal.loop-node-preserved
loop-node-preserved g c = (
  omega (arith, c.loop-node.invariant.0),
  λ clean.
      let within : c.loop-node._node-index < length c.args.nodes.now = omega arith in
      let so_far = c.loop-node.invariant.1 (omega (arith, c.put_one.ensures.quiet.clean)) in
      let long = map_length new_columns c.args.nodes.now c.loop-node._node-index (omega arith) in
      let number : c.loop-node.at ≡ c.args.first + length (map new_columns (take c.loop-node._node-index c.args.nodes.now)) = omega (arith, c.loop-node.invariant.0, long) in
      rw (zeros_more c.args.nodes.now c.loop-node._node-index within)
      (appends_more _ _ _ _ _ _ (fields_columns (replicate FIELDS (pos 0))) so_far (rw number at (c.in_ok-put_one.ensures.ok clean))),
  search rules,
  search rules,
)

pub returns-clause-ok : goal.returns-clause-ok
returns-clause-ok g c clean =
    let whole : length c.args.nodes.now ≤ c.loop-node._node-index = omega arith in
    rw take_all at (c.loop-node.invariant.1 clean)
