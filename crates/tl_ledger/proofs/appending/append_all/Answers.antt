use Rattle.std.proofs.Common.{rules, ◌≡◌, ◌+◌, ◌<◌, ◌≤◌, map, take, take_all, length, arith}
use Rattle.tl_ledger.proofs.RowLemmas.{appends_none, appends_more, map_more, map_length}
use Rattle.tl_ledger.proofs.appending.append_all.Goals as goal

pub loop-item-init : goal.loop-item-init
loop-item-init g c = (omega arith, λ clean. appends_none _ _ _, search rules, search rules)

pub loop-item-preserved : goal.loop-item-preserved
loop-item-preserved g c = (
  omega (arith, c.loop-item.invariant.0),
  λ clean.
      let within : c.loop-item.item-index < length c.args.items.now = omega arith in
      let so_far = c.loop-item.invariant.1 (omega (arith, c.put_one.ensures.quiet.clean)) in
      let row = g.T.Entry.columns c.item-item.result in
      let long = map_length g.T.Entry.columns c.args.items.now c.loop-item.item-index (omega arith) in
      let number : c.loop-item.number ≡ c.args.first + length (map g.T.Entry.columns (take c.loop-item.item-index c.args.items.now)) = omega (arith, c.loop-item.invariant.0, long) in
      rw (map_more g.T.Entry.columns c.args.items.now c.loop-item.item-index c.item-item.result within c.item-item.is)
      (appends_more _ _ _ _ _ _ row so_far (rw number at (c.in_ok-put_one.ensures.ok clean))),
  search rules,
  search rules,
)

pub returns-clause-ok : goal.returns-clause-ok
returns-clause-ok g c clean =
    let whole : length c.args.items.now ≤ c.loop-item.item-index = omega arith in
    rw take_all at (c.loop-item.invariant.1 clean)
