use Rattle.std.proofs.Common.{rules, ◌<◌, [], length, arith}
use Rattle.std.proofs.lemmas.List.{take_more}
use Rattle.std.proofs.lemmas.List.Elements.{All-get_or}
use Rattle.tl_ledger.specs.declared.rows.ChangedRecord.{ChangedRecord}
use Rattle.tl_ledger.proofs.CommitLemmas.{change_more}
use Rattle.tl_ledger.proofs.changing.put_changes.Goals as goal

pub loop-change-preserved : goal.loop-change-preserved
loop-change-preserved g c = (
  λ clean.
      let none : ChangedRecord = record { node = 0; row = record { fields = [] } } in
      let within : c.loop-change.change-index < length c.args.changed.now = omega arith in
      let inside = All-get_or (λ (r : ChangedRecord). r.node < c.args.nodes) c.args.changed.now c.loop-change.change-index none within c.requires.inside in
      let so_far = c.loop-change.invariant.0 (omega (arith, c.put_one.ensures.quiet.clean)) in
      rw (take_more c.args.changed.now c.loop-change.change-index none within)
      (change_more _ _ _ _ _ _ inside so_far (c.in_ok-put_one.ensures.ok clean)),
  search rules,
  search rules,
)
