use Rattle.std.proofs.Common.{arith}
use Rattle.sqlite_store.specs.FileStore.{view}
use Rattle.sqlite_trees.specs.View.{IsClean}
use Rattle.tl_ledger.proofs.OnlyReading.{still_rests}
use Rattle.tl_ledger.specs.declared.schema.TheConstants.{CALL}
use Rattle.tl_file_journal.proofs.volumes.count_calls.Goals as goal

pub count_rows-requires : goal.count_rows-requires
count_rows-requires g c = λ clean. (c.args.rested.rests clean).tables CALL (omega arith)

pub invariant_of-result : goal.invariant_of-result
invariant_of-result g c = record {
  rests = λ clean.
      let was : IsClean (view c.args.rested.store) = omega (arith, clean, c.count_rows.ensures.quiet.clean) in
      still_rests (view c.args.rested.store) (view c.count_rows.new.store) (c.in-Ok.ensures.reads clean) (c.args.rested.rests was);
}
