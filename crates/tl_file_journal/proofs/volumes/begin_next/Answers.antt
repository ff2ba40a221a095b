use Rattle.std.proofs.Common.{arith, sym, subst}
use Rattle.sqlite_store.specs.FileStore.{view}
use Rattle.sqlite_trees.specs.View.{IsClean}
use Rattle.tl_ledger.specs.Contents.{Holds, no_contents}
use Rattle.tl_ledger.specs.News.{after_founding, IsMarked}
use Rattle.tl_ledger.specs.declared.committing.Marks.{Marks}
use Rattle.tl_file_journal.proofs.volumes.begin_next.Goals as goal

pub returns-in-Ok-carry_over-clause-carried : goal.returns-in-Ok-carry_over-clause-carried
returns-in-Ok-carry_over-clause-carried c = λ last_clean clean contents holds.
    let same = c.new.ensures.0 in
    let next_clean : IsClean (view c.carry_over.new.next) = subst (λ s. IsClean (view s)) same clean in
    let was : IsClean (view c.in-Ok-blank_for.next) = omega (arith, next_clean, c.in-Ok-carry_over.ensures.clean) in
    let found = c.in-Ok-carry_over.ensures.carried last_clean next_clean contents holds (c.in-Ok-blank_for.ensures.empty was) in (
      found.0,
      found.1,
      subst (λ (m : Marks). IsMarked (after_founding no_contents found.0) m) (sym c.new.ensures.1) found.2,
      subst (λ s. Holds (view s).committed (after_founding no_contents found.0)) (sym same) found.3,
    )
