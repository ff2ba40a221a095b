use Rattle.std.proofs.Common.{sym, subst, arith}
use Rattle.sqlite_store.specs.FileStore.{view}
use Rattle.sqlite_trees.specs.Tree.{Trees}
use Rattle.sqlite_trees.specs.View.{IsClean}
use Rattle.tl_ledger.specs.Contents.{Holds}
use Rattle.tl_file_journal.proofs.opening.begin_on.Goals.{in-false-default-Some, in-false-default-None+in_ok-begun-in-false-default-None}
use Rattle.tl_file_journal.proofs.opening.begin_on.Goals as goal

pub returns-in_ok-make_in-in-true-default-Some-clause-begins : goal.returns-in_ok-make_in-in-true-default-Some-clause-begins
returns-in_ok-make_in-in-true-default-Some-clause-begins g c = λ clean. rw c.in-true-default-Some.is-1 (c.in_ok-make_in-in-true-default-Some.ensures.begins clean)

pub returns-after-this-2-clause-resumes : goal.returns-after-this-2-clause-resumes
returns-after-this-2-clause-resumes g c = elim c.match-this-2.branch [
  | in-false-default-Some w ↦ rw w.result-is tt
  | in-false-default-None+in_ok-begun-in-false-default-None w ↦ rw w.result-is (λ none clean contents v held reached old.
      let after : IsClean (view c.in_ok-rested.field-0.1.store) = omega (arith, clean, w.in_ok-begun-in-false-default-None.ensures.clean) in
      let there : Holds (view c.in_ok-rested.field-0.1.store).committed contents = subst (λ (db : Trees). Holds db contents) (sym (c.in_ok-rested.ensures.same after)) held in
      w.in_ok-begun-in-false-default-None.ensures.resumes clean contents v there reached old)
]
