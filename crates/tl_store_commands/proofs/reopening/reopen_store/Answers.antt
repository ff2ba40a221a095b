use Rattle.std.proofs.Common.{ap, subst, sym, arith}
use Rattle.std.proofs.lemmas.Result.{err_from_is_err_and}
use Rattle.sqlite_trees.specs.Tree.{Trees}
use Rattle.sqlite_trees.specs.View.{IsClean}
use Rattle.tl_ledger.specs.Contents.{Holds, IsAtRest, OnlyReads}
use Rattle.tl_ledger.specs.News.{IsMarked}
use Rattle.tl_store.specs.Stored.{AreStored}
use Rattle.tl_store.specs.Recovered.{IsMadeAgain}
use Rattle.tl_store_laws.proofs.Columns.{ledger_is_store}
use Rattle.tl_store_laws.proofs.Readable.{readable}
use Rattle.tl_store.proofs.DiskLemmas.{of_memory}
use Rattle.tl_store_commands.proofs.ReopeningLemmas.{resumed, few_rows}
use Rattle.tl_store_commands.proofs.reopening.reopen_store.Goals as goal

pub returns-clause-taken_up : goal.returns-clause-taken_up
returns-clause-taken_up g c = λ clean contents held.
    let before = g.S.Store.view c.args.store in
    let after = g.S.Store.view c.read_stored.new.store in
    let same_store = c.new-ledger.ensures.0 in
    let given_clean : IsClean (g.S.Store.view c.new-ledger.result.store) = omega (arith, clean, c.in_ok-ledger.ensures.clean) in
    let was_clean : IsClean after = rw same_store at given_clean in
    let first_clean : IsClean before = omega (arith, was_clean, c.read_stored.ensures.quiet.clean) in
    let rest : IsAtRest before = c.requires first_clean in
    let reads : OnlyReads before after = c.in_ok-stored.ensures.reads was_clean in
    let shown : Holds before.trees contents = subst (λ (db : Trees). Holds db contents) (sym rest.settled) held in
    let stored : AreStored contents c.in_ok-stored.stored = c.in_ok-stored.ensures.stored was_clean contents shown in
    let kept : Holds after.committed contents = subst (λ (db : Trees). Holds db contents) (sym (ap (λ v. v.committed) reads.same)) held in
    let kept_there : Holds (g.S.Store.view c.new-ledger.result.store).committed contents = rw same_store kept in
    let marked : IsMarked contents c.new-ledger.result.marks = rw c.new-ledger.ensures.1 stored.marked in
    let closed = c.in_ok-ledger.ensures.stored clean contents marked kept_there in
    record {
      rows = c.in_ok-stored.stored;
      stored = stored;
      last = c.in_ok-core.field-0.core.seen;
      rebuilt = c.in_ok-core.ensures.rebuilt;
      next = c.in-Ok.ensures.next;
      now = closed.0;
      closed = closed.1;
      holds = closed.2;
      marked = closed.3;
    }

pub returns-clause-resumes : goal.returns-clause-resumes
unfolding returns-clause-taken_up
returns-clause-resumes g c = λ clean contents v held reached old.
    let taken = returns-clause-taken_up g c clean contents held in
    let rows = ledger_is_store contents v old taken.rows taken.stored in
    let made : IsMadeAgain v taken.last = c.in_ok-core.ensures.same v reached rows in
    resumed contents v _ _ _ old reached taken made c.lemma_is_reached.ensures

pub returns-in_err-stored-clause-again : goal.returns-in_err-stored-clause-again
returns-in_err-stored-clause-again g c =
    let p = err_from_is_err_and c.from_residual.result c.from_residual.ensures.1 in
    rw (p.1, p.2) (
      c.read_stored.new.store,
      c.read_stored.ensures.quiet,
      λ clean contents v held reached old size.
          let before = g.S.Store.view c.args.store in
          let first_clean : IsClean before = omega (arith, clean, c.read_stored.ensures.quiet.clean) in
          let rest : IsAtRest before = c.requires first_clean in
          let shown : Holds before.trees contents = subst (λ (db : Trees). Holds db contents) (sym rest.settled) held in
          c.in_err-stored.ensures.again clean contents shown (readable contents v old reached size.wide size.few),
    )

pub returns-in_err-core-clause-again : goal.returns-in_err-core-clause-again
returns-in_err-core-clause-again g c =
    let p = err_from_is_err_and c.from_residual-in_err-core.result c.from_residual-in_err-core.ensures.1 in
    rw (p.1, p.2) (
      c.read_stored.new.store,
      c.read_stored.ensures.quiet,
      λ clean contents v held reached old size.
          let before = g.S.Store.view c.args.store in
          let first_clean : IsClean before = omega (arith, clean, c.read_stored.ensures.quiet.clean) in
          let rest : IsAtRest before = c.requires first_clean in
          let shown : Holds before.trees contents = subst (λ (db : Trees). Holds db contents) (sym rest.settled) held in
          let stored : AreStored contents c.in_ok-stored.stored = c.in_ok-stored.ensures.stored clean contents shown in
          of_memory _ (c.in_err-core.ensures.again v reached (ledger_is_store contents v old c.in_ok-stored.stored stored)),
    )

pub returns-in_default-clause-again : goal.returns-in_default-clause-again
returns-in_default-clause-again g c = (c.read_stored.new.store, c.read_stored.ensures.quiet, λ clean contents v held reached old size. tt)

pub returns-in_err-ledger-clause-again : goal.returns-in_err-ledger-clause-again
returns-in_err-ledger-clause-again g c =
    let p = err_from_is_err_and c.from_residual-in_err-ledger.result c.from_residual-in_err-ledger.ensures.1 in
    rw (p.1, p.2) (
      c.read_stored.new.store,
      c.read_stored.ensures.quiet,
      λ clean contents v held reached old size.
          let before = g.S.Store.view c.args.store in
          let first_clean : IsClean before = omega (arith, clean, c.read_stored.ensures.quiet.clean) in
          let rest : IsAtRest before = c.requires first_clean in
          let shown : Holds before.trees contents = subst (λ (db : Trees). Holds db contents) (sym rest.settled) held in
          let stored : AreStored contents c.in_ok-stored.stored = c.in_ok-stored.ensures.stored clean contents shown in
          c.in_err-ledger.ensures.again (few_rows contents _ stored.marked size.few),
    )
