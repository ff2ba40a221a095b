-- What is taken up is the core whose rows a store has.
use Rattle.std.proofs.Common.{ℕ, ◌<◌, ◌≤◌, ◌^◌, length, inl, inr, sym, ap, subst, arith}
use Rattle.std.proofs.lemmas.List.{nil_from_length}
use Rattle.sqlite_trees.specs.Tree.{Trees}
use Rattle.tl_core.specs.Cores.{CoreValue, CoreState, opened_after}
use Rattle.tl_core.specs.Reached.{IsReached}
use Rattle.tl_ledger.specs.declared.committing.Marks.{Marks}
use Rattle.tl_ledger.specs.declared.schema.TheConstants.{PROCEDURE, CALL, TURN, REPLY, SEAL, NAME}
use Rattle.tl_ledger.specs.Contents.{Contents}
use Rattle.tl_ledger.specs.News.{IsMarked}
use Rattle.tl_store.specs.Stored.{AreFewRows}
use Rattle.tl_store.specs.Recovered.{IsMadeAgain}
use Rattle.tl_store_laws.specs.Growing.{IsLedgerOf}
use Rattle.tl_store_laws.proofs.Closed.{closed}
use Rattle.tl_store_laws.proofs.Idle.{kept}
use Rattle.tl_store_commands.specs.Beginning.{IsClosed, TakesUp, Resumes}

module _ (before : Contents) (v : CoreValue) (core : CoreState) (committed : Trees) (marks : Marks) (old : IsLedgerOf before v) (reached : IsReached v) (taken : TakesUp before core committed marks)
    (made : IsMadeAgain v taken.last) (reached_last : IsReached taken.last) where
  rows_now : (now : Contents) → IsClosed taken.rows taken.last before now → IsLedgerOf now (opened_after taken.last).seen
  rows_now now (inl none) =
      let few = taken.rebuilt.few in
      let no_rows = ap length none.0 in
      subst (λ c. IsLedgerOf c (opened_after taken.last).seen) (sym none.1)
      (kept before v taken.last old made reached reached_last (nil_from_length taken.last.calls (omega (arith, few, no_rows))))
  rows_now now (inr some) =
      subst (λ c. IsLedgerOf c (opened_after taken.last).seen) (sym some.2)
      (closed before taken.rows v taken.last some.0 old made.later made.procedures reached_last taken.stored some.1)

  pub resumed : Resumes v core committed marks
  resumed = record {
    last = taken.last;
    made = made;
    next = taken.next;
    now = taken.now;
    holds = taken.holds;
    marked = taken.marked;
    rows = subst (λ (s : CoreState). IsLedgerOf taken.now s.seen) (sym taken.next) (rows_now taken.now taken.closed);
  }

-- the counts of contents without too many rows
pub few_rows : (c : Contents) (m : Marks) → IsMarked c m → ((t : ℕ) → t < NAME → length (c t) ≤ 2 ^ 62) → AreFewRows m
few_rows c m marked few = record {
  procedures = subst (λ n. n ≤ 2 ^ 62) marked.procedures (few PROCEDURE (omega arith));
  calls = subst (λ n. n ≤ 2 ^ 62) marked.calls (few CALL (omega arith));
  turns = subst (λ n. n ≤ 2 ^ 62) marked.turns (few TURN (omega arith));
  replies = subst (λ n. n ≤ 2 ^ 62) marked.replies (few REPLY (omega arith));
  seals = subst (λ n. n ≤ 2 ^ 62) marked.seals (few SEAL (omega arith));
}
