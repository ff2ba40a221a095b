use Rattle.std.proofs.Common.{◌||◌, refl, ap, ◌∙◌, arith}
use Rattle.std.proofs.lemmas.Result.{on_ok_weaker}
use Rattle.tl_warnings.specs.Walking.{walk_warned, no_statements, unreached, reached, act, try, if, repeat, for_each, block_alone, search as searched, no_else, some_else}
use Rattle.tl_warnings.proofs.LockingLemmas.{block_at as locks_at}
use Rattle.tl_warnings.proofs.PassingLemmas.{block_at as passes_at}
use Rattle.tl_warnings.proofs.WalkingLemmas.{block_at, begins_at, walks_more, walks_end}
use Rattle.tl_warnings.proofs.walking.+walking.Goals as goal

pub else_walks-returns-in-Some : goal.else_walks-returns-in-Some
else_walks-returns-in-Some t c = rw c.in-Some.is (on_ok_weaker c.block_walks.result (λ w. some_else (block_at c.deref.ensures.value refl w)) c.block_walks.ensures)

pub else_walks-returns-in-None : goal.else_walks-returns-in-None
else_walks-returns-in-None t c = rw c.in-None.is no_else

pub next_walks-returns-in-Some : goal.next_walks-returns-in-Some
next_walks-returns-in-Some t c = rw c.in-Some.is (on_ok_weaker c.statement_walks.result (λ w. reached w) c.statement_walks.ensures)

pub next_walks-returns-in-None : goal.next_walks-returns-in-None
next_walks-returns-in-None t c = rw c.in-None.is unreached

pub statement_walks-returns-in-Act : goal.statement_walks-returns-in-Act
statement_walks-returns-in-Act t c = rw c.in-Act.is (on_ok_weaker c.else_walks.result (λ w. act c.action_locks-locks.ensures w) c.else_walks.ensures)

pub statement_walks-returns-in_ok-block_walks-in-Try : goal.statement_walks-returns-in_ok-block_walks-in-Try
statement_walks-returns-in_ok-block_walks-in-Try t c =
    rw c.in-Try.is (on_ok_weaker c.block_walks-in-Try.result (λ w.
    try c.in-Try.body c.in-Try.handler (locks_at c.deref.ensures.value c.block_locks-locks.ensures)
    (block_at c.deref-in-Try.ensures.value refl c.in_ok-block_walks-in-Try.ensures) (block_at c.deref-in-Try-2.ensures.value refl w)) c.block_walks-in-Try.ensures)

pub statement_walks-returns-in_ok-block_walks-in-If : goal.statement_walks-returns-in_ok-block_walks-in-If
statement_walks-returns-in_ok-block_walks-in-If t c =
    rw c.in-If.is (on_ok_weaker c.block_walks-in-If-2.result (λ w.
    if c.in-If.body c.in-If.otherwise
    (begins_at (ap (λ r. c.args.before || r) c.question_locks-locks.ensures) (block_at c.deref-in-If.ensures.value refl c.in_ok-block_walks-in-If.ensures))
    (block_at c.deref-in-If-2.ensures.value refl w)) c.block_walks-in-If-2.ensures)

pub statement_walks-returns-in-Repeat : goal.statement_walks-returns-in-Repeat
statement_walks-returns-in-Repeat t c =
    rw c.in-Repeat.is (on_ok_weaker c.block_walks-in-Repeat.result (λ w.
    repeat c.in-Repeat.body (locks_at c.deref-in-Repeat.ensures.value c.block_locks-locks-in-Repeat.ensures) (block_at c.deref-in-Repeat-2.ensures.value refl w)) c.block_walks-in-Repeat.ensures)

pub statement_walks-returns-in_ok-walk-in-ForEach : goal.statement_walks-returns-in_ok-walk-in-ForEach
statement_walks-returns-in_ok-walk-in-ForEach t c =
    rw c.in-ForEach.is (on_ok_weaker c.block_walks-in-ForEach.result (λ w.
    for_each c.in-ForEach.body (passes_at c.deref-in-ForEach.ensures.value c.block_passes-goes_on.ensures) (locks_at c.deref-in-ForEach-2.ensures.value c.block_locks.ensures)
    (block_at c.deref-in-ForEach-3.ensures.value
    (c.in_ok-walk-in-ForEach.ensures ∙ ap (λ r. walk_warned c.args.node.0 c.in-ForEach.parent (c.args.before || r) c.args.statement.now.offset c.args.found.now.items) c.unwrap_or.ensures) w))
    c.block_walks-in-ForEach.ensures)

pub statement_walks-returns-in-Block : goal.statement_walks-returns-in-Block
statement_walks-returns-in-Block t c =
    rw c.in-Block.is (on_ok_weaker c.block_walks-in-Block.result (λ w. block_alone c.in-Block.body (block_at c.deref-in-Block.ensures.value refl w)) c.block_walks-in-Block.ensures)

pub statement_walks-returns-in_ok-block_walks-in-Search-2 : goal.statement_walks-returns-in_ok-block_walks-in-Search-2
statement_walks-returns-in_ok-block_walks-in-Search-2 t c =
    rw c.in-Search.is (on_ok_weaker c.block_walks-in-Search-3.result (λ w.
    searched c.in-Search.turns c.in-Search.hit c.in-Search.otherwise (locks_at c.deref-in-Search.ensures.value c.block_locks-locks-in-Search.ensures)
    (block_at c.deref-in-Search-2.ensures.value refl c.in_ok-block_walks-in-Search.ensures) (block_at c.deref-in-Search-3.ensures.value refl c.in_ok-block_walks-in-Search-2.ensures)
    (block_at c.deref-in-Search-4.ensures.value refl w)) c.block_walks-in-Search-3.ensures)

pub block_walks-loop-statement-init : goal.block_walks-loop-statement-init
block_walks-loop-statement-init t c = no_statements

pub block_walks-loop-statement-preserved : goal.block_walks-loop-statement-preserved
block_walks-loop-statement-preserved t c =
    walks_more c.args.statements.now c.loop-statement.statement-index c.statement-item.result (omega arith) c.statement-item.is c.loop-statement.invariant c.in_ok-next_walks.ensures c.next_passes-state.ensures

pub block_walks-returns : goal.block_walks-returns
block_walks-returns t c = walks_end c.args.statements.now c.loop-statement.statement-index (omega arith) c.loop-statement.invariant
