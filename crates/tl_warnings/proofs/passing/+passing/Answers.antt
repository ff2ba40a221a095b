use Rattle.std.proofs.Common.{◌||◌, ap, arith}
use Rattle.tl_warnings.specs.Passing.{BlockPasses, no_statements, unreached, reached, act, try, if, repeat, for_each, block_alone, search as searched, no_else, some_else}
use Rattle.tl_warnings.proofs.ListLemmas.{taken_all}
use Rattle.tl_warnings.proofs.LockingLemmas.{block_at as locks_at}
use Rattle.tl_warnings.proofs.PassingLemmas.{block_at, begins_at, block_more}
use Rattle.tl_warnings.proofs.passing.+passing.Goals as goal

pub else_passes-returns-in-Some : goal.else_passes-returns-in-Some
else_passes-returns-in-Some t c = rw c.in-Some.is (some_else (block_at c.deref.ensures.value c.block_passes.ensures))

pub else_passes-returns-in-None : goal.else_passes-returns-in-None
else_passes-returns-in-None t c = rw c.in-None.is no_else

pub next_passes-returns-in-Some : goal.next_passes-returns-in-Some
next_passes-returns-in-Some t c = rw c.in-Some.is (reached c.statement_passes.ensures)

pub next_passes-returns-in-None : goal.next_passes-returns-in-None
next_passes-returns-in-None t c = rw c.in-None.is unreached

pub statement_passes-returns-in-Act : goal.statement_passes-returns-in-Act
statement_passes-returns-in-Act t c = rw (c.in-Act.is, c.join.ensures, c.behind_action.ensures) (act c.action_locks-locks.ensures c.else_passes-other.ensures)

pub statement_passes-returns-in-Try : goal.statement_passes-returns-in-Try
statement_passes-returns-in-Try t c =
    rw (c.in-Try.is, c.join-in-Try.ensures)
    (try c.in-Try.body c.in-Try.handler (locks_at c.deref.ensures.value c.block_locks-locks.ensures) (block_at c.deref-in-Try.ensures.value c.block_passes-first.ensures)
    (block_at c.deref-in-Try-2.ensures.value c.block_passes.ensures))

pub statement_passes-returns-in-If : goal.statement_passes-returns-in-If
statement_passes-returns-in-If t c =
    rw (c.in-If.is, c.join-in-If.ensures)
    (if c.in-If.body c.in-If.otherwise (begins_at (ap (λ r. c.args.before || r) c.question_locks-locks.ensures) (block_at c.deref-in-If.ensures.value c.block_passes-first-in-If.ensures))
    (block_at c.deref-in-If-2.ensures.value c.block_passes-in-If.ensures))

pub statement_passes-returns-in-Repeat : goal.statement_passes-returns-in-Repeat
statement_passes-returns-in-Repeat t c = rw c.in-Repeat.is (repeat c.in-Repeat.body (locks_at c.deref-in-Repeat.ensures.value c.block_locks.ensures))

pub statement_passes-returns-in-ForEach : goal.statement_passes-returns-in-ForEach
statement_passes-returns-in-ForEach t c = rw c.in-ForEach.is (for_each c.in-ForEach.body (locks_at c.deref-in-ForEach.ensures.value c.block_locks-in-ForEach.ensures))

pub statement_passes-returns-in-Block : goal.statement_passes-returns-in-Block
statement_passes-returns-in-Block t c = rw c.in-Block.is (block_alone c.in-Block.body (block_at c.deref-in-Block.ensures.value c.block_passes-in-Block.ensures))

pub statement_passes-returns-in-Search : goal.statement_passes-returns-in-Search
statement_passes-returns-in-Search t c =
    rw (c.in-Search.is, c.join-in-Search.ensures)
    (searched c.in-Search.turns c.in-Search.found c.in-Search.otherwise (locks_at c.deref-in-Search.ensures.value c.block_locks-locks-in-Search.ensures)
    (block_at c.deref-in-Search-2.ensures.value c.block_passes-first-in-Search.ensures) (block_at c.deref-in-Search-3.ensures.value c.block_passes-in-Search.ensures))

pub block_passes-loop-statement-init : goal.block_passes-loop-statement-init
block_passes-loop-statement-init t c = no_statements

pub block_passes-loop-statement-preserved : goal.block_passes-loop-statement-preserved
block_passes-loop-statement-preserved t c = block_more c.args.statements.now c.loop-statement.statement-index c.statement-item.result (omega arith) c.statement-item.is c.loop-statement.invariant c.next_passes-state.ensures

pub block_passes-returns : goal.block_passes-returns
block_passes-returns t c = taken_all (λ z. BlockPasses c.args.node.0 c.args.before z c.loop-statement.state) c.args.statements.now c.loop-statement.statement-index (omega arith) c.loop-statement.invariant
