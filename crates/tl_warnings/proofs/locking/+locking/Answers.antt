use Rattle.std.proofs.Common.{arith}
use Rattle.tl_warnings.specs.Locking.{BlockLocks, no_statements, act, try, if, repeat, for_each, block_alone, search as searched, no_else, some_else}
use Rattle.tl_warnings.proofs.ListLemmas.{taken_all}
use Rattle.tl_warnings.proofs.LockingLemmas.{block_at, block_more}
use Rattle.tl_warnings.proofs.locking.+locking.Goals as goal

pub else_locks-returns-in-Some : goal.else_locks-returns-in-Some
else_locks-returns-in-Some t c = rw c.in-Some.is (some_else (block_at c.deref.ensures.value c.block_locks.ensures))

pub else_locks-returns-in-None : goal.else_locks-returns-in-None
else_locks-returns-in-None t c = rw c.in-None.is no_else

pub statement_locks-returns-in-Act : goal.statement_locks-returns-in-Act
statement_locks-returns-in-Act t c = rw c.in-Act.is (act c.action_locks.ensures c.else_locks.ensures)

pub statement_locks-returns-in-Try : goal.statement_locks-returns-in-Try
statement_locks-returns-in-Try t c =
    rw c.in-Try.is (try c.in-Try.body c.in-Try.handler (block_at c.deref.ensures.value c.block_locks.ensures) (block_at c.deref-in-Try.ensures.value c.block_locks-in-Try.ensures))

pub statement_locks-returns-in-If : goal.statement_locks-returns-in-If
statement_locks-returns-in-If t c =
    rw (c.in-If.is, c.question_locks-asked.ensures)
    (if c.in-If.body c.in-If.otherwise (block_at c.deref-in-If.ensures.value c.block_locks-in-If.ensures) (block_at c.deref-in-If-2.ensures.value c.block_locks-in-If-2.ensures))

pub statement_locks-returns-in-Repeat : goal.statement_locks-returns-in-Repeat
statement_locks-returns-in-Repeat t c = rw c.in-Repeat.is (repeat c.in-Repeat.body (block_at c.deref-in-Repeat.ensures.value c.block_locks-in-Repeat.ensures))

pub statement_locks-returns-in-ForEach : goal.statement_locks-returns-in-ForEach
statement_locks-returns-in-ForEach t c = rw c.in-ForEach.is (for_each c.in-ForEach.body (block_at c.deref-in-ForEach.ensures.value c.block_locks-in-ForEach.ensures))

pub statement_locks-returns-in-Block : goal.statement_locks-returns-in-Block
statement_locks-returns-in-Block t c = rw c.in-Block.is (block_alone c.in-Block.body (block_at c.deref-in-Block.ensures.value c.block_locks-in-Block.ensures))

pub statement_locks-returns-in-Search : goal.statement_locks-returns-in-Search
statement_locks-returns-in-Search t c =
    rw c.in-Search.is
    (searched c.in-Search.turns c.in-Search.found c.in-Search.otherwise (block_at c.deref-in-Search.ensures.value c.block_locks-searched.ensures)
    (block_at c.deref-in-Search-2.ensures.value c.block_locks-in-Search.ensures) (block_at c.deref-in-Search-3.ensures.value c.block_locks-in-Search-2.ensures))

pub block_locks-loop-statement-init : goal.block_locks-loop-statement-init
block_locks-loop-statement-init t c = no_statements

pub block_locks-loop-statement-preserved : goal.block_locks-loop-statement-preserved
block_locks-loop-statement-preserved t c = block_more c.args.statements.now c.loop-statement.statement-index c.statement-item.result (omega arith) c.statement-item.is c.loop-statement.invariant c.statement_locks-found.ensures

pub block_locks-returns : goal.block_locks-returns
block_locks-returns t c = taken_all (λ z. BlockLocks c.args.node.0 z c.loop-statement.found) c.args.statements.now c.loop-statement.statement-index (omega arith) c.loop-statement.invariant
