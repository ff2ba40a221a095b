use Rattle.std.proofs.Common.{arith}
use Rattle.tl_warnings.specs.Failing.{BlockFails, no_statements, act, try, if, repeat, for_each, block_alone, search as searched, no_else, some_else}
use Rattle.tl_warnings.proofs.ListLemmas.{taken_all}
use Rattle.tl_warnings.proofs.FailingLemmas.{block_at, block_more}
use Rattle.tl_warnings.proofs.failing.+failing.Goals as goal

pub else_may_fail-returns-in-Some : goal.else_may_fail-returns-in-Some
else_may_fail-returns-in-Some t c = rw c.in-Some.is (some_else (block_at c.deref.ensures.value c.block_may_fail.ensures))

pub else_may_fail-returns-in-None : goal.else_may_fail-returns-in-None
else_may_fail-returns-in-None t c = rw c.in-None.is no_else

pub statement_may_fail-returns-in-Act : goal.statement_may_fail-returns-in-Act
statement_may_fail-returns-in-Act t c = rw c.in-Act.is (act c.action_may_fail.ensures c.else_may_fail.ensures)

pub statement_may_fail-returns-in-Try : goal.statement_may_fail-returns-in-Try
statement_may_fail-returns-in-Try t c =
    rw c.in-Try.is (try c.in-Try.body c.in-Try.handler (block_at c.deref.ensures.value c.block_may_fail.ensures) (block_at c.deref-in-Try.ensures.value c.block_may_fail-in-Try.ensures))

pub statement_may_fail-returns-in-If : goal.statement_may_fail-returns-in-If
statement_may_fail-returns-in-If t c =
    rw c.in-If.is
    (if c.in-If.body c.in-If.otherwise c.question_may_fail.ensures (block_at c.deref-in-If.ensures.value c.block_may_fail-in-If.ensures)
    (block_at c.deref-in-If-2.ensures.value c.block_may_fail-in-If-2.ensures))

pub statement_may_fail-returns-in-Repeat : goal.statement_may_fail-returns-in-Repeat
statement_may_fail-returns-in-Repeat t c = rw (c.in-Repeat.is, c.is_some.ensures) (repeat c.in-Repeat.body (block_at c.deref-in-Repeat.ensures.value c.block_may_fail-in-Repeat.ensures))

pub statement_may_fail-returns-in-ForEach : goal.statement_may_fail-returns-in-ForEach
statement_may_fail-returns-in-ForEach t c = rw c.in-ForEach.is (for_each c.in-ForEach.body)

pub statement_may_fail-returns-in-Block : goal.statement_may_fail-returns-in-Block
statement_may_fail-returns-in-Block t c = rw c.in-Block.is (block_alone c.in-Block.body (block_at c.deref-in-Block.ensures.value c.block_may_fail-in-Block.ensures))

pub statement_may_fail-returns-in-Search : goal.statement_may_fail-returns-in-Search
statement_may_fail-returns-in-Search t c =
    rw c.in-Search.is
    (searched c.in-Search.turns c.in-Search.found c.in-Search.otherwise (block_at c.deref-in-Search.ensures.value c.block_may_fail-in-Search.ensures)
    (block_at c.deref-in-Search-2.ensures.value c.block_may_fail-in-Search-2.ensures) (block_at c.deref-in-Search-3.ensures.value c.block_may_fail-in-Search-3.ensures))

pub block_may_fail-loop-statement-init : goal.block_may_fail-loop-statement-init
block_may_fail-loop-statement-init t c = no_statements

pub block_may_fail-loop-statement-preserved : goal.block_may_fail-loop-statement-preserved
block_may_fail-loop-statement-preserved t c = block_more c.args.statements.now c.loop-statement.statement-index c.statement-item.result (omega arith) c.statement-item.is c.loop-statement.invariant c.statement_may_fail-found.ensures

pub block_may_fail-returns : goal.block_may_fail-returns
block_may_fail-returns t c = taken_all (λ z. BlockFails z c.loop-statement.found) c.args.statements.now c.loop-statement.statement-index (omega arith) c.loop-statement.invariant
