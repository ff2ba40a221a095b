use Rattle.std.proofs.Common.{arith}
use Rattle.tl_warnings.specs.Reading.{BlockReads, no_statements, act, try, if, repeat, for_each, block_alone, search as searched, no_else, some_else}
use Rattle.tl_warnings.proofs.ListLemmas.{taken_all}
use Rattle.tl_warnings.proofs.ReadingLemmas.{block_at, block_more}
use Rattle.tl_warnings.proofs.reading.+reading.Goals as goal

pub else_reads-returns-in-Some : goal.else_reads-returns-in-Some
else_reads-returns-in-Some t c = rw c.in-Some.is (some_else (block_at c.deref.ensures.value c.block_reads.ensures))

pub else_reads-returns-in-None : goal.else_reads-returns-in-None
else_reads-returns-in-None t c = rw c.in-None.is no_else

pub statement_reads-returns-in-Act : goal.statement_reads-returns-in-Act
statement_reads-returns-in-Act t c = rw c.in-Act.is (act c.action_reads.ensures c.else_reads.ensures)

pub statement_reads-returns-in-Try : goal.statement_reads-returns-in-Try
statement_reads-returns-in-Try t c =
    rw c.in-Try.is (try c.in-Try.body c.in-Try.handler (block_at c.deref.ensures.value c.block_reads.ensures) (block_at c.deref-in-Try.ensures.value c.block_reads-in-Try.ensures))

pub statement_reads-returns-in-If : goal.statement_reads-returns-in-If
statement_reads-returns-in-If t c =
    rw c.in-If.is
    (if c.in-If.body c.in-If.otherwise c.question_reads-asked.ensures (block_at c.deref-in-If.ensures.value c.block_reads-in-If.ensures) (block_at c.deref-in-If-2.ensures.value c.block_reads-in-If-2.ensures))

pub statement_reads-returns-in-Repeat : goal.statement_reads-returns-in-Repeat
statement_reads-returns-in-Repeat t c = rw c.in-Repeat.is (repeat c.in-Repeat.body c.reads.ensures (block_at c.deref-in-Repeat.ensures.value c.block_reads-in-Repeat.ensures))

pub statement_reads-returns-in-ForEach : goal.statement_reads-returns-in-ForEach
statement_reads-returns-in-ForEach t c = rw c.in-ForEach.is (for_each c.in-ForEach.body (block_at c.deref-in-ForEach.ensures.value c.block_reads-in-ForEach.ensures))

pub statement_reads-returns-in-Block : goal.statement_reads-returns-in-Block
statement_reads-returns-in-Block t c = rw c.in-Block.is (block_alone c.in-Block.body (block_at c.deref-in-Block.ensures.value c.block_reads-in-Block.ensures))

pub statement_reads-returns-in-Search : goal.statement_reads-returns-in-Search
statement_reads-returns-in-Search t c =
    rw c.in-Search.is
    (searched c.in-Search.turns c.in-Search.found c.in-Search.otherwise (block_at c.deref-in-Search.ensures.value c.block_reads-searched.ensures)
    (block_at c.deref-in-Search-2.ensures.value c.block_reads-in-Search.ensures) (block_at c.deref-in-Search-3.ensures.value c.block_reads-in-Search-2.ensures))

pub block_reads-loop-statement-init : goal.block_reads-loop-statement-init
block_reads-loop-statement-init t c = no_statements

pub block_reads-loop-statement-preserved : goal.block_reads-loop-statement-preserved
block_reads-loop-statement-preserved t c = block_more c.args.statements.now c.loop-statement.statement-index c.statement-item.result (omega arith) c.statement-item.is c.loop-statement.invariant c.statement_reads-found.ensures

pub block_reads-returns : goal.block_reads-returns
block_reads-returns t c = taken_all (λ z. BlockReads c.args.value.0 z c.loop-statement.found) c.args.statements.now c.loop-statement.statement-index (omega arith) c.loop-statement.invariant
