use Rattle.std.proofs.Common.{refl, arith}
use Rattle.std.proofs.lemmas.Result.{on_ok_weaker}
use Rattle.tl_warnings.specs.Finding.{act, try, if, repeat, for_each, block_alone, search as searched, no_else, some_else}
use Rattle.tl_warnings.proofs.FailingLemmas.{block_at as fails_at}
use Rattle.tl_warnings.proofs.FindingLemmas.{asked_at, block_at, values_at, named_at, block_next, block_end}
use Rattle.tl_warnings.proofs.ListLemmas.{all_left}
use Rattle.tl_warnings.proofs.WalkingLemmas.{block_at as walks_at}
use Rattle.tl_warnings.proofs.finding.+finding.Goals as goal

pub else_of-returns-in_ok-unless-in-Some : goal.else_of-returns-in_ok-unless-in-Some
else_of-returns-in_ok-unless-in-Some t c =
    rw c.in-Some.is (on_ok_weaker c.block.result (λ w. some_else (block_at c.deref.ensures.value c.in_ok-unless-in-Some.ensures w)) c.block.ensures)

pub else_of-returns-in-None : goal.else_of-returns-in-None
else_of-returns-in-None t c = rw c.in-None.is no_else

pub statement-returns-in_ok-locked-in-Act : goal.statement-returns-in_ok-locked-in-Act
statement-returns-in_ok-locked-in-Act t c =
    rw c.in-Act.is (on_ok_weaker c.else_of.result (λ w. act (named_at refl c.declared.ensures c.in_ok-named-in-Act.ensures) c.in_ok-locked-in-Act.ensures c.action_may_fail.ensures w) c.else_of.ensures)

pub statement-returns-in_ok-named-in-Try : goal.statement-returns-in_ok-named-in-Try
statement-returns-in_ok-named-in-Try t c =
    rw c.in-Try.is (on_ok_weaker c.block-in-Try.result (λ w.
    try c.in-Try.body c.in-Try.handler (fails_at c.deref.ensures.value c.block_may_fail-may_fail.ensures)
    (block_at c.deref-in-Try.ensures.value c.in_ok-unless-in-Try.ensures c.in_ok-block-in-Try.ensures) (named_at c.deref-in-Try-2.ensures.value refl c.in_ok-named-in-Try.ensures) (block_at c.deref-in-Try-3.ensures.value refl w)) c.block-in-Try.ensures)

pub statement-returns-in_ok-block-in-If : goal.statement-returns-in_ok-block-in-If
statement-returns-in_ok-block-in-If t c =
    rw c.in-If.is (on_ok_weaker c.block-in-If-2.result (λ w.
    if c.in-If.body c.in-If.otherwise (asked_at c.deref-in-If.ensures.value c.in_ok-asked-in-If.ensures) (block_at c.deref-in-If-2.ensures.value refl c.in_ok-block-in-If.ensures)
    (block_at c.deref-in-If-3.ensures.value refl w)) c.block-in-If-2.ensures)

pub statement-returns-in-Repeat : goal.statement-returns-in-Repeat
statement-returns-in-Repeat t c =
    rw c.in-Repeat.is (on_ok_weaker c.block-in-Repeat.result (λ w. repeat c.in-Repeat.body (block_at c.deref-in-Repeat.ensures.value refl w)) c.block-in-Repeat.ensures)

pub statement-returns-in_ok-node-in-ForEach : goal.statement-returns-in_ok-node-in-ForEach
statement-returns-in_ok-node-in-ForEach t c =
    rw c.in-ForEach.is (on_ok_weaker c.block-in-ForEach.result (λ w.
    for_each c.in-ForEach.body (named_at c.deref-in-ForEach.ensures.value refl c.in_ok-named-in-ForEach.ensures) (walks_at c.deref-in-ForEach-2.ensures.value refl c.in_ok-node-in-ForEach.ensures)
    (block_at c.deref-in-ForEach-3.ensures.value refl w)) c.block-in-ForEach.ensures)

pub statement-returns-in-Block : goal.statement-returns-in-Block
statement-returns-in-Block t c =
    rw c.in-Block.is (on_ok_weaker c.block-in-Block.result (λ w. block_alone c.in-Block.body (block_at c.deref-in-Block.ensures.value refl w)) c.block-in-Block.ensures)

pub statement-returns-in_ok-block-in-Search-2 : goal.statement-returns-in_ok-block-in-Search-2
statement-returns-in_ok-block-in-Search-2 t c =
    rw c.in-Search.is (on_ok_weaker c.block-in-Search-3.result (λ w.
    searched c.in-Search.turns c.in-Search.hit c.in-Search.otherwise (block_at c.deref-in-Search.ensures.value refl c.in_ok-block-in-Search.ensures)
    (values_at c.deref-in-Search-3.ensures.value c.deref-in-Search-2.ensures.value c.in_ok-values-in-Search.ensures) (block_at c.deref-in-Search-4.ensures.value refl c.in_ok-block-in-Search-2.ensures)
    (block_at c.deref-in-Search-5.ensures.value refl w)) c.block-in-Search-3.ensures)

pub block-loop-index-preserved : goal.block-loop-index-preserved
block-loop-index-preserved t c =
    block_next c.args.statements.now c.loop-index.index c.index-statements-index.result _ (omega arith) c.index-statements-index.is
    (all_left c.args.statements.now c.loop-index.index) c.in_ok-statement.ensures c.loop-index.invariant

pub block-returns : goal.block-returns
block-returns t c = block_end c.args.statements.now c.loop-index.index c.loop-index.found.items (omega arith) c.loop-index.invariant
