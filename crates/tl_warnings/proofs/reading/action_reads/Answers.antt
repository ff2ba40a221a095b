use Rattle.tl_warnings.specs.Reading.{lets, assigns, writes, emits, requires, locks, descends, takes, frees, leaves, fails_with, breaks_with, uses}
use Rattle.tl_warnings.proofs.ReadingLemmas.{any_at, writes_at}
use Rattle.tl_warnings.proofs.reading.action_reads.Goals as goal

pub returns-in-Let : goal.returns-in-Let
returns-in-Let c = rw c.in-Let.is (lets c.reads.ensures)

pub returns-in-Assign : goal.returns-in-Assign
returns-in-Assign c = rw (c.in-Assign.is, c.changes.ensures) (assigns c.reads-in-Assign.ensures)

pub returns-in-Write : goal.returns-in-Write
returns-in-Write c = rw c.in-Write.is (writes c.reads-in-Write.ensures (writes_at c.deref.ensures.value c.writes_read.ensures))

pub returns-in-Emit : goal.returns-in-Emit
returns-in-Emit c = rw c.in-Emit.is (emits (any_at c.deref-in-Emit.ensures.value c.any_reads.ensures))

pub returns-in-Require : goal.returns-in-Require
returns-in-Require c = rw c.in-Require.is (requires c.reads-in-Require.ensures c.reason_reads.ensures)

pub returns-in-Lock : goal.returns-in-Lock
returns-in-Lock c = rw c.in-Lock.is (locks c.place_reads.ensures)

pub returns-in-Descend : goal.returns-in-Descend
returns-in-Descend c = rw c.in-Descend.is (descends c.reads-in-Descend.ensures)

pub returns-in-Take : goal.returns-in-Take
returns-in-Take c = rw c.in-Take.is takes

pub returns-in-Free : goal.returns-in-Free
returns-in-Free c = rw c.in-Free.is frees

pub returns-in-Leave : goal.returns-in-Leave
returns-in-Leave c = rw c.in-Leave.is leaves

pub returns-in-Use : goal.returns-in-Use
returns-in-Use c = rw c.in-Use.is (uses (any_at c.deref-in-Use.ensures.value c.any_reads-in-Use.ensures))

pub returns-in-Fail : goal.returns-in-Fail
returns-in-Fail c = rw c.in-Fail.is (fails_with c.reads-in-Fail.ensures)

pub returns-in-BreakWith : goal.returns-in-BreakWith
returns-in-BreakWith c = rw c.in-BreakWith.is (breaks_with (any_at c.deref-in-BreakWith.ensures.value c.any_reads-in-BreakWith.ensures))
