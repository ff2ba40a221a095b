use Rattle.tl_warnings.specs.Locking.{lets, assigns, writes, emits, requires, locks, descends, takes, frees, leaves, fails_with, breaks_with, uses}
use Rattle.tl_warnings.proofs.ReadingLemmas.{any_at}
use Rattle.tl_warnings.proofs.locking.action_locks.Goals as goal

pub returns-in-Let : goal.returns-in-Let
returns-in-Let c = rw c.in-Let.is lets

pub returns-in-Assign : goal.returns-in-Assign
returns-in-Assign c = rw c.in-Assign.is assigns

pub returns-in-Write : goal.returns-in-Write
returns-in-Write c = rw c.in-Write.is writes

pub returns-in-Emit : goal.returns-in-Emit
returns-in-Emit c = rw c.in-Emit.is emits

pub returns-in-Require : goal.returns-in-Require
returns-in-Require c = rw c.in-Require.is requires

pub returns-in-Lock : goal.returns-in-Lock
returns-in-Lock c = rw (c.in-Lock.is, c.place_locks.ensures) locks

pub returns-in-Descend : goal.returns-in-Descend
returns-in-Descend c = rw c.in-Descend.is descends

pub returns-in-Take : goal.returns-in-Take
returns-in-Take c = rw c.in-Take.is takes

pub returns-in-Free : goal.returns-in-Free
returns-in-Free c = rw c.in-Free.is frees

pub returns-in-Leave : goal.returns-in-Leave
returns-in-Leave c = rw c.in-Leave.is leaves

pub returns-in-Use : goal.returns-in-Use
returns-in-Use c = rw c.in-Use.is (uses (any_at c.deref.ensures.value c.any_reads.ensures))

pub returns-in-Fail : goal.returns-in-Fail
returns-in-Fail c = rw c.in-Fail.is fails_with

pub returns-in-BreakWith : goal.returns-in-BreakWith
returns-in-BreakWith c = rw c.in-BreakWith.is breaks_with
