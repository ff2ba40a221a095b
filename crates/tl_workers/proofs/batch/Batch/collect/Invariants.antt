use Rattle.std.proofs.Common.{◌≡◌, ◌≤◌, length, take, vec_len}
use Rattle.std.specs.Prelude.{vec_capacity}
use Rattle.tl_workers.specs.Kept.{ReceiptsEach}
use Rattle.tl_workers.proofs.batch.Batch.collect.Given as goal

abbrev pub invariant-loop-one : goal.invariant-loop-one
invariant-loop-one g l = ReceiptsEach (take l.one-index l.admitted) l.answers.items × (vec_len l.answers ≡ l.one-index) × (length l.answers.items ≡ l.one-index) × (length l.admitted ≤ vec_capacity l.answers)
