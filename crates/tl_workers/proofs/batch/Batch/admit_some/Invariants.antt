use Rattle.std.proofs.Common.{◌≡◌, ◌≤◌, length, take, vec_len}
use Rattle.std.specs.Prelude.{vec_capacity}
use Rattle.tl_workers.specs.Kept.{AdmittedEach}
use Rattle.tl_workers.specs.Refusals.{AreCallRefusals}
use Rattle.tl_workers.proofs.batch.Batch.admit_some.Given as goal

abbrev pub invariant-loop-i : goal.invariant-loop-i
invariant-loop-i g l =
    AdmittedEach (take l.i l.requests) l.admitted.items
    × (length l.admitted.items ≡ l.i)
    × (vec_len l.admitted ≡ l.i)
    × (vec_capacity l.admitted ≡ vec_capacity l.fn.admitted)
    × (l.i ≤ length l.requests)
    × AreCallRefusals l.self.engine.now.seals l.admitted.items
