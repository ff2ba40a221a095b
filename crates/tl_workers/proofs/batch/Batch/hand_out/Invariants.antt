use Rattle.std.proofs.Common.{◌≤◌, length, take}
use Rattle.std.specs.Prelude.{vec_capacity}
use Rattle.tl_workers.specs.Kept.{AdmittedEach}
use Rattle.tl_workers.specs.Refusals.{AreCallRefusals}
use Rattle.tl_workers.proofs.batch.Batch.hand_out.Given as goal

abbrev pub invariant-loop : goal.invariant-loop
invariant-loop g l =
    AdmittedEach (take (length l.admitted.items) l.self.requests.now) l.admitted.items
    × (length l.admitted.items ≤ length l.self.requests.now)
    × (length l.self.requests.now ≤ vec_capacity l.admitted)
    × AreCallRefusals l.self.engine.now.seals l.admitted.items
