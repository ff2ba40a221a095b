use Rattle.std.proofs.Common.{ℕ, ◌<◌, ◌≤◌}
use Rattle.tl_workers.specs.Kept.{AsksAt}
use Rattle.tl_workers.proofs.matching.was_asked.Given as goal

abbrev pub invariant-loop-left : goal.invariant-loop-left
invariant-loop-left l = (l.left ≤ l.place) × ((i : ℕ) → l.left ≤ i → i < l.place → AsksAt l.session.kept i l.epoch l.call → ⊥)

abbrev pub decreases-loop-left : goal.decreases-loop-left
decreases-loop-left l = l.left
