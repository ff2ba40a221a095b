use Rattle.std.proofs.Common.{ℕ, ◌<◌}
use Rattle.std.specs.Prelude.{slice_index_or}
use Rattle.tl_workers.specs.Kept.{SessionValue}
use Rattle.tl_workers.specs.Matching.{Matches}
use Rattle.tl_workers.proofs.matching.all_match.Given as goal

abbrev pub invariant-loop-session : goal.invariant-loop-session
invariant-loop-session l = (k : ℕ) (d : SessionValue) → k < l.session-index → Matches l.chain (slice_index_or l.sessions k d)
