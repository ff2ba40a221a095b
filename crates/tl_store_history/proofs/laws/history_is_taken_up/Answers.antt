use Rattle.std.proofs.Common.{refl}
use Rattle.tl_rows.specs.Batches.{batch_of}
use Rattle.tl_store_history.proofs.Whole.{history_seals}
use Rattle.tl_store_history.proofs.Starts.{history_rests, closing_ends}
use Rattle.tl_store_history.proofs.laws.history_is_taken_up.Goals as goal

pub returns-clause-closed : goal.returns-clause-closed
returns-clause-closed c = λ contents rows t es v w news h made reached rebuilt stored closing whole. (
  record { added = h.added; core = w },
  refl,
  history_seals contents (batch_of news) t es v w h made.later reached made.at_rest (closing_ends contents rows t es v w news h made reached rebuilt stored closing whole),
)

pub returns-clause-kept : goal.returns-clause-kept
returns-clause-kept c = λ contents t es v w h reached_v reached_w made none. history_rests contents t es v w h reached_v reached_w made none
