use Rattle.std.proofs.Common.{refl}
use Rattle.tl_rows.specs.Batches.{batch_of}
use Rattle.tl_store_history.proofs.Whole.{history_seals}
use Rattle.tl_store_history.proofs.laws.history_is_sealed.Goals as goal

pub returns : goal.returns
returns c = λ contents t es v w news h later reached done ends. (record { added = h.added; core = w }, refl, history_seals contents (batch_of news) t es v w h later reached done ends)
