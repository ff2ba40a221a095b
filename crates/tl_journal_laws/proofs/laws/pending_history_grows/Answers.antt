use Rattle.tl_journal_laws.proofs.Behind.{through_behind}
use Rattle.tl_journal_laws.proofs.laws.pending_history_grows.Goals as goal

pub returns : goal.returns
returns c = λ contents t es over epochs unread current v old new behind are whole done is accepted adds few. through_behind contents t es over epochs unread current v old new behind are whole done is accepted adds few
