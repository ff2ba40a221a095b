use Rattle.tl_journal_laws.proofs.Through.{through}
use Rattle.tl_journal_laws.proofs.laws.pending_grows_through.Goals as goal

pub returns : goal.returns
returns c = λ contents over epochs unread current v old new pending later whole is accepted adds few. through contents over epochs unread current v old new pending later whole is accepted adds few
