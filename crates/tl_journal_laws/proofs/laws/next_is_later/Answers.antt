use Rattle.tl_journal_laws.proofs.Through.{next_later}
use Rattle.tl_journal_laws.proofs.laws.next_is_later.Goals as goal

pub returns : goal.returns
returns c = λ n one next is. next_later n one next is
