use Rattle.tl_workers.proofs.AllSessions.{finds_its_writes}
use Rattle.tl_workers.proofs.laws.sessions_find_their_writes.Goals as goal

pub returns : goal.returns
returns c = finds_its_writes
