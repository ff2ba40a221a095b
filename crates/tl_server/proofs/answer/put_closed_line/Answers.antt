use Rattle.tl_server.proofs.Sending.{writes_then}
use Rattle.tl_server.proofs.answer.put_closed_line.Goals as goal

pub returns : goal.returns
returns g c = writes_then c.put.ensures c.put-2.ensures
