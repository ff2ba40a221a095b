use Rattle.tl_server.proofs.Sending.{writes_then, writes_same}
use Rattle.tl_server.proofs.Later.{batch_same}
use Rattle.tl_server.proofs.answer.put_batch.Goals as goal

pub returns : goal.returns
returns g c = writes_same (writes_then (writes_then c.put.ensures c.put_list.ensures) c.put-2.ensures) (batch_same c.args.base c.args.answers.now)
