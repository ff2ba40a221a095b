use Rattle.tl_server.proofs.Sending.{writes_then}
use Rattle.tl_server.proofs.answer.BoundsPart.put.Goals as goal

pub returns : goal.returns
returns g c =
    writes_then (writes_then (writes_then (writes_then (writes_then (writes_then c.put.ensures c.put_number.ensures) c.put-2.ensures) c.put_number-2.ensures) c.put-3.ensures) c.put_number-3.ensures) c.put-4.ensures
