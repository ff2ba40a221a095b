use Rattle.tl_server.proofs.Sending.{writes_then}
use Rattle.tl_server.proofs.status.put_status_line.Goals as goal

pub returns : goal.returns
returns g c =
    writes_then (writes_then (writes_then (writes_then (writes_then (writes_then (writes_then (writes_then (writes_then (writes_then (writes_then (writes_then (writes_then (writes_then (writes_then (writes_then (writes_then (writes_then (writes_then (writes_then (writes_then c.put.ensures c.put_number.ensures) c.put-2.ensures) c.put_number-2.ensures) c.put-3.ensures) c.put_number-3.ensures) c.put-4.ensures) c.put_number-4.ensures) c.put-5.ensures) c.put_number-5.ensures) c.put-6.ensures) c.put_number-6.ensures) c.put-7.ensures) c.put_number-7.ensures) c.put-8.ensures) c.put_number-8.ensures) c.put-9.ensures) c.put_number-9.ensures) c.put-10.ensures) c.put_number-10.ensures) c.put-11.ensures) c.put-12.ensures
