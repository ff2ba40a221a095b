use Rattle.std.proofs.Common.{length, sym}
use Rattle.tl_serial_order.specs.Kept.{KeptValue}
use Rattle.tl_serial_order.proofs.KeptOrders.{kept_again}
use Rattle.tl_serial_order.proofs.kept.KeptOrder.lock_again.Goals as goal

pub returns-clause-kept : goal.returns-clause-kept
returns-clause-kept c parents past found tree there kept legal =
    let k : KeptValue = record { order = c.self.inside.order; calls = length c.self.inside.standing.items; holders = c.self.inside.holders; under = c.self.inside.under } in
    let stays = rw (sym c.self.view_is) at there in
    let before = rw (sym c.self.view_is) at kept in
    rw (c.hold.ensures, c.put.ensures) (kept_again parents tree k past c.args.call c.args.node found stays before legal)
