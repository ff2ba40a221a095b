use Rattle.std.proofs.Common.{◌+◌, sym, ap, ◌∙◌, arith}
use Rattle.tl_serial_order.proofs.placing.make_room.Goals as goal

pub loop-call-preserved : goal.loop-call-preserved
loop-call-preserved c =
    let now = c.loop-call.invariant in
    let below = now.1 in
    let line = c.in_ok-add-2.ensures in
    let count = ap (λ l. l.count) line in (
      c.in_ok-add.ensures.calls ∙ ap (λ n. n + 1) now.0 ∙ sym count,
      omega (arith, count, below),
      ap (λ l. l.order) line ∙ now.2,
      λ each. c.in_ok-add.ensures.nodes (now.3 each),
      λ past shown. c.in_ok-add.ensures.more past (now.4 past shown),
    )
