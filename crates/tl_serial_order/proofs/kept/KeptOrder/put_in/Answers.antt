use Rattle.std.proofs.Common.{true, length, sym, ap, ◌∙◌, arith}
use Rattle.std.proofs.lemmas.List.{length-set}
use Rattle.std.proofs.lemmas.List.Edits.{length-insert}
use Rattle.tl_serial_order.proofs.Lines.{line_more}
use Rattle.tl_serial_order.proofs.Marks.{trues-one_more, trues-room}
use Rattle.tl_serial_order.proofs.kept.KeptOrder.put_in.Goals as goal

pub put_in-requires-clause-room : goal.put_in-requires-clause-room
put_in-requires-clause-room c =
    let requires = rw (sym c.self.view_is) at c.requires in
    let column = c.self.inside.standing.items in
    let free = sym (c.self.invariant.0.standing c.args.call) ∙ requires.new in
    let fewer = trues-room column c.args.call requires.call free in
    omega (arith, fewer, c.self.invariant.1, c.self.invariant.2)

pub invariant_of-self : goal.invariant_of-self
invariant_of-self c =
    let requires = rw (sym c.self.view_is) at c.requires in
    let order = c.self.inside.order.calls in
    let column = c.self.inside.standing.items in
    let free = sym (c.self.invariant.0.standing c.args.call) ∙ requires.new in
    let more = trues-one_more column c.args.call requires.call free in
    let longer = length-insert order c.args.place c.args.call requires.place in
    let size = length-set column c.args.call true in
    let now = ap length c.put_in.ensures.calls in (
      rw c.put_in.ensures.calls (line_more order column c.args.place c.args.call requires.call requires.new c.self.invariant.0),
      omega (arith, more, longer, now, c.self.invariant.1),
      omega (arith, size, c.put_in.ensures.capacity, c.self.invariant.2),
      c.self.invariant.3,
      omega (arith, size, c.self.invariant.4),
    )
