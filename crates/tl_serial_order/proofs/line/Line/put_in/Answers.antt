use Rattle.std.proofs.Common.{sym}
use Rattle.tl_serial_order.proofs.Lines.{line_more}
use Rattle.tl_serial_order.proofs.line.Line.put_in.Goals as goal

pub invariant_of-self-2 : goal.invariant_of-self-2
invariant_of-self-2 c =
    let requires = rw (sym c.self.view_is) at c.requires in
    rw c.in_ok-insert.ensures.items
    (line_more c.self.inside.order.items c.self.inside.standing.items c.args.place c.args.call requires.call requires.new c.self.invariant)
