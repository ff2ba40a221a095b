use Rattle.tl_machine.proofs.turn.Turn.advance.Goals as goal

pub stop_at-requires-clause-stops : goal.stop_at-requires-clause-stops
stop_at-requires-clause-stops c =
    let e = c.in-Err.ensures in
    rw (c.deref-in-Err.ensures, e.unchanged) (rw c.deref.ensures at e.stops)
