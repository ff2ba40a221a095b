use Rattle.std.proofs.Common.{sym, subst}
use Rattle.tl_machine.specs.Turns.{TurnValue, HasRun}
use Rattle.tl_machine.proofs.TurnLemmas.{stopped}
use Rattle.tl_machine.proofs.segment.Segment.into_lent.Goals as goal

pub returns-clause-run : goal.returns-clause-run
returns-clause-run c =
    let i = c.self.invariant in
    let run = λ (t : TurnValue). HasRun (record { code = t.code; from = t.call; to = c.self.inside.to }) in
    let from = c.self.inside.from in
    rw c.new-lent.ensures
    (subst run (sym c.into_parts-procedure.ensures.parts) (record { follows = i.follows; stop = stopped from.code.instrs from.parents c.self.inside.to c.self.inside.stop i.to i.stop }))
