use Rattle.tl_machine.proofs.LockFreeEnd.{frees}
use Rattle.tl_machine.proofs.BetweenStepsLemmas.{at_lent, steps_short}
use Rattle.tl_machine.proofs.call.CallState.free.Goals as goal

pub go_to-requires : goal.go_to-requires
go_to-requires c = steps_short _ _ _ c.code.ensures.valid c.code.ensures.accepted c.requires.stands _ (at_lent _ _ _ _ _ _ c.instrs.ensures.value c.code.ensures.value c.requires.stands.inside c.in-Release.is)

pub returns-clause-frees : goal.returns-clause-frees
returns-clause-frees c =
    let at = at_lent _ _ _ _ _ _ c.instrs.ensures.value c.code.ensures.value c.requires.stands.inside c.in-Release.is in
    let holds = rw c.index.ensures.same at c.in-Some.is in
    let new = rw c.index-2.ensures.same at c.go_to.ensures in (
      c.in-Some.held,
      record { register = c.in-Release.node; at = at; held = holds },
      frees _ c.args.shape.now c.code.ensures.accepted c.args.self.now c.requires.stands c.in-Release.node c.in-Some.held at holds _ new,
    )

pub returns-clause-exact : goal.returns-clause-exact
returns-clause-exact c =
    rw (at_lent _ _ _ _ _ _ c.instrs.ensures.value c.code.ensures.value c.requires.stands.inside c.in-Release.is)
    (rw c.index-2.ensures.same at c.go_to.ensures)
