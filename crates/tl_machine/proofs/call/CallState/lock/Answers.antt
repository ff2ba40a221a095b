use Rattle.std.proofs.Common.{refl}
use Rattle.tl_machine.proofs.BetweenStepsLemmas.{at_lent, may_go_on}
use Rattle.tl_machine.proofs.LockFreeEnd.{first_locks, lock_in}
use Rattle.tl_machine.proofs.AdvanceLemmas.{first_found, child_found, child_few, child_taken, no_other_locks}
use Rattle.tl_machine.proofs.call.CallState.lock.Goals as goal

pub bounds-instrs-self : goal.bounds-instrs-self
bounds-instrs-self c = rw (c.instrs.ensures.value, c.code.ensures.value) c.requires.stands.inside

pub kids-child_count-requires : goal.kids-child_count-requires
kids-child_count-requires c = lock_in _ _ c.requires.stands.tree _ _ c.requires.lock

pub hold-requires : goal.hold-requires
hold-requires c = may_go_on _ _ _ c.code.ensures.valid c.code.ensures.accepted c.requires.stands _ (at_lent _ _ _ _ _ _ c.instrs.ensures.value c.code.ensures.value c.requires.stands.inside c.in-First.is)

pub pass_child-requires : goal.pass_child-requires
pass_child-requires c =
    let k = child_found _ _ _ c.args.node _ _ _ _ c.requires.lock (at_lent _ _ _ _ _ _ c.instrs.ensures.value c.code.ensures.value c.requires.stands.inside c.in-Child.is) in
    (k.held, k.number, k.holds, k.value, child_few _ _ _ _ _ _ c.requires.stands k)

pub hold-requires-in-Child : goal.hold-requires-in-Child
hold-requires-in-Child c =
    let k = child_found _ _ _ c.args.node _ _ _ _ c.requires.lock (at_lent _ _ _ _ _ _ c.instrs.ensures.value c.code.ensures.value c.requires.stands.inside c.in-Child.is) in
    let m = may_go_on _ _ _ c.code.ensures.valid c.code.ensures.accepted c.requires.stands _ (at_lent _ _ _ _ _ _ c.instrs.ensures.value c.code.ensures.value c.requires.stands.inside c.in-Child.is) in
    rw (c.pass_child.ensures k.held k.number k.holds k.value) (record { position = m.position; steps = m.steps })

pub unreachable-requires : goal.unreachable-requires
unreachable-requires c =
    no_other_locks _ _ _ c.args.node _ c.requires.lock
    (at_lent _ _ _ _ _ _ c.instrs.ensures.value c.code.ensures.value c.requires.stands.inside refl)
    (λ n v l e. c.in_default.not-First n v l e) (λ n m v l e. c.in_default.not-Child n m v l e)

pub returns-in-First-clause-locks : goal.returns-in-First-clause-locks
returns-in-First-clause-locks c =
    let at = at_lent _ _ _ _ _ _ c.instrs.ensures.value c.code.ensures.value c.requires.stands.inside c.in-First.is in
    first_locks _ c.args.shape.now c.code.ensures.accepted c.args.self.now c.requires.stands c.in-First.to c.in-First.number c.in-First.otherwise c.args.node c.args.found at
    (first_found _ _ _ _ _ _ _ c.requires.lock at) _ (rw c.kids-child_count.ensures.count at c.hold.ensures)

pub returns-in-Child-clause-locks : goal.returns-in-Child-clause-locks
returns-in-Child-clause-locks c =
    let at = at_lent _ _ _ _ _ _ c.instrs.ensures.value c.code.ensures.value c.requires.stands.inside c.in-Child.is in
    let k = child_found _ _ _ c.args.node _ _ _ _ c.requires.lock at in
    child_taken _ c.args.shape.now c.code.ensures.accepted c.args.self.now c.requires.stands c.in-Child.to c.in-Child.parent c.in-Child.number c.in-Child.otherwise c.args.node c.args.found at k c.pass_child.new.call _
    (c.pass_child.ensures k.held k.number k.holds k.value) (rw c.kids-child_count.ensures.count at c.hold-in-Child.ensures)

pub returns-in-First-clause-exact : goal.returns-in-First-clause-exact
returns-in-First-clause-exact c =
    rw (at_lent _ _ _ _ _ _ c.instrs.ensures.value c.code.ensures.value c.requires.stands.inside c.in-First.is)
    (rw c.kids-child_count.ensures.count at c.hold.ensures)

pub returns-in-Child-clause-exact : goal.returns-in-Child-clause-exact
returns-in-Child-clause-exact c =
    let at = at_lent _ _ _ _ _ _ c.instrs.ensures.value c.code.ensures.value c.requires.stands.inside c.in-Child.is in
    let k = child_found _ _ _ c.args.node _ _ _ _ c.requires.lock at in
    let passed = c.pass_child.ensures k.held k.number k.holds k.value in
    rw (at, k.holds, k.value) (rw (passed, c.kids-child_count.ensures.count) at c.hold-in-Child.ensures)
