use Rattle.std.proofs.Common.{◌∙◌, ap}
use Rattle.tl_lowering.specs.Entering.{entered_of}
use Rattle.tl_lowering.specs.Passing.{either_entered}
use Rattle.tl_lowering.specs.Scopes.{view_of, IsLowered}
use Rattle.tl_lowering.proofs.EnterLemmas.{if_entering, lock_entering}
use Rattle.tl_lowering.proofs.LoweringLemmas.{chosen_if_of, chosen_lock_of}
use Rattle.tl_lowering.proofs.OpeningLemmas.{chooses_if, chooses_lock}
use Rattle.tl_lowering.proofs.lowering.Lowering.chosen.Goals as goal

pub returns-in-Condition-clause-lowered : goal.returns-in-Condition-clause-lowered
returns-in-Condition-clause-lowered c =
    let testable = rw c.in-Condition.is at c.requires.entrance in
    let inside = rw c.in-Condition.is at c.requires.first in
    let first : IsLowered (view_of c.args.self.now.scope) c.args.held c.args.first.0 c.args.first.1 = record { sound = inside.sound; paths = inside.paths } in
    chosen_if_of (view_of c.args.self.now.scope) c.args.held c.args.first.0 c.args.second.0 c.args.first.1 c.args.second.1 c.in-Condition.condition
    c.asked.result c.or.result c.or-flow.result c.in_ok-first.first.value c.in_ok-second.second.value c.in_ok-first.ensures c.in_ok-second.ensures
    testable first c.requires.second c.asked.ensures.paths c.or.ensures.paths c.or-flow.ensures.paths

pub returns-in-Lock-clause-lowered : goal.returns-in-Lock-clause-lowered
returns-in-Lock-clause-lowered c =
    let locking = rw c.in-Lock.is at c.requires.entrance in
    let inside = rw c.in-Lock.is at c.requires.first in
    chosen_lock_of (view_of c.args.self.now.scope) c.args.held c.args.first.0 c.args.second.0 c.args.first.1 c.args.second.1 c.in-Lock.locking.place
    c.keeping.result c.or-flow-in-Lock.result c.in_ok-first.first.value c.in_ok-second.second.value c.in_ok-first.ensures c.in_ok-second.ensures
    c.requires.at locking.lockable locking.next inside.sound inside.paths c.requires.second c.keeping.ensures.paths c.or-flow-in-Lock.ensures.paths

pub returns-in-Condition-clause-named : goal.returns-in-Condition-clause-named
returns-in-Condition-clause-named c = rw c.in-Condition.is (chooses_if c.in_ok-first.ensures c.in_ok-second.ensures)

pub returns-in-Lock-clause-named : goal.returns-in-Lock-clause-named
returns-in-Lock-clause-named c = rw c.in-Lock.is (chooses_lock c.in-Lock.locking c.in_ok-first.ensures c.in_ok-second.ensures)

pub returns-in-Condition-clause-entering : goal.returns-in-Condition-clause-entering
returns-in-Condition-clause-entering c =
    if_entering (chooses_if {c = c.in-Condition.condition} c.in_ok-first.ensures c.in_ok-second.ensures) (rw c.in-Condition.is at c.requires.first_entering) c.requires.second_entering
    (c.or-flow.ensures.entered ∙ ap (λ x. either_entered x (entered_of c.args.second.1)) (c.or.ensures.entered ∙ ap (λ x. either_entered x (entered_of c.args.first.1)) c.asked.ensures.entered))

pub returns-in-Lock-clause-entering : goal.returns-in-Lock-clause-entering
returns-in-Lock-clause-entering c =
    lock_entering c.in-Lock.locking (chooses_lock c.in-Lock.locking c.in_ok-first.ensures c.in_ok-second.ensures) (rw c.in-Lock.is at c.requires.entering) (rw c.in-Lock.is at c.requires.first_entering)
    c.requires.second_entering (c.or-flow-in-Lock.ensures.entered ∙ ap (λ x. either_entered x (entered_of c.args.second.1)) c.keeping.ensures.entered)
