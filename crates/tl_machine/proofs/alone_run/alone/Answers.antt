use Rattle.std.proofs.Common.{rules, sym, subst, ◌∙◌, ◌≤◌, ℕ, List, length, ℤ}
use Rattle.std.specs.Arc.{arc_value}
use Rattle.tl_tree.specs.Shape.{IsTree}
use Rattle.tl_instr.specs.Codes.{CodeValue, IsCode}
use Rattle.tl_budget.specs.Loops.{emit_bound}
use Rattle.tl_verify.specs.Acceptable.{Acceptable}
use Rattle.tl_tree_locking.proofs.ObeysByPlaces.{obeys_alone}
use Rattle.tl_machine.specs.BetweenSteps.{IsBetweenSteps}
use Rattle.tl_machine.specs.Outcomes.{meaning}
use Rattle.tl_machine.proofs.StartLemmas.{is_alone, few_locks, few_values}
use Rattle.tl_machine.proofs.alone_run.alone.Goals as goal

pub run-requires-clause-stands : goal.run-requires-clause-stands
run-requires-clause-stands c =
    subst (λ (parents : List ℕ). IsBetweenSteps c.deref-5.result.now.instrs parents c.in_ok-call.call) (c.deref-2.ensures ∙ c.shape.ensures.shape)
    (subst (λ (p : CodeValue). IsBetweenSteps p.instrs c.deref-2.result.now c.in_ok-call.call) (c.deref.ensures ∙ sym c.deref-5.ensures) c.in_ok-call.ensures.stands)

pub returns-clause-answer : goal.returns-clause-answer
returns-clause-answer c = search rules

pub returns-clause-obeys : goal.returns-clause-obeys
returns-clause-obeys c =
    let code = arc_value c.args.procedure.now in
    let valid = subst IsCode c.deref-3.ensures c.code-fact.ensures.valid in
    let accepted = subst (λ (p : CodeValue). Acceptable p.instrs) c.deref-3.ensures c.code-fact.ensures.accepted in
    let tree = subst IsTree (c.deref-4.ensures ∙ c.shape-2.ensures.shape) c.node_count-fact.ensures.tree in
    obeys_alone _ (meaning code.instrs c.args.tree.now.parents c.args.args.now) (is_alone code c.args.tree.now.parents c.args.args.now valid accepted tree) c.args.tree.now.records c.shape.ensures.whole.count

pub returns-clause-locks : goal.returns-clause-locks
returns-clause-locks c =
    let code = arc_value c.args.procedure.now in
    let valid = subst IsCode c.deref-3.ensures c.code-fact.ensures.valid in
    let accepted = subst (λ (p : CodeValue). Acceptable p.instrs) c.deref-3.ensures c.code-fact.ensures.accepted in
    let tree = subst IsTree (c.deref-4.ensures ∙ c.shape-2.ensures.shape) c.node_count-fact.ensures.tree in
    few_locks code valid accepted c.args.tree.now.parents tree c.args.args.now c.args.tree.now.records c.shape.ensures.whole.count

pub returns-clause-emits : goal.returns-clause-emits
returns-clause-emits c =
    let code = arc_value c.args.procedure.now in
    let valid = subst IsCode c.deref-3.ensures c.code-fact.ensures.valid in
    let accepted = subst (λ (p : CodeValue). Acceptable p.instrs) c.deref-3.ensures c.code-fact.ensures.accepted in
    let tree = subst IsTree (c.deref-4.ensures ∙ c.shape-2.ensures.shape) c.node_count-fact.ensures.tree in
    let few = few_values code valid accepted c.args.tree.now.parents tree c.args.args.now c.args.tree.now.records c.shape.ensures.whole.count in
    let answer = returns-clause-answer c in
    subst (λ (reply : List ℤ). length reply ≤ emit_bound code.instrs) (sym answer.reply_is) few
