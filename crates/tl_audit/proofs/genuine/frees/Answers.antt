use Rattle.std.proofs.Common.{◌≡◌, false, ◌∷◌, refl, sym, ap, ◌∙◌, subst}
use Rattle.std.specs.Cmp.Rules.{signed_items}
use Rattle.std.proofs.lemmas.Bool.{both_ways}
use Rattle.tl_tree_locking.specs.declared.action.Action.TheVariants as did
use Rattle.tl_machine.specs.BetweenSteps.{Frees}
use Rattle.tl_machine.specs.Turns.{Stops}
use Rattle.tl_machine.specs.declared.want.Stop.TheVariants as stop
use Rattle.tl_audit.specs.Genuine.{IsOn}
use Rattle.tl_audit.proofs.ReplayLemmas.{on_free, free_next, freed_next, one_free}
use Rattle.tl_audit.proofs.genuine.frees.Goals as goal

pub returns-in_default : goal.returns-in_default
returns-in_default c = record {
  parents = c.wait.ensures.parents;
  on = λ no. absurd (both_ways false refl no);
  other = λ _ t whole later so_far on is.
      c.in_default.not-Free c.args.node
      (free_next t whole so_far c.wait.new.turn (c.wait.ensures.on t whole so_far on) c.wait.result c.wait.ensures.stops later c.args.node c.args.left.now is);
}

pub returns-then-wanted-node-clause-on : goal.returns-then-wanted-node-clause-on
returns-then-wanted-node-clause-on c same t whole so_far on =
    let turn = c.wait.new.turn in
    let waits = c.wait.ensures.on t whole so_far on in
    let stops : Stops turn (stop.Free c.args.node) = subst (Stops turn) (c.in-Free.is ∙ ap stop.Free c.if-wanted-node.true) c.wait.ensures.stops in
    let frees = c.free.ensures.frees in
    let node = one_free turn t waits.size frees.0 c.args.node frees.1 stops in
    let left = (signed_items c.free.result c.args.left.now).0 (sym c.eq.ensures ∙ same) in
    subst (λ r. IsOn t whole (did.Free c.args.node r ∷ so_far) c.free.new.self) left
    (on_free t whole so_far turn waits c.free.new.self c.free.ensures.same c.args.node c.free.result
    (subst (λ x. Frees turn.code.instrs turn.parents turn.call x c.free.result c.free.new.self.call) node frees.2))

pub returns-then-wanted-node-clause-other : goal.returns-then-wanted-node-clause-other
returns-then-wanted-node-clause-other c other t whole later so_far on is =
    let turn = c.wait.new.turn in
    let waits = c.wait.ensures.on t whole so_far on in
    let stops : Stops turn (stop.Free c.args.node) = subst (Stops turn) (c.in-Free.is ∙ ap stop.Free c.if-wanted-node.true) c.wait.ensures.stops in
    let frees = c.free.ensures.frees in
    let node = one_free turn t waits.size frees.0 c.args.node frees.1 stops in
    let left = freed_next t whole so_far turn waits c.args.node c.free.result c.free.new.self.call
    (subst (λ x. Frees turn.code.instrs turn.parents turn.call x c.free.result c.free.new.self.call) node frees.2) later c.args.left.now is in
    absurd (both_ways c.eq.result other (c.eq.ensures ∙ (signed_items c.free.result c.args.left.now).1 left))

pub returns-else-wanted-node-clause-other : goal.returns-else-wanted-node-clause-other
returns-else-wanted-node-clause-other c _ t whole later so_far on is =
    let next = free_next t whole so_far c.wait.new.turn (c.wait.ensures.on t whole so_far on) c.wait.result c.wait.ensures.stops later c.args.node c.args.left.now is in
    let same : stop.Free c.in-Free.wanted ≡ stop.Free c.args.node = sym c.in-Free.is ∙ next in
    c.if-wanted-node.false cc
