use Rattle.std.proofs.Common.{◌≡◌, false, refl, sym, ◌∙◌}
use Rattle.std.proofs.lemmas.Bool.{both_ways}
use Rattle.tl_machine.specs.declared.want.Stop.TheVariants as stop
use Rattle.tl_audit.proofs.ReplayLemmas.{on_lock, lock_next}
use Rattle.tl_audit.proofs.genuine.locks.Goals as goal

pub returns-in_default : goal.returns-in_default
returns-in_default c = record {
  parents = c.wait.ensures.parents;
  on = λ no. absurd (both_ways false refl no);
  other = λ _ t whole later so_far on is.
      c.in_default.not-Lock c.args.node
      (lock_next t whole so_far c.wait.new.turn (c.wait.ensures.on t whole so_far on) c.wait.result c.wait.ensures.stops later c.args.node c.args.found is);
}

pub returns-then-wanted-node-clause-other : goal.returns-then-wanted-node-clause-other
returns-then-wanted-node-clause-other c _ t whole later so_far on is =
    let next = lock_next t whole so_far c.wait.new.turn (c.wait.ensures.on t whole so_far on) c.wait.result c.wait.ensures.stops later c.args.node c.args.found is in
    let same : stop.Lock c.in-Lock.wanted ≡ stop.Lock c.args.node = sym c.in-Lock.is ∙ next in
    c.if-wanted-node.true cc

pub returns-clause-on : goal.returns-clause-on
returns-clause-on c _ t whole so_far fit on =
    on_lock t whole so_far c.wait.new.turn (c.wait.ensures.on t whole so_far on) c.lock_node.new.self c.lock_node.ensures.same c.args.node c.args.found fit c.lock_node.ensures.locks
