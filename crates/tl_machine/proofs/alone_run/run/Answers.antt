use Rattle.std.proofs.Common.{refl, sym, ap, ◌∙◌, ℕ, List, [], take}
use Rattle.tl_tree.specs.Trees.{TreeValue}
use Rattle.tl_tree.specs.Records.{Records}
use Rattle.tl_machine.specs.declared.want.Stop.TheVariants as stop
use Rattle.tl_machine.proofs.RunFromStart.{still, turn_of, stands_at, follows_on, follows_steps, lock_at, lock_inside, lock_on, free_at, free_inside, free_on, return_at, return_on, more_left, all_done, stop_is}
use Rattle.tl_machine.proofs.alone_run.run.Goals as goal

pub loop-node-init : goal.loop-node-init
loop-node-init c = record {
  under_way = still (record { done = []; same = refl; steps = sym c.requires.steps; reply = sym (ap (λ n. take n c.args.call.emitted) c.requires.emits); stands = c.requires.stands });
  shape = refl;
}

pub run_local-pending-requires : goal.run_local-pending-requires
run_local-pending-requires c = (c.loop-node.tree.parents, turn_of _ _ _ _ _ c.loop-node.invariant.under_way)

pub stop_at-requires-clause-turn : goal.stop_at-requires-clause-turn
stop_at-requires-clause-turn c =
    rw (c.deref.ensures ∙ c.shape.ensures.shape)
    (turn_of _ _ _ _ _ (follows_on _ _ _ _ _ c.shape.ensures.whole.count c.loop-node.invariant.under_way c.run_local-pending.new.self c.run_local-pending.ensures.follows))

pub record_at-found-requires : goal.record_at-found-requires
record_at-found-requires c =
    let same = c.deref.ensures ∙ c.shape.ensures.shape in
    let u = follows_on _ _ _ _ _ c.shape.ensures.whole.count c.loop-node.invariant.under_way c.run_local-pending.new.self c.run_local-pending.ensures.follows in
    let wants = stop_is c.args.procedure.now.instrs c.loop-node.tree.parents c.run_local-pending.new.self (stop.Lock c.in-Lock.node) _ c.in-Lock.is (rw same at c.stop_at.ensures) in
    let st = stands_at _ _ _ _ _ c.shape.ensures.whole.count (stop.Lock c.in-Lock.node) u (λ e. cc) wants in
    lock_inside _ _ _ _ _ c.shape.ensures.whole.count u st _ wants

pub lock-requires-clause-stands : goal.lock-requires-clause-stands
lock-requires-clause-stands c =
    let same = c.deref.ensures ∙ c.shape.ensures.shape in
    let u = follows_on _ _ _ _ _ c.shape.ensures.whole.count c.loop-node.invariant.under_way c.run_local-pending.new.self c.run_local-pending.ensures.follows in
    let wants = stop_is c.args.procedure.now.instrs c.loop-node.tree.parents c.run_local-pending.new.self (stop.Lock c.in-Lock.node) _ c.in-Lock.is (rw same at c.stop_at.ensures) in
    let st = stands_at _ _ _ _ _ c.shape.ensures.whole.count (stop.Lock c.in-Lock.node) u (λ e. cc) wants in
    let again = c.deref-in-Lock.ensures ∙ c.shape-in-Lock.ensures.shape in
    rw again st

pub lock-requires-clause-lock : goal.lock-requires-clause-lock
lock-requires-clause-lock c =
    let same = c.deref.ensures ∙ c.shape.ensures.shape in
    let u = follows_on _ _ _ _ _ c.shape.ensures.whole.count c.loop-node.invariant.under_way c.run_local-pending.new.self c.run_local-pending.ensures.follows in
    let wants = stop_is c.args.procedure.now.instrs c.loop-node.tree.parents c.run_local-pending.new.self (stop.Lock c.in-Lock.node) _ c.in-Lock.is (rw same at c.stop_at.ensures) in
    let st = stands_at _ _ _ _ _ c.shape.ensures.whole.count (stop.Lock c.in-Lock.node) u (λ e. cc) wants in
    let again = c.deref-in-Lock.ensures ∙ c.shape-in-Lock.ensures.shape in
    rw again (lock_at _ _ _ _ _ c.shape.ensures.whole.count u st _ wants)

pub loop-node-smaller-in-Lock : goal.loop-node-smaller-in-Lock
loop-node-smaller-in-Lock c =
    let same = c.deref.ensures ∙ c.shape.ensures.shape in
    let u = follows_on _ _ _ _ _ c.shape.ensures.whole.count c.loop-node.invariant.under_way c.run_local-pending.new.self c.run_local-pending.ensures.follows in
    let wants = stop_is c.args.procedure.now.instrs c.loop-node.tree.parents c.run_local-pending.new.self (stop.Lock c.in-Lock.node) _ c.in-Lock.is (rw same at c.stop_at.ensures) in
    let st = stands_at _ _ _ _ _ c.shape.ensures.whole.count (stop.Lock c.in-Lock.node) u (λ e. cc) wants in
    let again = c.deref-in-Lock.ensures ∙ c.shape-in-Lock.ensures.shape in
    more_left _ _ _ _ _ c.shape.ensures.whole.count u st c.loop-node.call c.lock.new.self (follows_steps _ _ _ _ (turn_of _ _ _ _ _ c.loop-node.invariant.under_way) c.run_local-pending.ensures.follows) c.lock.ensures.locks.counts.steps

pub loop-node-preserved-in-Lock : goal.loop-node-preserved-in-Lock
loop-node-preserved-in-Lock c =
    let same = c.deref.ensures ∙ c.shape.ensures.shape in
    let u = follows_on _ _ _ _ _ c.shape.ensures.whole.count c.loop-node.invariant.under_way c.run_local-pending.new.self c.run_local-pending.ensures.follows in
    let wants = stop_is c.args.procedure.now.instrs c.loop-node.tree.parents c.run_local-pending.new.self (stop.Lock c.in-Lock.node) _ c.in-Lock.is (rw same at c.stop_at.ensures) in
    let st = stands_at _ _ _ _ _ c.shape.ensures.whole.count (stop.Lock c.in-Lock.node) u (λ e. cc) wants in
    let again = c.deref-in-Lock.ensures ∙ c.shape-in-Lock.ensures.shape in
    record {
      under_way = lock_on _ _ _ _ _ c.shape.ensures.whole.count u st _ _ c.lock.new.self c.record_at-found.ensures (rw again at c.lock.ensures.locks);
      shape = c.loop-node.invariant.shape;
    }

pub free-left-requires-clause-stands : goal.free-left-requires-clause-stands
free-left-requires-clause-stands c =
    let same = c.deref.ensures ∙ c.shape.ensures.shape in
    let u = follows_on _ _ _ _ _ c.shape.ensures.whole.count c.loop-node.invariant.under_way c.run_local-pending.new.self c.run_local-pending.ensures.follows in
    let wants = stop_is c.args.procedure.now.instrs c.loop-node.tree.parents c.run_local-pending.new.self (stop.Free c.in-Free.node) _ c.in-Free.is (rw same at c.stop_at.ensures) in
    let st = stands_at _ _ _ _ _ c.shape.ensures.whole.count (stop.Free c.in-Free.node) u (λ e. cc) wants in
    let again = c.deref-in-Free.ensures ∙ c.shape-in-Free.ensures.shape in
    rw again st

pub free-left-requires-clause-free : goal.free-left-requires-clause-free
free-left-requires-clause-free c =
    let same = c.deref.ensures ∙ c.shape.ensures.shape in
    let u = follows_on _ _ _ _ _ c.shape.ensures.whole.count c.loop-node.invariant.under_way c.run_local-pending.new.self c.run_local-pending.ensures.follows in
    let wants = stop_is c.args.procedure.now.instrs c.loop-node.tree.parents c.run_local-pending.new.self (stop.Free c.in-Free.node) _ c.in-Free.is (rw same at c.stop_at.ensures) in
    let st = stands_at _ _ _ _ _ c.shape.ensures.whole.count (stop.Free c.in-Free.node) u (λ e. cc) wants in
    let at = free_at _ _ _ _ _ c.shape.ensures.whole.count u st _ wants in
    (at.0, at.1)

pub put_at-requires : goal.put_at-requires
put_at-requires c =
    let same = c.deref.ensures ∙ c.shape.ensures.shape in
    let u = follows_on _ _ _ _ _ c.shape.ensures.whole.count c.loop-node.invariant.under_way c.run_local-pending.new.self c.run_local-pending.ensures.follows in
    let wants = stop_is c.args.procedure.now.instrs c.loop-node.tree.parents c.run_local-pending.new.self (stop.Free c.in-Free.node) _ c.in-Free.is (rw same at c.stop_at.ensures) in
    let st = stands_at _ _ _ _ _ c.shape.ensures.whole.count (stop.Free c.in-Free.node) u (λ e. cc) wants in
    free_inside _ _ _ _ _ c.shape.ensures.whole.count u st _ wants

pub loop-node-smaller-in-Free : goal.loop-node-smaller-in-Free
loop-node-smaller-in-Free c =
    let same = c.deref.ensures ∙ c.shape.ensures.shape in
    let u = follows_on _ _ _ _ _ c.shape.ensures.whole.count c.loop-node.invariant.under_way c.run_local-pending.new.self c.run_local-pending.ensures.follows in
    let wants = stop_is c.args.procedure.now.instrs c.loop-node.tree.parents c.run_local-pending.new.self (stop.Free c.in-Free.node) _ c.in-Free.is (rw same at c.stop_at.ensures) in
    let st = stands_at _ _ _ _ _ c.shape.ensures.whole.count (stop.Free c.in-Free.node) u (λ e. cc) wants in
    let again = c.deref-in-Free.ensures ∙ c.shape-in-Free.ensures.shape in
    more_left _ _ _ _ _ c.shape.ensures.whole.count u st c.loop-node.call c.free-left.new.self (follows_steps _ _ _ _ (turn_of _ _ _ _ _ c.loop-node.invariant.under_way) c.run_local-pending.ensures.follows) c.free-left.ensures.frees.2.counts.steps

pub loop-node-preserved-in-Free : goal.loop-node-preserved-in-Free
loop-node-preserved-in-Free c =
    let same = c.deref.ensures ∙ c.shape.ensures.shape in
    let u = follows_on _ _ _ _ _ c.shape.ensures.whole.count c.loop-node.invariant.under_way c.run_local-pending.new.self c.run_local-pending.ensures.follows in
    let wants = stop_is c.args.procedure.now.instrs c.loop-node.tree.parents c.run_local-pending.new.self (stop.Free c.in-Free.node) _ c.in-Free.is (rw same at c.stop_at.ensures) in
    let st = stands_at _ _ _ _ _ c.shape.ensures.whole.count (stop.Free c.in-Free.node) u (λ e. cc) wants in
    let again = c.deref-in-Free.ensures ∙ c.shape-in-Free.ensures.shape in
    let freed = rw again at c.free-left.ensures.frees in
    rw c.put_at.ensures (record {
      under_way = free_on _ _ _ _ _ c.shape.ensures.whole.count u st c.in-Free.node freed.0 _ c.free-left.new.self wants freed.1 freed.2;
      shape = c.loop-node.invariant.shape;
    })

pub finish-requires-clause-stands : goal.finish-requires-clause-stands
finish-requires-clause-stands c =
    let same = c.deref.ensures ∙ c.shape.ensures.shape in
    let u = follows_on _ _ _ _ _ c.shape.ensures.whole.count c.loop-node.invariant.under_way c.run_local-pending.new.self c.run_local-pending.ensures.follows in
    let wants = stop_is c.args.procedure.now.instrs c.loop-node.tree.parents c.run_local-pending.new.self stop.Return _ c.in-Return.is (rw same at c.stop_at.ensures) in
    let st = stands_at _ _ _ _ _ c.shape.ensures.whole.count stop.Return u (λ e. cc) wants in
    let again = c.deref-in-Return.ensures ∙ c.shape-in-Return.ensures.shape in
    rw again st

pub finish-requires-clause-end : goal.finish-requires-clause-end
finish-requires-clause-end c =
    let same = c.deref.ensures ∙ c.shape.ensures.shape in
    let u = follows_on _ _ _ _ _ c.shape.ensures.whole.count c.loop-node.invariant.under_way c.run_local-pending.new.self c.run_local-pending.ensures.follows in
    let wants = stop_is c.args.procedure.now.instrs c.loop-node.tree.parents c.run_local-pending.new.self stop.Return _ c.in-Return.is (rw same at c.stop_at.ensures) in
    let st = stands_at _ _ _ _ _ c.shape.ensures.whole.count stop.Return u (λ e. cc) wants in
    return_at _ _ _ _ _ c.shape.ensures.whole.count u st wants

pub loop-node-smaller : goal.loop-node-smaller
loop-node-smaller c =
    let same = c.deref.ensures ∙ c.shape.ensures.shape in
    let u = follows_on _ _ _ _ _ c.shape.ensures.whole.count c.loop-node.invariant.under_way c.run_local-pending.new.self c.run_local-pending.ensures.follows in
    let wants = stop_is c.args.procedure.now.instrs c.loop-node.tree.parents c.run_local-pending.new.self stop.Return _ c.in-Return.is (rw same at c.stop_at.ensures) in
    let st = stands_at _ _ _ _ _ c.shape.ensures.whole.count stop.Return u (λ e. cc) wants in
    more_left _ _ _ _ _ c.shape.ensures.whole.count u st c.loop-node.call c.finish.new.self (follows_steps _ _ _ _ (turn_of _ _ _ _ _ c.loop-node.invariant.under_way) c.run_local-pending.ensures.follows) c.finish.ensures.counts.steps

pub loop-node-preserved : goal.loop-node-preserved
loop-node-preserved c =
    let same = c.deref.ensures ∙ c.shape.ensures.shape in
    let u = follows_on _ _ _ _ _ c.shape.ensures.whole.count c.loop-node.invariant.under_way c.run_local-pending.new.self c.run_local-pending.ensures.follows in
    let wants = stop_is c.args.procedure.now.instrs c.loop-node.tree.parents c.run_local-pending.new.self stop.Return _ c.in-Return.is (rw same at c.stop_at.ensures) in
    let st = stands_at _ _ _ _ _ c.shape.ensures.whole.count stop.Return u (λ e. cc) wants in
    let again = c.deref-in-Return.ensures ∙ c.shape-in-Return.ensures.shape in
    record {
      under_way = return_on _ _ _ _ _ c.shape.ensures.whole.count u st c.finish.new.self wants (rw again at c.finish.ensures);
      shape = c.loop-node.invariant.shape;
    }

pub of-requires : goal.of-requires
of-requires c =
    let same = c.deref.ensures ∙ c.shape.ensures.shape in
    let u = follows_on _ _ _ _ _ c.shape.ensures.whole.count c.loop-node.invariant.under_way c.run_local-pending.new.self c.run_local-pending.ensures.follows in
    let wants = stop_is c.args.procedure.now.instrs c.loop-node.tree.parents c.run_local-pending.new.self stop.Over _ c.in-Over.is (rw same at c.stop_at.ensures) in
    let d = all_done _ _ _ _ _ c.shape.ensures.whole.count u wants in
    d.over.emits

pub returns-in-Over-clause-answer : goal.returns-in-Over-clause-answer
returns-in-Over-clause-answer c =
    let same = c.deref.ensures ∙ c.shape.ensures.shape in
    let u = follows_on _ _ _ _ _ c.shape.ensures.whole.count c.loop-node.invariant.under_way c.run_local-pending.new.self c.run_local-pending.ensures.follows in
    let wants = stop_is c.args.procedure.now.instrs c.loop-node.tree.parents c.run_local-pending.new.self stop.Over _ c.in-Over.is (rw same at c.stop_at.ensures) in
    let d = all_done _ _ _ _ _ c.shape.ensures.whole.count u wants in
    rw c.of.ensures d.answer

pub returns-in-Over-clause-tree : goal.returns-in-Over-clause-tree
returns-in-Over-clause-tree c =
    let same = c.deref.ensures ∙ c.shape.ensures.shape in
    let u = follows_on _ _ _ _ _ c.shape.ensures.whole.count c.loop-node.invariant.under_way c.run_local-pending.new.self c.run_local-pending.ensures.follows in
    let wants = stop_is c.args.procedure.now.instrs c.loop-node.tree.parents c.run_local-pending.new.self stop.Over _ c.in-Over.is (rw same at c.stop_at.ensures) in
    let d = all_done _ _ _ _ _ c.shape.ensures.whole.count u wants in
    let tree = λ (ps : List ℕ) (rs : Records). let t : TreeValue = record { parents = ps; records = rs } in t in
    ap (λ ps. tree ps c.loop-node.tree.records) c.loop-node.invariant.shape ∙ ap (tree c.args.tree.now.parents) d.tree

pub returns-in-Over-clause-within : goal.returns-in-Over-clause-within
returns-in-Over-clause-within c =
    let same = c.deref.ensures ∙ c.shape.ensures.shape in
    let u = follows_on _ _ _ _ _ c.shape.ensures.whole.count c.loop-node.invariant.under_way c.run_local-pending.new.self c.run_local-pending.ensures.follows in
    let wants = stop_is c.args.procedure.now.instrs c.loop-node.tree.parents c.run_local-pending.new.self stop.Over _ c.in-Over.is (rw same at c.stop_at.ensures) in
    let d = all_done _ _ _ _ _ c.shape.ensures.whole.count u wants in
    d.within
