use Rattle.std.proofs.Common.{List}
use Rattle.tl_tree_locking.specs.declared.event.Event.{Event}
use Rattle.tl_tree_locking.specs.History.{IsLegalHistory}
use Rattle.tl_serial_order.specs.Kept.{IsKept}
use Rattle.tl_serial.proofs.OrderSteps.{at_lock, at_free}
use Rattle.tl_serial.proofs.running.note_stop.Goals as goal

pub returns-in-Lock-clause-kept : goal.returns-in-Lock-clause-kept
returns-in-Lock-clause-kept c past last ends kept legal =
    let shape = c.args.shape.now in
    let P : List Event → Type 0 = λ now. IsLegalHistory shape now → IsKept c.lock.new.self shape now in
    at_lock P c.args.call c.in-Lock.node c.args.stop last past c.in-Lock.is ends (λ found told. c.lock.ensures.kept past found kept told) legal

pub returns-in-Free-clause-kept : goal.returns-in-Free-clause-kept
returns-in-Free-clause-kept c past last ends kept legal =
    let shape = c.args.shape.now in
    let P : List Event → Type 0 = λ now. IsKept c.free.new.self shape now in
    at_free P c.args.call c.in-Free.node c.args.stop last past c.in-Free.is ends (λ left. c.free.ensures.kept shape past c.args.call left kept)
