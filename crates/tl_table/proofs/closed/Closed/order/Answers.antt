use Rattle.tl_serial.proofs.OrderOfCore.{order_agrees, order_admitted, order_tree, order_replies}
use Rattle.tl_table.proofs.closed.Closed.order.Goals as goal

pub returns-clause-known : goal.returns-clause-known
returns-clause-known c =
    let v = c.self.inside.epoch.core.seen in
    let sound = rw c.core.ensures at c.lemma_is_sound.ensures.sound in
    let counted = rw c.core.ensures at c.lemma_is_sound.ensures.counted in
    rw (← c.self.view_is) (order_admitted v sound counted c.order.result.now.calls c.order.ensures)

pub returns-clause-agrees : goal.returns-clause-agrees
returns-clause-agrees c =
    let v = c.self.inside.epoch.core.seen in
    let sound = rw c.core.ensures at c.lemma_is_sound.ensures.sound in
    rw (← c.self.view_is) (order_agrees v sound c.order.result.now.calls c.order.ensures)

pub returns-clause-tree : goal.returns-clause-tree
returns-clause-tree c =
    let v = c.self.inside.epoch.core.seen in
    let sound = rw c.core.ensures at c.lemma_is_sound.ensures.sound in
    rw (← c.self.view_is) (order_tree v sound c.self.invariant c.order.result.now.calls c.order.ensures)

pub returns-clause-replies : goal.returns-clause-replies
returns-clause-replies c =
    let v = c.self.inside.epoch.core.seen in
    let sound = rw c.core.ensures at c.lemma_is_sound.ensures.sound in
    rw (← c.self.view_is) (order_replies v sound c.self.invariant c.order.result.now.calls c.order.ensures)
