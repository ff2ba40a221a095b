use Rattle.std.proofs.Common.{◌≡◌, refl, ap, ◌∙◌}
use Rattle.tl_tree_locking.specs.History.{AllDone}
use Rattle.tl_tree_locking.specs.Order.{placed}
use Rattle.tl_serial.proofs.OrderOfCore.{order_agrees, order_admitted, order_tree, order_replies}
use Rattle.tl_serial.proofs.concluding.conclude.Goals as goal

order_is : (c : goal.After-into_order) → c.into_order.result.calls ≡ placed c.args.core.now.seen.parents c.args.core.now.seen.past
order_is c = ap (λ o. o.calls) c.into_order.ensures ∙ (c.in_ok-order.ensures).kept.order

-- every call is done
over : (c : goal.After-into_order) → AllDone c.args.core.now.seen.past
over c = c.in_default.ensures.none.0 refl

pub returns-clause-known : goal.returns-clause-known
returns-clause-known c = order_admitted c.args.core.now.seen c.lemma_is_sound.ensures.sound c.lemma_is_sound.ensures.counted c.into_order.result.calls (order_is c)

pub returns-clause-agrees : goal.returns-clause-agrees
returns-clause-agrees c = order_agrees c.args.core.now.seen c.lemma_is_sound.ensures.sound c.into_order.result.calls (order_is c)

pub returns-clause-tree : goal.returns-clause-tree
returns-clause-tree c = order_tree c.args.core.now.seen c.lemma_is_sound.ensures.sound (over c) c.into_order.result.calls (order_is c)

pub returns-clause-replies : goal.returns-clause-replies
returns-clause-replies c = order_replies c.args.core.now.seen c.lemma_is_sound.ensures.sound (over c) c.into_order.result.calls (order_is c)
