use Rattle.std.proofs.Common.{◌≡◌, refl, sym, ◌∙◌}
use Rattle.tl_tree_locking.specs.History.{AllDone}
use Rattle.tl_tree_locking.specs.Order.{placed}
use Rattle.tl_serial.proofs.OrderOfCore.{order_agrees, order_admitted, order_tree, order_replies}
use Rattle.tl_serial.proofs.running.Running.conclude.Goals as goal

order_is : (c : goal.In_ok-copy) → c.in_ok-copy.field-0.calls ≡ placed c.self.inside.core.seen.parents c.self.inside.core.seen.past
order_is c = let order = rw (sym c.self.view_is) at c.order.ensures in c.in_ok-copy.ensures ∙ order

-- every call is done
over : (c : goal.In_ok-copy) → AllDone c.self.inside.core.seen.past
over c = c.in_default.ensures.none.0 refl

pub returns-clause-known : goal.returns-clause-known
returns-clause-known c = rw (← c.self.view_is) (order_admitted c.self.inside.core.seen c.lemma_is_sound.ensures.sound c.lemma_is_sound.ensures.counted c.in_ok-copy.field-0.calls (order_is c))

pub returns-clause-agrees : goal.returns-clause-agrees
returns-clause-agrees c = rw (← c.self.view_is) (order_agrees c.self.inside.core.seen c.lemma_is_sound.ensures.sound c.in_ok-copy.field-0.calls (order_is c))

pub returns-clause-tree : goal.returns-clause-tree
returns-clause-tree c = rw (← c.self.view_is) (order_tree c.self.inside.core.seen c.lemma_is_sound.ensures.sound (over c) c.in_ok-copy.field-0.calls (order_is c))

pub returns-clause-replies : goal.returns-clause-replies
returns-clause-replies c = rw (← c.self.view_is) (order_replies c.self.inside.core.seen c.lemma_is_sound.ensures.sound (over c) c.in_ok-copy.field-0.calls (order_is c))
