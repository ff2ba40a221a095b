use Rattle.std.proofs.Common.{◌<◌, List, [], false, refl, sym, ◌∙◌, subst}
use Rattle.std.proofs.lemmas.Bool.{both_ways}
use Rattle.tl_tree.specs.Records.{Record}
use Rattle.tl_tree_locking.specs.declared.event.Event.{Event}
use Rattle.tl_tree_locking.specs.declared.event.Event.TheVariants.{Lock}
use Rattle.tl_serial_order.specs.Checked.{IsChecked, IsLegal}
use Rattle.tl_serial_order.proofs.checked.CheckedOrder.take_lock.Goals as goal
use Rattle.tl_serial_order.proofs.checked.CheckedOrder.take_lock.Goals.{then-not-may_lock-via-then-not-may_lock, then-not-may_lock-via-else-not-may_lock+then-not-is_free_for}

pub returns-then-not-may_lock-clause-legal : goal.returns-then-not-may_lock-clause-legal
returns-then-not-may_lock-clause-legal c past found checked = (
  λ no'. absurd (both_ways false refl no'),
  λ legal. elim c.then-not-may_lock.branch [
    | then-not-may_lock-via-then-not-may_lock w ↦ sym w.if-not-may_lock.true ∙ (c.may_lock.ensures past found checked).1 legal.rules
    | then-not-may_lock-via-else-not-may_lock+then-not-is_free_for w ↦
        sym w.if-not-is_free_for.true ∙ (w.is_free_for.ensures c.args.shape.now past found checked).1 legal.apart
  ],
)

-- after all checks, the lock is legal
is_legal : (c : goal.After-note_lock-arg-1) → (past : List Event) (found : Record) → IsChecked c.args.shape.now c.args.self.now past
    → IsLegal c.args.shape.now c.args.self.now past (Lock c.args.node c.args.call found)
is_legal c past found checked = record {
  event = record {
    call = c.is_call.ensures.0 c.if-not-is_call.false;
    node = subst (λ n. c.args.node < n) c.node_count.ensures.count c.if-node-node_count.false;
  };
  rules = (c.may_lock.ensures past found checked).0 c.if-not-may_lock.false;
  apart = (c.is_free_for.ensures c.args.shape.now past found checked).0 c.if-not-is_free_for.false;
}

pub note_lock-requires-clause-next : goal.note_lock-requires-clause-next
note_lock-requires-clause-next c =
    let past = c.requires.events.past in
    let checked = c.requires.events.checked in
    ([], record { past = past; checked = checked; legal = is_legal c past [] checked })

pub returns-clause-legal : goal.returns-clause-legal
returns-clause-legal c past found checked = (λ _. is_legal c.before past found checked, λ _. refl)

pub returns-clause-taken : goal.returns-clause-taken
returns-clause-taken c _ past found checked =
    let legal = is_legal c.before past found checked in
    c.note_lock.ensures.checked past found checked legal.rules legal.apart
