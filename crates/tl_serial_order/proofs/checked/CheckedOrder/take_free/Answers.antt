use Rattle.std.proofs.Common.{◌<◌, List, [], false, refl, sym, ◌∙◌, subst}
use Rattle.std.proofs.lemmas.Bool.{both_ways}
use Rattle.tl_tree.specs.Records.{Record}
use Rattle.tl_tree_locking.specs.declared.event.Event.{Event}
use Rattle.tl_tree_locking.specs.declared.event.Event.TheVariants.{Free}
use Rattle.tl_serial_order.specs.Checked.{IsChecked, IsLegal}
use Rattle.tl_serial_order.proofs.checked.CheckedOrder.take_free.Goals as goal

pub returns-then-not-may_free-clause-legal : goal.returns-then-not-may_free-clause-legal
returns-then-not-may_free-clause-legal c past left checked = (
  λ no'. absurd (both_ways false refl no'),
  λ legal. sym c.if-not-may_free.true ∙ (c.may_free.ensures c.args.shape.now past left checked).1 legal.rules,
)

-- after all checks, the free is legal
is_legal : (c : goal.After-note_free-arg-1) → (past : List Event) (left : Record) → IsChecked c.args.shape.now c.args.self.now past
    → IsLegal c.args.shape.now c.args.self.now past (Free c.args.node c.args.call left)
is_legal c past left checked = record {
  event = record {
    call = c.is_call.ensures.0 c.if-not-is_call.false;
    node = subst (λ n. c.args.node < n) c.node_count.ensures.count c.if-node-node_count.false;
  };
  rules = (c.may_free.ensures c.args.shape.now past left checked).0 c.if-not-may_free.false;
  apart = tt;
}

pub note_free-requires-clause-next : goal.note_free-requires-clause-next
note_free-requires-clause-next c =
    let past = c.requires.events.past in
    let checked = c.requires.events.checked in
    ([], record { past = past; checked = checked; legal = is_legal c past [] checked })

pub returns-clause-legal : goal.returns-clause-legal
returns-clause-legal c past left checked = (λ _. is_legal c.before past left checked, λ _. refl)

pub returns-clause-taken : goal.returns-clause-taken
returns-clause-taken c _ past left checked = c.note_free.ensures.checked past left checked (is_legal c.before past left checked).rules
