use Rattle.std.proofs.Common.{◌≡◌, ◌∷◌, ◌+◌, ◌≤◌, get_or, take, reverse, sym, ◌∙◌, subst, arith}
use Rattle.std.proofs.lemmas.List.{take_all}
use Rattle.tl_tree_locking.specs.declared.event.Event.TheVariants.{Admit}
use Rattle.tl_tree_locking.specs.History.{admits, IsLegalHistory}
use Rattle.tl_tree_locking.proofs.Pasts.{past_one_more}
use Rattle.tl_serial_order.specs.Kept.{IsOfSize, IsKept}
use Rattle.tl_serial_order.proofs.LegalEvents.{caller_known, legal_so_far}
use Rattle.tl_serial_order.proofs.kept.KeptOrder.of_events.Goals as goal

pub loop-event-init : goal.loop-event-init
loop-event-init c = (
  c.in_ok-kept.ensures.calls,
  subst (IsOfSize c.in_ok-kept.kept) c.node_count.ensures.count c.in_ok-kept.ensures.size,
  c.in_ok-kept.ensures.kept c.args.shape.now,
)

pub note-requires-clause-size : goal.note-requires-clause-size
note-requires-clause-size c = c.loop-event.invariant.1

pub note-requires-clause-caller : goal.note-requires-clause-caller
note-requires-clause-caller c =
    let shape = c.args.shape.now in
    let events = c.args.events.now in
    let i = c.loop-event.event-index in
    let next = legal_so_far shape events c.requires.legal (i + 1) (omega (arith, c.loop-event-test.true)) in
    let e = get_or events i (Admit 0) in
    let one_more : reverse (take (i + 1) events) ≡ e ∷ reverse (take i events) = past_one_more events i (Admit 0) c.loop-event-test.true in
    let here : IsLegalHistory shape (e ∷ reverse (take i events)) = subst (IsLegalHistory shape) one_more next.0 in
    let fewer : admits (e ∷ reverse (take i events)) ≤ admits (reverse events) = subst (λ p. admits p ≤ admits (reverse events)) one_more next.1 in
    let known = caller_known shape c.node_count.ensures.tree e (reverse (take i events)) here in
    let room = c.requires.calls in
    let same = c.loop-event.invariant.0 in
    omega (arith, known, fewer, room, same)

pub loop-event-preserved : goal.loop-event-preserved
loop-event-preserved c =
    let shape = c.args.shape.now in
    let events = c.args.events.now in
    let i = c.loop-event.event-index in
    let past = reverse (take i events) in
    let next = legal_so_far shape events c.requires.legal (i + 1) (omega (arith, c.loop-event-test.true)) in
    let e = get_or events i (Admit 0) in
    let one_more : reverse (take (i + 1) events) ≡ e ∷ past = past_one_more events i (Admit 0) c.loop-event-test.true in
    let here : IsLegalHistory shape (e ∷ past) = subst (IsLegalHistory shape) one_more next.0 in (
      c.note.ensures.calls ∙ c.loop-event.invariant.0,
      c.note.ensures.size,
      subst (IsKept c.note.new.self shape) (sym one_more) (c.note.ensures.kept past c.loop-event.invariant.2 here),
    )

pub returns-clause-calls : goal.returns-clause-calls
returns-clause-calls c = c.loop-event.invariant.0

pub returns-clause-size : goal.returns-clause-size
returns-clause-size c = c.loop-event.invariant.1

pub returns-clause-kept : goal.returns-clause-kept
returns-clause-kept c =
    let events = c.args.events.now in
    let whole : take c.loop-event.event-index events ≡ events = take_all c.loop-event.event-index events (omega (arith, c.loop-event-test.false)) in
    subst (λ es. IsKept c.loop-event.kept c.args.shape.now (reverse es)) whole c.loop-event.invariant.2
