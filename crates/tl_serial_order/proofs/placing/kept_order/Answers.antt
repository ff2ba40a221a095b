use Rattle.std.proofs.Common.{rules, ◌≡◌, ◌∷◌, ◌+◌, ◌≤◌, length, get_or, take, reverse, sym, ap, ◌∙◌, subst, arith}
use Rattle.std.specs.Prelude.{All, min}
use Rattle.std.proofs.lemmas.Bool.{both_ways}
use Rattle.std.proofs.lemmas.List.{take_all}
use Rattle.tl_history.specs.declared.history.TheConstants.{MAX_CALLS}
use Rattle.tl_tree_locking.specs.declared.event.Event.TheVariants.{Admit}
use Rattle.tl_tree_locking.specs.History.{admits, IsLegalHistory}
use Rattle.tl_tree_locking.specs.Nodes.{IsOfNodes}
use Rattle.tl_tree_locking.specs.Order.{placed}
use Rattle.tl_tree_locking.proofs.Pasts.{past_one_more, All-unreverse}
use Rattle.tl_tree_locking.proofs.RulesLemmas.{legal_last}
use Rattle.tl_serial_order.specs.Checked.{calls_of, IsChecked}
use Rattle.tl_serial_order.proofs.LegalEvents.{caller_known, legal_so_far, admits_few}
use Rattle.tl_serial_order.proofs.placing.kept_order.Goals as goal

pub loop-event-init : goal.loop-event-init
loop-event-init c = (
  c.in_ok-order.ensures.calls,
  c.in_ok-order.ensures.checked c.args.shape.now (sym c.node_count-nodes.ensures.count),
)

pub take-requires-clause-tree : goal.take-requires-clause-tree
take-requires-clause-tree c = c.node_count-nodes.ensures.tree

pub take-requires-clause-events : goal.take-requires-clause-events
take-requires-clause-events c = record { past = reverse (take c.loop-event.event-index c.events-event-items.result.now); checked = c.loop-event.invariant.1 }

pub loop-event-preserved : goal.loop-event-preserved
loop-event-preserved c =
    let events = c.events-event-items.result.now in
    let i = c.loop-event.event-index in
    let one_more = past_one_more events i (Admit 0) c.loop-event-test.true in (
      c.take.ensures.calls ∙ c.loop-event.invariant.0,
      subst (IsChecked c.args.shape.now c.take.new.self) (sym one_more) (c.take.ensures.taken c.if-not-take.false (reverse (take i events)) c.loop-event.invariant.1),
    )

-- the event at which the loop ends would keep the rules
pub returns-then-not-take-clause-some : goal.returns-then-not-take-clause-some
returns-then-not-take-clause-some c legal few =
    let shape = c.args.shape.now in
    let events = c.events-event-items.result.now in
    let i = c.loop-event.event-index in
    let inside = c.loop-event-test.true in
    let e = get_or events i (Admit 0) in
    let past = reverse (take i events) in
    let whole : reverse events ≡ c.args.history.now.past = c.events-event-items.ensures.past in
    let next = legal_so_far shape events (subst (IsLegalHistory shape) (sym whole) legal) (i + 1) (omega (arith, inside)) in
    let one_more : reverse (take (i + 1) events) ≡ e ∷ past = past_one_more events i (Admit 0) inside in
    let here : IsLegalHistory shape (e ∷ past) = subst (IsLegalHistory shape) one_more next.0 in
    let fewer : admits (e ∷ past) ≤ admits (reverse events) = subst (λ p. admits p ≤ admits (reverse events)) one_more next.1 in
    let known = caller_known shape c.node_count-nodes.ensures.tree e past here in
    let most : admits c.args.history.now.past ≤ length c.args.history.now.past = admits_few c.args.history.now.past in
    let same : admits (reverse events) ≡ admits c.args.history.now.past = ap admits whole in
    let room : calls_of c.loop-event.order ≡ min (length c.args.history.now.past) MAX_CALLS = search rules in
    let of_nodes = All-unreverse (IsOfNodes (length shape)) events (subst (All (IsOfNodes (length shape))) (sym whole) c.requires) in
    let last = legal_last shape e past here in
    let taken = (c.take.ensures.legal past c.loop-event.invariant.1).1 (record {
      event = record { call = omega (arith, known, fewer, most, same, room, few); node = of_nodes i (Admit 0) inside };
      rules = last.0;
      apart = last.1;
    }) in
    absurd (both_ways c.take.result c.if-not-take.true taken)

pub returns-clause-kept : goal.returns-clause-kept
returns-clause-kept c =
    let events = c.events-event-items.result.now in
    let whole = take_all c.loop-event.event-index events c.loop-event-test.false in
    c.into_order.ensures c.args.shape.now (reverse events) (subst (λ es. IsChecked c.args.shape.now c.loop-event.order (reverse es)) whole c.loop-event.invariant.1)
    ∙ ap (placed c.args.shape.now) c.events-event-items.ensures.past
