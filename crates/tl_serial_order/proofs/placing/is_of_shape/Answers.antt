use Rattle.std.proofs.Common.{false, length, get_or, refl, sym, subst}
use Rattle.std.proofs.lemmas.Bool.{both_ways}
use Rattle.std.proofs.lemmas.List.{take_all}
use Rattle.std.proofs.lemmas.List.Elements.{All-more}
use Rattle.std.specs.Prelude.{All}
use Rattle.tl_tree_locking.specs.declared.event.Event.TheVariants.{Admit}
use Rattle.tl_tree_locking.specs.Nodes.{IsOfNodes}
use Rattle.tl_tree_locking.proofs.Pasts.{All-reverse, All-unreverse}
use Rattle.tl_serial_order.proofs.placing.is_of_shape.Goals as goal

pub loop-event-preserved : goal.loop-event-preserved
loop-event-preserved c =
    let events = c.events-event-items.result.now in
    let i = c.loop-event.event-index in
    let own = c.is_of_nodes.ensures.0 c.if-not-is_of_nodes.false in
    All-more (IsOfNodes (length c.args.shape.now)) events i (Admit 0) c.loop-event-test.true c.loop-event.invariant
    (subst (λ n. IsOfNodes n (get_or events i (Admit 0))) c.node_count.ensures.count own)

pub returns-then-not-is_of_nodes : goal.returns-then-not-is_of_nodes
returns-then-not-is_of_nodes c =
    let events = c.events-event-items.result.now in
    let i = c.loop-event.event-index in (
      λ no. absurd (both_ways false refl no),
      λ each.
          let each_of : All (IsOfNodes (length c.args.shape.now)) events =
          All-unreverse (IsOfNodes (length c.args.shape.now)) events
          (subst (All (IsOfNodes (length c.args.shape.now))) (sym c.events-event-items.ensures.past) each) in
          let own = each_of i (Admit 0) c.loop-event-test.true in
          let yes' = c.is_of_nodes.ensures.1 (subst (λ n. IsOfNodes n (get_or events i (Admit 0))) (sym c.node_count.ensures.count) own) in
          absurd (both_ways c.is_of_nodes.result c.if-not-is_of_nodes.true yes'),
    )

pub returns : goal.returns
returns c =
    let events = c.events-event-items.result.now in
    let whole = take_all c.loop-event.event-index events c.loop-event-test.false in
    let each_of : All (IsOfNodes (length c.args.shape.now)) events = subst (All (IsOfNodes (length c.args.shape.now))) whole c.loop-event.invariant in
    (λ _. subst (All (IsOfNodes (length c.args.shape.now))) c.events-event-items.ensures.past (All-reverse (IsOfNodes (length c.args.shape.now)) events each_of), λ _. refl)
