use Rattle.std.proofs.Common.{◌≡◌, ◌∷◌, ◌+◌, length, get_or, take, reverse, sym, ap, ◌∙◌, subst}
use Rattle.tl_tree_locking.specs.declared.event.Event.TheVariants.{Admit}
use Rattle.tl_tree_locking.specs.Order.{placed, placed_after}
use Rattle.tl_serial_order.specs.Parts.{AreOfNodes, ShowAll}
use Rattle.tl_tree_locking.proofs.Pasts.{past_one_more}
use Rattle.tl_serial_order.proofs.placing.place_all.Goals as goal

pub loop-event-preserved : goal.loop-event-preserved
loop-event-preserved c =
    let shape = c.args.shape.now in
    let events = c.args.events.now in
    let i = c.loop-event.event-index in
    let event = get_or events i (Admit 0) in
    let past = reverse (take i events) in
    let now = c.loop-event.invariant in
    let one_more : event ∷ past ≡ reverse (take (i + 1) events) = sym (past_one_more events i (Admit 0) c.loop-event-test.true) in
    let known : AreOfNodes (length shape) c.make_room.new.parts =
    subst (λ n. AreOfNodes n c.loop-event.parts → AreOfNodes n c.make_room.new.parts) c.node_count-nodes.ensures.count c.in_ok-make_room.ensures.nodes now.1 in
    let shown : ShowAll c.make_room.new.parts past = c.in_ok-make_room.ensures.more past now.2 in
    let order : c.place.new.line.order ≡ placed shape (event ∷ past) =
    c.in_ok-place.ensures.ok past shown.shows ∙ ap (placed_after shape past event) (c.in_ok-make_room.ensures.order ∙ now.3) in (
      c.note.ensures.calls ∙ c.in_ok-make_room.ensures.calls ∙ sym c.in_ok-place.ensures.count,
      c.note.ensures.nodes (length shape) known,
      subst (ShowAll c.note.new.self) one_more (c.note.ensures.more past shown),
      subst (λ p. c.place.new.line.order ≡ placed shape p) one_more order,
    )
