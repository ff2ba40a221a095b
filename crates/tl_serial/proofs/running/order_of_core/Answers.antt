use Rattle.std.proofs.Common.{◌≡◌, length, sym, ap, ◌∙◌, subst}
use Rattle.std.specs.Prelude.{All}
use Rattle.tl_tree_locking.specs.History.{past_of}
use Rattle.tl_tree_locking.specs.Nodes.{IsOfNodes}
use Rattle.tl_tree_locking.proofs.Inside.{sound_inside}
use Rattle.tl_tree_locking.proofs.NoStandstill.{sound_history}
use Rattle.tl_tree_locking.proofs.Pasts.{All-unreverse}
use Rattle.tl_core.specs.Cores.{world_of}
use Rattle.tl_serial.proofs.running.order_of_core.Goals as goal

shape_is : (c : goal.After-events) → c.deref.result.now ≡ c.args.core.now.seen.parents
shape_is c = c.deref.ensures ∙ c.shape-shape.ensures.shape ∙ ap (λ t. t.parents) c.opening.ensures

past_is : (c : goal.After-events) → past_of c.events.result.now ≡ c.args.core.now.seen.past
past_is c = c.events.ensures.past ∙ c.history.ensures.past

pub of_events-requires-clause-legal : goal.of_events-requires-clause-legal
of_events-requires-clause-legal c =
    rw (shape_is c, past_is c) (sound_history (world_of c.args.core.now.seen) c.lemma_is_sound.ensures.sound)

pub of_events-requires-clause-nodes : goal.of_events-requires-clause-nodes
of_events-requires-clause-nodes c =
    All-unreverse (IsOfNodes (length c.deref.result.now)) c.events.result.now
    (subst (λ past. All (IsOfNodes (length c.deref.result.now)) past) (sym (past_is c))
    (subst (λ parents. All (IsOfNodes (length parents)) c.args.core.now.seen.past) (sym (shape_is c))
    (sound_inside (world_of c.args.core.now.seen) c.lemma_is_sound.ensures.sound)))
