use Rattle.std.proofs.Common.{◌≡◌, length, sym, ap, ◌∙◌, subst, arith}
use Rattle.std.specs.Prelude.{All}
use Rattle.tl_tree_locking.specs.History.{admits, IsLegalHistory}
use Rattle.tl_tree_locking.specs.Nodes.{IsOfNodes}
use Rattle.tl_tree_locking.specs.World.{past_after}
use Rattle.tl_tree_locking.proofs.Inside.{sound_inside}
use Rattle.tl_tree_locking.proofs.NoStandstill.{sound_history}
use Rattle.tl_core.specs.Cores.{world_of}
use Rattle.tl_serial_order.specs.Kept.{IsKept, IsOfSize}
use Rattle.tl_serial.proofs.OrderSteps.{stopped_known, stop_inside}
use Rattle.tl_serial.proofs.running.take_up.Goals as goal

shape_is : (c : goal.After-deref) → c.deref.result.now ≡ c.args.core.now.seen.parents
shape_is c = c.deref.ensures ∙ c.shape.ensures.shape ∙ ap (λ t. t.parents) c.opening.ensures

pub note_stop-requires-clause-size : goal.note_stop-requires-clause-size
note_stop-requires-clause-size c = rw (shape_is c) c.requires.size

pub note_stop-requires-clause-tree : goal.note_stop-requires-clause-tree
note_stop-requires-clause-tree c = rw (shape_is c) c.lemma_is_sound.ensures.sound.tree

pub note_stop-requires-clause-call : goal.note_stop-requires-clause-call
note_stop-requires-clause-call c =
    let v = c.args.core.now.seen in
    let s = c.requires.stopped.1 in
    let sound = c.lemma_is_sound.ensures.sound in
    let legal : IsLegalHistory v.parents (past_after c.args.call s.last c.requires.stopped.0) = subst (IsLegalHistory v.parents) s.past_is (sound_history (world_of v) sound) in
    let known = stopped_known v.parents sound.tree c.args.call c.args.stop s.last c.requires.stopped.0 s.ends legal in
    let counted = ap admits s.past_is in
    omega (arith, known, counted, c.lemma_is_sound.ensures.counted, c.lemma_is_sound.ensures.few, c.requires.calls)

pub note_stop-requires-clause-node : goal.note_stop-requires-clause-node
note_stop-requires-clause-node c =
    let v = c.args.core.now.seen in
    let s = c.requires.stopped.1 in
    let inside = subst (λ past. All (IsOfNodes (length v.parents)) past) s.past_is (sound_inside (world_of v) c.lemma_is_sound.ensures.sound) in
    rw (shape_is c) (stop_inside (length v.parents) c.args.call c.args.stop s.last c.requires.stopped.0 s.ends inside)

pub returns : goal.returns
returns c past s kept =
    let v = c.args.core.now.seen in
    let is = c.deref.ensures ∙ c.shape.ensures.shape ∙ ap (λ t. t.parents) c.opening.ensures in
    let legal : IsLegalHistory v.parents (past_after c.args.call s.last past) = subst (IsLegalHistory v.parents) s.past_is (sound_history (world_of v) c.lemma_is_sound.ensures.sound) in
    let noted = rw is at c.note_stop.ensures.kept in
    record {
      kept = subst (IsKept c.note_stop.new.order v.parents) (sym s.past_is) (noted past s.last s.ends kept legal);
      size = subst (λ shape. IsOfSize c.note_stop.new.order (length shape)) is c.note_stop.ensures.size;
      calls = c.note_stop.ensures.calls ∙ c.requires.calls;
    }
