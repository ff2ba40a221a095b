-- A core with a call that is led to the end of a segment.
use Rattle.std.proofs.Common.{◌≡◌, ℕ, ◌<◌, List, length, map, sym, ap, ◌∙◌, subst, arith, Option, Some, None, slice_get, get_or, set}
use Rattle.tl_tree.specs.Trees.{TreeValue}
use Rattle.tl_tree_locking.specs.declared.action.Action.{Action}
use Rattle.tl_machine.specs.Turns.{TurnValue, SegmentValue, IsSegment, ComesByLocal, Stops, with_call, end_of}
use Rattle.tl_machine.specs.declared.want.Stop.TheVariants as stop
use Rattle.tl_core.specs.declared.call.Call.{Call}
use Rattle.tl_core.specs.declared.call.OpenCall.{OpenCall}
use Rattle.tl_core.specs.Stored.{Kept, seen_call, seen_turn}
use Rattle.tl_core.specs.Cores.{CoreValue}
use Rattle.tl_core.specs.Followed.{Goes, EachLocal, IsInTheWay}
use Rattle.tl_core.specs.Kept.{IsCore, IsWholeCore, call_value}
use Rattle.tl_tree_locking.specs.Holders.{holder_of}
use Rattle.tl_core.proofs.StoredCalls.{same_item}
use Rattle.tl_core.proofs.OpenCall.{IsAt, in_place, kept_here, turn_same, whole_then, seen_on}
use Rattle.tl_core.proofs.KeptTurns.{kept_with}
use Rattle.tl_core.proofs.FollowLemmas.{led_core, led_local, led_each, led_goes, led_inside}

module _ (v : CoreValue) (now : TreeValue) (calls : List Call) (slots : List OpenCall) (holders : List (Option ℕ)) (reserved capacity : ℕ) (w : IsWholeCore v now calls slots holders reserved capacity)
    (c : ℕ) (seg : SegmentValue) (kept : get_or (map (seen_turn slots) calls) c None ≡ Some seg.from) (is : IsSegment seg) where
  -- the node that the stop locks is one of the tree's nodes
  pub segment_inside : (x : ℕ) → seg.stop ≡ stop.Lock x → x < length v.parents
  segment_inside x locks =
      let k = kept_with v now calls slots holders reserved capacity w c seg.from kept in
      led_inside v now w.kept holders (length slots) reserved w.core c k.call k.there seg.to (subst (λ t. ComesByLocal t.code.instrs t.call seg.to) (sym k.turn) is.follows) x
      (subst (λ t. Stops (with_call t seg.to) (stop.Lock x)) (sym k.turn) (subst (Stops (end_of seg)) locks is.stop))

  pub segment_slot : (x : ℕ) → seg.stop ≡ stop.Lock x → x < length holders
  segment_slot x locks = let lt = segment_inside x locks in let e = w.core.each_node in omega arith

  pub in_its_way : (x d : ℕ) → seg.stop ≡ stop.Lock x → slice_get holders x ≡ Some (Some d) → IsInTheWay v seg.stop x d
  in_its_way x d locks there = record { locks = locks; holder = same_item (sym (w.core.holds x (segment_inside x locks)) ∙ there) }

  pub out_of_its_way : (x : ℕ) → seg.stop ≡ stop.Lock x → slice_get holders x ≡ Some None → (y d : ℕ) → IsInTheWay v seg.stop y d → ⊥
  out_of_its_way x locks free y d way =
      let both : stop.Lock x ≡ stop.Lock y = sym locks ∙ way.locks in
      let same : x ≡ y = cc in
      let none = same_item (sym (w.core.holds x (segment_inside x locks)) ∙ free) in
      let held = subst (λ z. holder_of v.past z ≡ Some d) (sym same) way.holder in
      absurd cc

  -- a turn that was set to the segment's last state is at its end
  pub at_its_end : (j : ℕ) (s : Call) (o : OpenCall) → IsAt calls slots c j s o → (turn2 : TurnValue) → turn2 ≡ with_call o.turn seg.to → turn2 ≡ end_of seg
  at_its_end j s o p turn2 is = is ∙ ap (λ t. with_call t seg.to) (turn_same v now calls slots holders reserved capacity w c j s o p seg.from kept)

  module _ (j : ℕ) (s : Call) (o : OpenCall) (p : IsAt calls slots c j s o) (turn2 : TurnValue) (at_end : turn2 ≡ end_of seg) where
    begins : o.turn ≡ seg.from
    begins = turn_same v now calls slots holders reserved capacity w c j s o p seg.from kept

    pub same_code : turn2.code ≡ o.turn.code
    same_code = ap (λ t. t.code) at_end ∙ ap (λ t. t.code) (sym begins)

    comes : ComesByLocal o.turn.code.instrs o.turn.call seg.to
    comes = subst (λ t. ComesByLocal t.code.instrs t.call seg.to) (sym begins) is.follows

    led_turn : with_call o.turn seg.to ≡ turn2
    led_turn = ap (λ t. with_call t seg.to) begins ∙ sym at_end

    abbrev here : Kept
    here = in_place s o

    there : slice_get w.kept c ≡ Some here
    there = kept_here v now calls slots holders reserved capacity w c j s o p

    abbrev pub slots_led : List OpenCall
    slots_led = set slots j (record { call = o.call; places = o.places; turn = turn2 })

    abbrev pub then_seen : CoreValue
    then_seen = record v { calls = map (seen_call v.procedures slots_led) calls }

    abbrev kept_at_end : TurnValue → List Kept
    kept_at_end t = set w.kept c (record { procedure = s.procedure; args = s.args.items; turn = t; reply = None; places = o.places })

    its_core : IsCore (record v { calls = map call_value (kept_at_end turn2) }) now (kept_at_end turn2) holders (length slots) reserved
    its_core =
        subst (λ t. IsCore (record v { calls = map call_value (kept_at_end t) }) now (kept_at_end t) holders (length slots) reserved) led_turn
        (led_core v now w.kept holders (length slots) reserved w.core c here there seg.to comes)

    pub whole_led : IsWholeCore then_seen now calls slots_led holders reserved capacity
    whole_led = whole_then v now calls slots holders reserved capacity w c j s o p turn2 o.places same_code v.past v.limit now holders reserved its_core capacity w.room

    seen_led : then_seen ≡ record v { calls = map call_value (kept_at_end (with_call o.turn seg.to)) }
    seen_led =
        seen_on v now calls slots holders reserved capacity w c j s o p turn2 o.places same_code v.past v.limit
        ∙ ap (λ t. record v { calls = map call_value (kept_at_end t) }) (sym led_turn)

    -- the segment's local actions were done as steps of the call
    pub local_led : List Action
    local_led = led_local v now w.kept holders (length slots) reserved w.core c here there seg.to comes

    pub each_led : EachLocal local_led
    unfolding local_led
    each_led = led_each v now w.kept holders (length slots) reserved w.core c here there seg.to comes

    pub goes_led : Goes v c local_led then_seen
    unfolding local_led
    goes_led = subst (Goes v c (led_local v now w.kept holders (length slots) reserved w.core c here there seg.to comes)) (sym seen_led) (led_goes v now w.kept holders (length slots) reserved w.core c here there seg.to comes)
