use Rattle.std.proofs.Common.{◌≡◌, false, refl, sym, ap, ◌∙◌, subst, arith, Some, Ok, List, ℕ}
use Rattle.std.specs.Prelude.{option_copied}
use Rattle.tl_tree_locking.specs.declared.action.Action.TheVariants as did
use Rattle.tl_tree_locking.specs.History.{is_done}
use Rattle.tl_instr.specs.Codes.{CodeValue}
use Rattle.tl_machine.specs.Stopped.{after_action}
use Rattle.tl_machine.specs.Turns.{IsTurn, LentValue, Stops, segment_of, with_call}
use Rattle.tl_machine.specs.declared.want.Stop.TheVariants as stop
use Rattle.tl_core.specs.declared.stepped.Stepped.TheVariants.{Moved}
use Rattle.tl_core.specs.Entries.{after_step}
use Rattle.tl_core.proofs.FollowAnswers.{stop_step, ends_by, is_no_end, some_reply, none_reply, returned}
use Rattle.tl_core.proofs.PassedStops.{PassesStop, passes_stop}
use Rattle.tl_core.proofs.Submitted.{led_to, led_on, begun_on, stops_there, stops_here, its_segment}
use Rattle.tl_core.proofs.interleaving.Core.lead.Goals.{After-deref, After-stop-stop, After-pass_stop-stepped, After-deref-in-Moved}
use Rattle.tl_core.proofs.interleaving.Core.lead.Goals as goal

-- the turn's shape is the core's
same_shape : (c : After-deref) → c.in_ok-check_lent.ensures.ok.0.parents ≡ c.deref.result.now
same_shape c = c.in_ok-check_lent.ensures.ok.4 ∙ ap (λ s. s.seen.parents) (sym c.self.view_is) ∙ sym (c.deref.ensures ∙ c.shape.ensures.shape)

-- so the turn after the local instructions stops where the lent call does
stops_so : (c : After-stop-stop) → Stops (with_call c.in_ok-check_lent.ensures.ok.0 c.args.lent.now.to) c.stop-stop.result
stops_so c =
    let k = c.in_ok-check_lent.ensures.ok in
    let same : k.0.parents ≡ c.deref.result.now = k.4 ∙ ap (λ s. s.seen.parents) (sym c.self.view_is) ∙ sym (c.deref.ensures ∙ c.shape.ensures.shape) in
    stops_there c.args.lent.now c.requires k.0 k.2 k.3 c.deref.result.now c.stop-stop.result same c.stop-stop.ensures

-- the action at this stop was done
passed : (c : After-pass_stop-stepped) → PassesStop c.args.self.now c.take_end.new.self c.pass_stop-stepped.new.self c.args.call c.args.lent.now c.in_ok-check_lent.ensures.ok.0 c.stop-stop.result
passed c =
    let k = c.in_ok-check_lent.ensures.ok in
    let same : k.0.parents ≡ c.deref.result.now = k.4 ∙ ap (λ s. s.seen.parents) (sym c.self.view_is) ∙ sym (c.deref.ensures ∙ c.shape.ensures.shape) in
    let stops = stops_there c.args.lent.now c.requires k.0 k.2 k.3 c.deref.result.now c.stop-stop.result same c.stop-stop.ensures in
    let kept = c.take_end.ensures.turn k.0 k.1 ∙ ap (λ d. Some (with_call k.0 d)) c.to.ensures in
    passes_stop c.args.self.now c.take_end.new.self c.pass_stop-stepped.new.self c.args.call c.args.lent.now k.0 c.stop-stop.result
    c.take_end.ensures.led c.take_end.ensures.past kept (c.lemma_at_stop.ensures (with_call k.0 c.args.lent.now.to) c.stop-stop.result kept stops)
    ((rw c.in_default.is at c.in_the_way.ensures.none) refl) (Ok c.pass_stop-stepped.result) c.pass_stop-stepped.ensures.answer c.pass_stop-stepped.ensures.after

-- the shape doesn't change
shape_behind : (c : After-deref-in-Moved) → c.pass_stop-stepped.new.self.seen.parents ≡ c.args.self.now.seen.parents → c.in_ok-check_lent.ensures.ok.0.parents ≡ c.deref-in-Moved.result.now
shape_behind c parents =
    c.in_ok-check_lent.ensures.ok.4 ∙ sym parents ∙ ap (λ s. s.seen.parents) (sym c.self-2.view_is) ∙ sym (c.deref-in-Moved.ensures ∙ c.shape-in-Moved.ensures.shape)

pub stop-stop-requires-clause-turn : goal.stop-stop-requires-clause-turn
stop-stop-requires-clause-turn c =
    let k = c.in_ok-check_lent.ensures.ok in
    led_on c.args.lent.now c.requires k.0 k.2 k.3 c.deref.result.now (same_shape (goal.at.stop-stop-requires-clause-turn c).After-deref)

pub in_the_way-requires : goal.in_the_way-requires
in_the_way-requires c =
    let k = c.in_ok-check_lent.ensures.ok in
    (segment_of k.0 c.args.lent.now.to c.stop-stop.result, its_segment c.args.lent.now c.requires k.0 k.2 k.3 c.stop-stop.result (stops_so (goal.at.in_the_way-requires c).After-stop-stop), refl, k.1)

pub returns-in-Some-clause-ok : goal.returns-in-Some-clause-ok
returns-in-Some-clause-ok c =
    let k = c.in_ok-check_lent.ensures.ok in
    record {
      segment = segment_of k.0 c.args.lent.now.to c.stop-stop.result;
      kept = k.1;
      is_from = k.2;
      to = refl;
      is_segment = its_segment c.args.lent.now c.requires k.0 k.2 k.3 c.stop-stop.result (stops_so (goal.at.returns-in-Some-clause-ok c).After-stop-stop);
      led = (c.in-Some.ensures.some, refl);
      turn = led_to c.args.lent.now c.requires k.0 k.2 k.3;
      same = refl;
      stays = refl;
      known = tt;
      turns = λ d other. refl;
    }

pub take_end-requires : goal.take_end-requires
take_end-requires c =
    let k = c.in_ok-check_lent.ensures.ok in
    (segment_of k.0 c.args.lent.now.to c.stop-stop.result, its_segment c.args.lent.now c.requires k.0 k.2 k.3 c.stop-stop.result (stops_so (goal.at.take_end-requires c).After-stop-stop), sym c.to.ensures, k.1)

pub pass_stop-stepped-requires : goal.pass_stop-stepped-requires
pass_stop-stepped-requires c =
    let k = c.in_ok-check_lent.ensures.ok in
    (with_call k.0 c.args.lent.now.to, c.take_end.ensures.turn k.0 k.1 ∙ ap (λ d. Some (with_call k.0 d)) c.to.ensures, stops_so (goal.at.pass_stop-stepped-requires c).After-stop-stop)

pub returns-in-Some-reply-clause-ok : goal.returns-in-Some-reply-clause-ok
returns-in-Some-reply-clause-ok c =
    let k = c.in_ok-check_lent.ensures.ok in
    let s = c.stop-stop.result in
    let p = passed (goal.at.returns-in-Some-reply-clause-ok c).After-pass_stop-stepped in
    let done = (some_reply _ _ _ c.in-Some-reply.ensures).0 in
    let stop_is = returned c.take_end.new.self.seen c.pass_stop-stepped.new.self.seen c.args.call s p.next p.free (Ok c.pass_stop-stepped.result) c.pass_stop-stepped.ensures.answer c.pass_stop-stepped.ensures.after done in
    record {
      segment = segment_of k.0 c.args.lent.now.to s;
      kept = k.1;
      is_from = k.2;
      to = refl;
      is_segment = its_segment c.args.lent.now c.requires k.0 k.2 k.3 s (stops_so (goal.at.returns-in-Some-reply-clause-ok c).After-stop-stop);
      led = (p.gone, stop_is, done);
      turn = led_to c.args.lent.now c.requires k.0 k.2 k.3;
      same = refl;
      stays = tt;
      known = omega (arith, k.5, p.counted);
      turns = λ d other. c.pass_stop-stepped.ensures.turns d other ∙ c.take_end.ensures.turns d other;
    }

pub repeat-requires-clause-from : goal.repeat-requires-clause-from
repeat-requires-clause-from c =
    let k = c.in_ok-check_lent.ensures.ok in
    begun_on c.args.lent.now c.requires k.0 k.2 k.3 c.deref-in-Moved.result.now (shape_behind (goal.at.repeat-requires-clause-from c).After-deref-in-Moved (passed (goal.at.repeat-requires-clause-from c).After-pass_stop-stepped).parents)

pub repeat-requires-clause-to : goal.repeat-requires-clause-to
repeat-requires-clause-to c =
    let k = c.in_ok-check_lent.ensures.ok in
    led_on c.args.lent.now c.requires k.0 k.2 k.3 c.deref-in-Moved.result.now (shape_behind (goal.at.repeat-requires-clause-to c).After-deref-in-Moved (passed (goal.at.repeat-requires-clause-to c).After-pass_stop-stepped).parents)

-- the action is the one at the stop, so the state stops there
pub repeat-requires-clause-lock : goal.repeat-requires-clause-lock
repeat-requires-clause-lock c x found is =
    let k = c.in_ok-check_lent.ensures.ok in
    let p = passed (goal.at.repeat-requires-clause-lock c).After-pass_stop-stepped in
    let answer = ap (λ s. Ok s) (sym (c.in-Moved.is ∙ ap (λ a. Moved a) is)) ∙ c.pass_stop-stepped.ensures.answer in
    let locks : c.stop-stop.result ≡ stop.Lock x = ends_by c.take_end.new.self.seen c.args.call c.stop-stop.result p.next p.free (did.Lock x found) answer in
    stops_here c.args.lent.now c.requires k.0 k.2 k.3 c.deref-in-Moved.result.now (stop.Lock x) (shape_behind (goal.at.repeat-requires-clause-lock c).After-deref-in-Moved (passed (goal.at.repeat-requires-clause-lock c).After-pass_stop-stepped).parents) (subst (Stops (with_call k.0 c.args.lent.now.to)) locks (stops_so (goal.at.repeat-requires-clause-lock c).After-stop-stop))

pub repeat-requires-clause-free : goal.repeat-requires-clause-free
repeat-requires-clause-free c x left is =
    let k = c.in_ok-check_lent.ensures.ok in
    let p = passed (goal.at.repeat-requires-clause-free c).After-pass_stop-stepped in
    let answer = ap (λ s. Ok s) (sym (c.in-Moved.is ∙ ap (λ a. Moved a) is)) ∙ c.pass_stop-stepped.ensures.answer in
    let frees : c.stop-stop.result ≡ stop.Free x = ends_by c.take_end.new.self.seen c.args.call c.stop-stop.result p.next p.free (did.Free x left) answer in
    stops_here c.args.lent.now c.requires k.0 k.2 k.3 c.deref-in-Moved.result.now (stop.Free x) (shape_behind (goal.at.repeat-requires-clause-free c).After-deref-in-Moved (passed (goal.at.repeat-requires-clause-free c).After-pass_stop-stepped).parents) (subst (Stops (with_call k.0 c.args.lent.now.to)) frees (stops_so (goal.at.repeat-requires-clause-free c).After-stop-stop))

-- both states were the same before the action, and the action was done to both
pub returns-in-Moved-clause-ok : goal.returns-in-Moved-clause-ok
returns-in-Moved-clause-ok c =
    let k = c.in_ok-check_lent.ensures.ok in
    let p = passed (goal.at.returns-in-Moved-clause-ok c).After-pass_stop-stepped in
    let here = shape_behind (goal.at.returns-in-Moved-clause-ok c).After-deref-in-Moved p.parents in
    let goes_on : is_done c.args.call c.pass_stop-stepped.new.self.seen.past ≡ false = none_reply _ _ (sym (ap option_copied c.in_default-reply.is) ∙ c.reply.ensures) in
    let after = c.pass_stop-stepped.ensures.after ∙ ap (λ s. after_step c.take_end.new.self.seen c.args.call (Ok s)) c.in-Moved.is in
    let no_end = is_no_end c.take_end.new.self.seen c.pass_stop-stepped.new.self.seen c.args.call c.in-Moved.action after goes_on in
    let turned = c.pass_stop-stepped.ensures.turned c.in-Moved.action c.in-Moved.is no_end (with_call k.0 c.args.lent.now.to) p.kept in
    let act = λ (code : CodeValue) (ps : List ℕ). after_action code.instrs ps c.args.lent.now.to c.in-Moved.action in
    let state : act k.0.code k.0.parents ≡ c.repeat.new.self.to = ap (λ code. act code k.0.parents) k.2.0 ∙ ap (act c.args.lent.now.code) here ∙ ap (λ l. l.to) (sym c.repeat.ensures.exact) in
    record {
      segment = segment_of k.0 c.args.lent.now.to c.stop-stop.result;
      kept = k.1;
      is_from = k.2;
      to = refl;
      is_segment = its_segment c.args.lent.now c.requires k.0 k.2 k.3 c.stop-stop.result (stops_so (goal.at.returns-in-Moved-clause-ok c).After-stop-stop);
      led = (p.gone, refl, turned ∙ ap (λ d. Some (with_call k.0 d)) state);
      turn = subst (λ ps. IsTurn k.0.code.instrs ps c.repeat.new.self.to) (sym here) (subst (λ code. IsTurn code.instrs c.deref-in-Moved.result.now c.repeat.new.self.to) (sym k.2.0) c.repeat.ensures.turn);
      same = c.repeat.ensures.exact ∙ ap (λ d. let l : LentValue = record { code = c.args.lent.now.code; from = c.args.lent.now.from; to = d } in l) (ap (λ l. l.to) (sym c.repeat.ensures.exact));
      stays = tt;
      known = tt;
      turns = λ d other. c.pass_stop-stepped.ensures.turns d other ∙ c.take_end.ensures.turns d other;
    }

-- a call whose stop isn't held by another call does an action
pub unreachable-requires : goal.unreachable-requires
unreachable-requires c =
    let p = passed (goal.at.unreachable-requires c).After-pass_stop-stepped in
    let b = stop_step c.take_end.new.self.seen c.args.call c.stop-stop.result p.next p.free in
    let both : Ok c.pass_stop-stepped.result ≡ Ok (Moved b.0) = c.pass_stop-stepped.ensures.answer ∙ b.1 in
    let same_step : c.pass_stop-stepped.result ≡ Moved b.0 = cc in
    c.in_default-stepped.not-Moved b.0 same_step
