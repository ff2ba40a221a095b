use Rattle.std.proofs.Common.{rules, ◌≡◌, ◌≢◌, ◌+◌, ◌∷◌, length, get_or, take, drop, reverse, sym, ap, ◌∙◌, subst, arith}
use Rattle.std.specs.Prelude.{IfErr}
use Rattle.std.proofs.lemmas.Result.{IfErr-weaker}
use Rattle.std.proofs.lemmas.List.{length-reverse, length-take-le}
use Rattle.tl_tree_locking.specs.declared.event.Event.TheVariants.{Admit}
use Rattle.tl_tree_locking.proofs.Pasts.{past_one_more}
use Rattle.tl_trail.specs.Clean.{AreRight, IsRight}
use Rattle.tl_audit.specs.declared.fault.AuditFault.TheVariants.{Memory}
use Rattle.tl_audit.specs.Findings.{IsWrong, IsFirstEventFault}
use Rattle.tl_audit.specs.Replaying.{IsAt, IsFollowed}
use Rattle.tl_audit.specs.Watching.{Shows, IsNext}
use Rattle.tl_audit.proofs.SeenEvents.{event_at, first_wrong, past_split}
use Rattle.tl_audit.proofs.auditing.see_all.Goals as goal

pub returns-in_err-judge-clause-fault : goal.returns-in_err-judge-clause-fault
returns-in_err-judge-clause-fault g c =
    let t = c.args.trail.now in
    let events = c.events-events.result.now in
    let i = c.loop-number.number in
    let e = get_or events i (Admit 0) in
    let past = reverse (take i events) in
    let whole = c.events-events.ensures.past ∙ c.history.ensures.past in
    let inside = c.loop-number-test.true in
    let same = c.deref.ensures ∙ c.shape-shape.ensures.shape ∙ ap (λ u. u.parents) c.opening.ensures.tree in
    let shows = subst (λ ps. Shows ps t.opening (length t.calls) c.loop-number.watch past) (sym same) c.loop-number.invariant.shows in
    let right = subst (λ ps. AreRight ps t.opening past) (sym same) c.loop-number.invariant.right in
    let up_to = length-take-le i events (omega arith) in
    let count = sym (length-reverse (take i events) ∙ up_to) in
    let wrong : IfErr c.judge.result (λ f. f ≢ Memory → IsFirstEventFault t f) =
    IfErr-weaker c.judge.result _ (λ f. f ≢ Memory → IsFirstEventFault t f)
    (λ f w _. first_wrong t events whole i inside c.loop-number.invariant.right f
    (subst (λ ps. IsWrong ps t.opening past e f) same (w t.opening (length t.calls) past shows right count))) c.judge.ensures.wrong in
    search rules

pub follow-requires-clause-call : goal.follow-requires-clause-call
follow-requires-clause-call g c =
    let events = c.events-events.result.now in
    let whole = c.events-events.ensures.past ∙ c.history.ensures.past in
    (event_at c.args.trail.now c.history.ensures.trail events whole c.loop-number.number c.loop-number-test.true).call

pub note-requires-clause-next : goal.note-requires-clause-next
note-requires-clause-next g c =
    let t = c.args.trail.now in
    let events = c.events-events.result.now in
    let i = c.loop-number.number in
    let e = get_or events i (Admit 0) in
    let past = reverse (take i events) in
    let before = c.loop-number.invariant in
    let whole = c.events-events.ensures.past ∙ c.history.ensures.past in
    let parents = c.shape-shape.ensures.shape ∙ ap (λ u. u.parents) c.opening.ensures.tree in
    let same = c.deref.ensures ∙ parents in
    let shows = subst (λ ps. Shows ps t.opening (length t.calls) c.loop-number.watch past) (sym same) before.shows in
    let right = subst (λ ps. AreRight ps t.opening past) (sym same) before.right in
    let own = subst (λ ps. IsRight ps t.opening past e) same (c.in_ok-judge.ensures.right t.opening (length t.calls) past shows right) in
    subst (λ ps. IsNext ps c.loop-number.watch e) (sym (c.deref-in-loop-number.ensures ∙ parents)) (record {
      opening = t.opening;
      calls = length t.calls;
      past = past;
      shows = before.shows;
      right = (own, before.right);
      event = event_at t c.history.ensures.trail events whole i c.loop-number-test.true;
    })

pub loop-number-preserved : goal.loop-number-preserved
loop-number-preserved g c =
    let t = c.args.trail.now in
    let events = c.events-events.result.now in
    let i = c.loop-number.number in
    let e = get_or events i (Admit 0) in
    let past = reverse (take i events) in
    let before = c.loop-number.invariant in
    let whole = c.events-events.ensures.past ∙ c.history.ensures.past in
    let parents = c.shape-shape.ensures.shape ∙ ap (λ u. u.parents) c.opening.ensures.tree in
    let same = c.deref.ensures ∙ parents in
    let now = c.deref-in-loop-number.ensures ∙ parents in
    let shows = subst (λ ps. Shows ps t.opening (length t.calls) c.loop-number.watch past) (sym same) before.shows in
    let right = subst (λ ps. AreRight ps t.opening past) (sym same) before.right in
    let own = subst (λ ps. IsRight ps t.opening past e) same (c.in_ok-judge.ensures.right t.opening (length t.calls) past shows right) in
    let one_more : e ∷ past ≡ reverse (take (i + 1) events) = sym (past_one_more events i (Admit 0) c.loop-number-test.true) in
    let shown = subst (λ ps. Shows ps t.opening (length t.calls) c.loop-number.watch past) (sym now) before.shows in
    let righted = subst (λ ps. AreRight ps t.opening (e ∷ past)) (sym now) (own, before.right) in
    let noted = subst (λ ps. Shows ps t.opening (length t.calls) c.note.new.self (e ∷ past)) now (c.note.ensures t.opening (length t.calls) past shown righted) in
    let at : IsAt t (reverse (drop (i + 1) events)) e past = record { split = sym whole ∙ past_split events i c.loop-number-test.true; right = (own, before.right) } in
    record {
      shows = subst (Shows t.parents t.opening (length t.calls) c.note.new.self) one_more noted;
      followed = subst (λ p. IsFollowed t p c.follow.new.self) one_more (c.in_ok-follow.ensures (reverse (drop (i + 1) events)) past at before.followed);
      right = subst (AreRight t.parents t.opening) one_more (own, before.right);
    }
