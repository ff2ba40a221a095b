use Rattle.std.proofs.Common.{◌≡◌, ◌+◌, ◌∷◌, [], ◌++◌, take, sym, ap, ap₂, ◌∙◌, subst, arith}
use Rattle.std.specs.List.{All}
use Rattle.std.proofs.lemmas.Grind.{common_steps}
use Rattle.std.proofs.lemmas.List.Elements.{All-push}
use Rattle.tl_workers.specs.Kept.{Gains, AnswersEach, asked_of, gots_of}
use Rattle.tl_workers.specs.Refusals.{AreCallRefusals}
use Rattle.tl_commands.specs.Run.{AnswersBatches, IsInEpoch, AreInEpochs, kept_of, batches_of, answers_of}
use Rattle.tl_commands.proofs.RunLemmas.{answers_more, kept_more, batches_more, answers_pushed, gains_more, epochs_more, many_answers}
use Rattle.tl_commands.proofs.running.ask_each.Goals as goal

pub loop-number-preserved : goal.loop-number-preserved
loop-number-preserved g c =
    let bs = c.args.batches.now in
    let i = c.loop-number.number in
    let b = c.index-batches-number.result in
    let before = batches_of (take i bs) in
    let all = answers_of c.loop-number.all.items in
    let a = c.in_ok-answers.answers.items in
    let old = c.args.session.now in
    let seals = c.args.engine.now.seals in
    let now = c.loop-number.session in
    let new = c.batch.new.session in
    let same : c.deref.result.now ≡ b.items = c.deref.ensures.value in
    let each : AnswersEach b.items a = subst (λ q. AnswersEach q a) same c.in_ok-answers.ensures.each in
    let gains : Gains now new (asked_of b.items a ++ gots_of a) = subst (λ q. Gains now new (asked_of q a ++ gots_of a)) same c.in_ok-answers.ensures.kept in
    let batches : batches_of (take (i + 1) bs) ≡ before ++ b.items ∷ [] = batches_more bs i b c.loop-number-test.true c.index-batches-number.is in
    let answers : answers_of c.push_reserved.new.self.items ≡ all ++ a ∷ [] = ap answers_of c.push_reserved.ensures.items ∙ answers_pushed c.loop-number.all.items c.in_ok-answers.answers in
    let more = answers_more before all b.items a c.loop-number.invariant.0 each in
    let kept = gains_more old now new (kept_of before all) (asked_of b.items a ++ gots_of a) c.loop-number.invariant.1 gains in
    let kept_is = kept_more before all b.items a c.loop-number.invariant.0 in (
      subst (λ x. AnswersBatches x (answers_of c.push_reserved.new.self.items)) (sym batches) (subst (AnswersBatches (before ++ b.items ∷ [])) (sym answers) more),
      subst (Gains old new) (sym kept_is ∙ sym (ap₂ kept_of batches answers)) kept,
      grind (arith, common_steps),
      grind (arith, common_steps),
      subst AreInEpochs (sym answers) (epochs_more all a i c.loop-number.invariant.4 (omega (arith, many_answers c.loop-number.all.items)) (subst (All (IsInEpoch i)) c.deref-in-loop-number.ensures.value (c.are_in_epoch.ensures.0 c.if-not-are_in_epoch.false))),
      subst (All (AreCallRefusals seals)) (sym answers) (All-push (AreCallRefusals seals) all a c.loop-number.invariant.5 c.in_ok-answers.ensures.refused),
    )
