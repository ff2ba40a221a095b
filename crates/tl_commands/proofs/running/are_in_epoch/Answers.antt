use Rattle.std.proofs.Common.{refl, sym, subst}
use Rattle.std.specs.List.{All}
use Rattle.std.proofs.lemmas.List.{take_all}
use Rattle.std.proofs.lemmas.List.Elements.{All-more}
use Rattle.tl_commands.specs.Run.{IsInEpoch}
use Rattle.tl_commands.proofs.running.are_in_epoch.Goals as goal
use Rattle.tl_commands.proofs.running.are_in_epoch.Goals.{in-Ok+else-receipt-epoch, in_default}

pub loop-answer-preserved : goal.loop-answer-preserved
loop-answer-preserved c =
    let one : IsInEpoch c.args.epoch c.answer-item.result = elim c.match-answer.branch [
      | in-Ok+else-receipt-epoch w ↦ subst (IsInEpoch c.args.epoch) (sym w.in-Ok.is) w.if-receipt-epoch.false
      | in_default w ↦ subst (IsInEpoch c.args.epoch) (sym w.in_default.is) tt
    ] in
    All-more (IsInEpoch c.args.epoch) c.args.answers.now c.loop-answer.answer-index c.answer-item.result c.loop-answer-test.true c.loop-answer.invariant
    (subst (IsInEpoch c.args.epoch) c.answer-item.is one)

pub returns : goal.returns
returns c = (λ _. subst (All (IsInEpoch c.args.epoch)) (take_all c.loop-answer.answer-index c.args.answers.now c.loop-answer-test.false) c.loop-answer.invariant, λ _. refl)
