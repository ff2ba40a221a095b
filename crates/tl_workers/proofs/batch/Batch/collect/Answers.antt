use Rattle.std.proofs.Common.{subst, arith}
use Rattle.std.specs.Prelude.{Result}
use Rattle.std.proofs.lemmas.Grind.{common_steps}
use Rattle.tl_workers.specs.declared.asking.Asking.{Asking}
use Rattle.tl_workers.specs.declared.refusal.Refusal.{Refusal}
use Rattle.tl_workers.specs.Kept.{Answers}
use Rattle.tl_workers.proofs.Batches.{receipts-next}
use Rattle.tl_workers.proofs.batch.Batch.collect.Goals as goal

pub loop-one-preserved : goal.loop-one-preserved
loop-one-preserved g c =
    let F : Result Asking Refusal → Type 0 = λ one. Answers one c.answer-answer.result.0 in (
      receipts-next c.args.admitted.now c.loop-one.one-index c.loop-one.answers.items c.push_reserved.new.self.items c.one-item.result c.answer-answer.result.0 c.loop-one-test.true c.loop-one.invariant.0
          (subst F c.one-item.is c.answer-answer.ensures) c.push_reserved.ensures.items,
      grind (arith, common_steps),
      grind (arith, common_steps),
      grind (arith, common_steps),
    )
