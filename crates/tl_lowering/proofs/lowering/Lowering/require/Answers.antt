use Rattle.std.proofs.Common.{◌∙◌, ap, true}
use Rattle.tl_lowering.specs.Entering.{before_of}
use Rattle.tl_lowering.specs.Passing.{failing_entered}
use Rattle.tl_lowering.proofs.MarkLemmas.{required_of, required_lowered, required_entering}
use Rattle.tl_lowering.proofs.lowering.Lowering.require.Goals as goal

pub returns : goal.returns
returns c = record {
  named = required_of c.in_ok-skip.ensures c.in_ok-boxed.ensures c.in_ok-condition.ensures.named c.in_ok-number.ensures.named c.in_ok-fail.ensures.named;
  lowered =
      required_lowered c.in_ok-condition.condition c.on.result c.in_ok-skip.ensures c.in_ok-boxed.ensures c.in_ok-fail.ensures.named c.in_ok-number.ensures.short c.in_ok-fail.ensures.refusal
      c.in_ok-condition.ensures.testable c.on.ensures.paths c.failing-flow.ensures.paths;
  entering =
      required_entering (before_of c.args.held) c.in_ok-condition.condition c.in_ok-skip.ensures c.in_ok-boxed.ensures c.in_ok-fail.ensures.named c.in_ok-number.ensures.short
      (c.failing-flow.ensures.entered ∙ ap (failing_entered true (before_of c.args.held)) c.on.ensures.entered);
}
