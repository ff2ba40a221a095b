use Rattle.std.proofs.Common.{◌≡◌, ◌∙◌, None, Some, sym, subst}
use Rattle.tl_lowering.specs.declared.program.Statement.TheVariants as S
use Rattle.tl_lowering.specs.Failing.{IsFailure, bare, coded}
use Rattle.tl_lowering.proofs.MarkLemmas.{coded_refusal, coded_entering}
use Rattle.tl_lowering.proofs.lowering.Lowering.failure.Goals as goal

pub returns-in-None-clause-named : goal.returns-in-None-clause-named
returns-in-None-clause-named c = subst (λ z. IsFailure z c.args.code S.Fail) (sym c.in-None.is ∙ c.in_ok-code_register.ensures.same) bare

pub returns-in_ok-whole-in-Some-clause-named : goal.returns-in_ok-whole-in-Some-clause-named
returns-in_ok-whole-in-Some-clause-named c = subst (λ z. IsFailure z c.args.code c.in_ok-whole-in-Some.whole) (sym c.in-Some.is ∙ c.in_ok-code_register.ensures.same) (coded c.in_ok-whole-in-Some.ensures.named)

pub returns-in_ok-whole-in-Some-clause-refusal : goal.returns-in_ok-whole-in-Some-clause-refusal
returns-in_ok-whole-in-Some-clause-refusal c =
    coded_refusal (rw c.in-Some.is at c.in_ok-code_register.ensures.in_use) c.requires.readable c.requires.short c.in_ok-whole-in-Some.ensures.named c.failing-flow.ensures.paths

pub returns-in_ok-whole-in-Some-clause-entering : goal.returns-in_ok-whole-in-Some-clause-entering
returns-in_ok-whole-in-Some-clause-entering c = coded_entering c.requires.short c.in_ok-whole-in-Some.ensures.named c.failing-flow.ensures.entered
