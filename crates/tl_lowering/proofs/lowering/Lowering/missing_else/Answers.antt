use Rattle.std.proofs.Common.{rules, ◌≡◌, ◌∙◌, sym, subst, to_z, of_z, w32}
use Rattle.tl_lowering.specs.declared.program.Expression.TheVariants as E
use Rattle.tl_lowering.specs.Failing.{IsFailure}
use Rattle.tl_lowering.proofs.MarkLemmas.{told_where_read, untold_where_unread, untold_where_sure}
use Rattle.tl_lowering.proofs.lowering.Lowering.missing_else.Goals as goal

pub returns-in_default-clause-none : goal.returns-in_default-clause-none
returns-in_default-clause-none c = untold_where_unread _ c.in_default.is

pub returns-in_default-head_failure-clause-none : goal.returns-in_default-head_failure-clause-none
returns-in_default-head_failure-clause-none c = untold_where_sure c.args.readers.now.code (sym c.head_failure.ensures ∙ c.in_default-head_failure.is)

pub returns-clause-told : goal.returns-clause-told
returns-clause-told c =
    let number : to_z w32 (of_z w32 c.code.result) ≡ c.code.result = search rules in
    let is = sym c.head_failure.ensures ∙ c.in-Some-head_failure.is in
    record {
      failure = c.in-Some-head_failure.failure;
      told = told_where_read c.in-Some.is is;
      failure_is = is;
      leaves_code = subst (λ z. IsFailure c.args.readers.now.code (E.Constant z) c.in_ok-failure.field-0.0) (number ∙ c.code.ensures) c.in_ok-failure.ensures.named;
    }

pub returns-clause-refusal : goal.returns-clause-refusal
returns-clause-refusal c = c.in_ok-failure.ensures.refusal

pub returns-clause-entering : goal.returns-clause-entering
returns-clause-entering c = c.in_ok-failure.ensures.entering
