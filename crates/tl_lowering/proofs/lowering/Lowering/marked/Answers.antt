use Rattle.std.proofs.Common.{rules, ◌≡◌, ◌∙◌, Some, sym, subst, to_z, of_z, w32}
use Rattle.std.specs.Prelude.{IfOk}
use Rattle.tl_syntax.specs.Codes.{code_of}
use Rattle.tl_lowering.specs.declared.program.Expression.TheVariants as E
use Rattle.tl_lowering.specs.declared.program.Statement.TheVariants as S
use Rattle.tl_lowering.specs.Failing.{IsMarked, not_read, sure, marked}
use Rattle.tl_lowering.specs.Naming.{IsThen}
use Rattle.tl_lowering.specs.Scopes.{view_of, IsLowered}
use Rattle.tl_lowering.proofs.MarkLemmas.{marked_lowered, marked_entering}
use Rattle.tl_lowering.proofs.PathLemmas.{ok_more}
use Rattle.tl_lowering.proofs.lowering.Lowering.marked.Goals as goal

pub returns-in_default-clause-named : goal.returns-in_default-clause-named
returns-in_default-clause-named c = subst (λ z. IsMarked z c.args.statement c.args.statement) (sym c.in_default.is ∙ c.in_ok-register.ensures.same) not_read

pub returns-in_default-own_failure-clause-named : goal.returns-in_default-own_failure-clause-named
returns-in_default-own_failure-clause-named c =
    subst (λ z. IsMarked z c.args.statement c.args.statement) (sym c.in-Some.is ∙ c.in_ok-register.ensures.same) (sure (sym c.own_failure.ensures ∙ c.in_default-own_failure.is))

pub returns-clause-named : goal.returns-clause-named
returns-clause-named c =
    let code : Some c.in-Some.register ≡ c.args.readers.now.code = sym c.in-Some.is ∙ c.in_ok-register.ensures.same in
    let number : to_z w32 (of_z w32 c.code.result) ≡ c.code.result = search rules in
    ok_more c.then.result _ _ c.then.ensures.named
    (λ s h.
    subst (λ z. IsMarked z c.args.statement s) code
    (marked (sym c.own_failure.ensures ∙ c.in-Some-own_failure.is) (subst (λ z. IsThen (S.Assign c.in-Some.register (E.Constant z)) c.args.statement s) (number ∙ c.code.ensures) h)))

pub returns-clause-lowered : goal.returns-clause-lowered
returns-clause-lowered c = λ held flow x.
    ok_more c.then.result _ _ c.then.ensures.named (λ s h. marked_lowered (rw c.in-Some.is at c.in_ok-register.ensures.in_use) h x)

pub returns-clause-entering : goal.returns-clause-entering
returns-clause-entering c = λ e flow x. ok_more c.then.result _ _ c.then.ensures.named (λ s h. marked_entering h x)
