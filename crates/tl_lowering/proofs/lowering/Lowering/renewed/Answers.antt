use Rattle.std.proofs.Common.{rules, ◌≡◌, ◌∙◌, Some, sym, subst, to_z, of_z, w32}
use Rattle.tl_syntax.specs.Codes.{code_of}
use Rattle.tl_lowering.specs.declared.loops.Repetition.{Repetition}
use Rattle.tl_lowering.specs.declared.program.Expression.TheVariants as E
use Rattle.tl_lowering.specs.declared.program.Statement.TheVariants as S
use Rattle.tl_lowering.specs.Failing.{IsRenewed, renewed}
use Rattle.tl_lowering.specs.Naming.{IsThen}
use Rattle.tl_lowering.proofs.MarkLemmas.{not_kept, renewed_entering, renewed_turn}
use Rattle.tl_lowering.proofs.PathLemmas.{ok_more}
use Rattle.tl_lowering.proofs.lowering.Lowering.renewed.Goals as goal

pub returns-in_default-clause-named : goal.returns-in_default-clause-named
returns-in_default-clause-named c = not_kept c.args.readers.now c.args.repetition.now c.args.body (sym c.in_ok-register.ensures.same ∙ c.in_default.is)

pub returns-in-Children-clause-named : goal.returns-in-Children-clause-named
returns-in-Children-clause-named c =
    let code : Some c.in-Some.register ≡ c.args.readers.now.code = sym c.in-Some.is ∙ c.in_ok-register.ensures.same in
    let number : to_z w32 (of_z w32 c.code.result) ≡ c.code.result = search rules in
    rw c.in-Children.is
    (ok_more c.then.result _ _ c.then.ensures.named
    (λ s h. subst (λ z. IsRenewed z c.args.body s) code (renewed (subst (λ z. IsThen c.args.body (S.Assign c.in-Some.register (E.Constant z)) s) (number ∙ c.code.ensures) h))))

pub returns-in-Children-clause-turn : goal.returns-in-Children-clause-turn
returns-in-Children-clause-turn c = λ start flow x.
    ok_more c.then.result _ _ c.then.ensures.named (λ s h. renewed_turn (rw c.in-Some.is at c.in_ok-register.ensures.in_use) h x)

pub returns-in-Children-clause-entering : goal.returns-in-Children-clause-entering
returns-in-Children-clause-entering c = λ e flow x. ok_more c.then.result _ _ c.then.ensures.named (λ s h. renewed_entering h x)
