use mir.Val.{to_z, of_z}
use Rattle.std.proofs.Common.{◌≡◌, ◌∙◌, sym, w64, rules}
use Rattle.tl_lowering.specs.Naming.{constant, value, index}
use Rattle.tl_lowering.proofs.PathLemmas.{ok_more}
use Rattle.tl_lowering.proofs.scope.Scope.named.Goals as goal

pub returns-in-Constant-clause-named : goal.returns-in-Constant-clause-named
returns-in-Constant-clause-named c =
    let same : to_z w64 (of_z w64 c.in-Constant.number) ≡ c.in-Constant.number = search rules in
    ok_more c.literal.result _ _ c.literal.ensures.named (λ e l. constant (sym c.in_ok-number.ensures ∙ c.in-Constant.is) (rw same at l))

pub returns-in-Constant-clause-readable : goal.returns-in-Constant-clause-readable
returns-in-Constant-clause-readable c = λ held. c.literal.ensures.readable _ held

pub returns-in-Value-clause-named : goal.returns-in-Value-clause-named
returns-in-Value-clause-named c = value (sym c.in_ok-number.ensures ∙ c.in-Value.is)

pub returns-in-Index-clause-named : goal.returns-in-Index-clause-named
returns-in-Index-clause-named c = index (sym c.in_ok-number.ensures ∙ c.in-Index.is)
