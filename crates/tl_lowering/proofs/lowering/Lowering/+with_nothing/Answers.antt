use Rattle.std.proofs.Common.{◌≡◌, ◌+◌, ◌-◌, ◌∙◌, ℕ, ap, arith, refl}
use Rattle.tl_lowering.specs.Scopes.{View}
use Rattle.tl_lowering.proofs.FoundLemmas.{no_zeros, more_zeros}
use Rattle.tl_lowering.proofs.GivenLemmas.{lowered_as}
use Rattle.tl_lowering.proofs.PathLemmas.{ok_more}
use Rattle.tl_lowering.proofs.WriteLemmas.{computed_lowered, computed_entering}
use Rattle.tl_lowering.proofs.lowering.Lowering.+with_nothing.Goals as goal

pub returns-then-count-eq0-clause-named : goal.returns-then-count-eq0-clause-named
returns-then-count-eq0-clause-named t c = no_zeros (omega (arith, c.if-count-eq0.true))

pub returns-clause-named : goal.returns-clause-named
returns-clause-named t c =
    ok_more c.with_nothing.result _ _ c.with_nothing.ensures.named (λ l h. more_zeros (omega arith) c.in_ok-last.ensures c.in_ok-body.ensures.named h)

pub returns-clause-entering : goal.returns-clause-entering
returns-clause-entering t c = λ entering. c.with_nothing.ensures.entering (computed_entering c.in_ok-body.ensures.named entering c.in_ok-body.ensures.entering)

pub returns-clause-lowered : goal.returns-clause-lowered
returns-clause-lowered t c = λ scope same l.
    let left : ℕ = c.args.count - 1 in
    let body = lowered_as (record scope { values = scope.values + c.args.count }) (record scope { values = scope.values + left + 1 }) c.args.held (omega arith) refl refl l in
    c.with_nothing.ensures.lowered scope same
    (computed_lowered (scope.values + left) c.in_ok-last.last scope c.args.held (c.in_ok-last.ensures ∙ ap (λ z. z + left) same) c.in_ok-body.ensures.named tt (omega arith) body c.in_ok-body.ensures.flow)
