use Rattle.std.proofs.Common.{arith, ap, length}
use Rattle.tl_lowering.proofs.FoundLemmas.{nothing_left, more_left, assigned_lowered, assigned_entering}
use Rattle.tl_lowering.proofs.PathLemmas.{ok_more, both_ok}
use Rattle.tl_lowering.proofs.lowering.Lowering.+left_with.Goals as goal

pub left_with-requires : goal.left_with-requires
left_with-requires t c =
    let shorter = ap length c.in-Some.ensures.cases.0 in (omega (arith, shorter, c.decreases), (c.requires.at, (c.requires.lowered, c.requires.entering)))

pub returns-in_default-clause-named : goal.returns-in_default-clause-named
returns-in_default-clause-named t c = nothing_left _ c.args.values.now c.in_default.ensures.cases

pub returns-clause-named : goal.returns-clause-named
returns-clause-named t c =
    ok_more c.assigned.result _ _ c.assigned.ensures.named (λ l h. more_left c.in-Some.ensures.cases.0 c.in_ok-register.ensures c.in_ok-number.ensures.named c.in_ok-number.ensures.fits c.in_ok-rest.ensures.named h)

pub returns-clause-lowered : goal.returns-clause-lowered
returns-clause-lowered t c =
    both_ok c.assigned.result _ _ _ c.assigned.ensures.named c.assigned.ensures.flow (λ l h f. assigned_lowered c.in_ok-check_in_use.ensures c.in_ok-number.ensures.readable h c.in_ok-rest.ensures.lowered f)

pub returns-clause-entering : goal.returns-clause-entering
returns-clause-entering t c = both_ok c.assigned.result _ _ _ c.assigned.ensures.named c.assigned.ensures.entering (λ l h f. assigned_entering h c.in_ok-rest.ensures.entering f)
