use mir.Val.{to_z, of_z}
use Rattle.std.proofs.Common.{◌≡◌, w64, rules}
use Rattle.tl_lowering.proofs.NumberLemmas.{counts}
use Rattle.tl_lowering.proofs.scope.Scope.turns.Goals as goal

pub returns-in-Ok : goal.returns-in-Ok
returns-in-Ok c =
    let number = c.in_ok-number.number in
    let same : to_z w64 (of_z w64 number) ≡ number = search rules in
    counts _ c.in-Ok.turns c.if-turns-gt0.true c.in-Ok.ensures.0 c.in-Ok.ensures.1 same c.in_ok-number.ensures
