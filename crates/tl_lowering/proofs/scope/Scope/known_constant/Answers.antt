use mir.Val.{to_z, of_z}
use Rattle.std.proofs.Common.{◌≡◌, ◌∙◌, sym, w64, rules}
use Rattle.tl_lowering.specs.Naming.{known}
use Rattle.tl_lowering.proofs.scope.Scope.known_constant.Goals as goal

pub returns-in-Constant : goal.returns-in-Constant
returns-in-Constant c =
    let same : to_z w64 (of_z w64 c.in-Constant.number) ≡ c.in-Constant.number = search rules in
    rw same (known (sym c.in_ok-number.ensures ∙ c.in-Constant.is))
