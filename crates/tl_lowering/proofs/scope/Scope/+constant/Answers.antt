use mir.Val.{to_z, of_z}
use Rattle.std.proofs.Common.{◌≡◌, w64, rules}
use Rattle.tl_lowering.specs.Naming.{written, opposed, combined}
use Rattle.tl_lowering.proofs.NumberLemmas.{constant_at}
use Rattle.tl_lowering.proofs.PathLemmas.{ok_more}
use Rattle.tl_lowering.proofs.scope.Scope.+constant.Goals as goal

pub returns-in-Number : goal.returns-in-Number
returns-in-Number t c =
    let same : to_z w64 (of_z w64 c.in-Number.number) ≡ c.in-Number.number = search rules in
    rw (c.in-Number.is, same) written

pub returns-in-Named : goal.returns-in-Named
returns-in-Named t c = rw c.in-Named.is c.known_constant.ensures

pub returns-in_ok-operand-in-Negated : goal.returns-in_ok-operand-in-Negated
returns-in_ok-operand-in-Negated t c =
    let operand = c.in_ok-operand-in-Negated.operand in
    let same : to_z w64 (of_z w64 operand) ≡ operand = search rules in
    rw c.in-Negated.is (ok_more c.folded.result _ _ c.folded.ensures (λ n h. opposed (constant_at c.deref.ensures c.in_ok-operand-in-Negated.ensures) (rw same at h)))

pub returns-in_ok-right-in-Calculated : goal.returns-in_ok-right-in-Calculated
returns-in_ok-right-in-Calculated t c =
    let left = c.in_ok-left-in-Calculated.left in
    let right = c.in_ok-right-in-Calculated.right in
    let same_left : to_z w64 (of_z w64 left) ≡ left = search rules in
    let same_right : to_z w64 (of_z w64 right) ≡ right = search rules in
    rw c.in-Calculated.is
    (ok_more c.folded-in-Calculated.result _ _ c.folded-in-Calculated.ensures
    (λ n h. combined (constant_at c.deref-in-Calculated.ensures c.in_ok-left-in-Calculated.ensures) (constant_at c.deref-in-Calculated-2.ensures c.in_ok-right-in-Calculated.ensures)
    (rw (same_left, same_right) at h)))
