use mir.Val.{to_z, of_z}
use Rattle.std.proofs.Common.{◌≡◌, w64, rules}
use Rattle.tl_lowering.specs.Naming.{number, field, children, negated, operation}
use Rattle.tl_lowering.proofs.NumberLemmas.{number_at}
use Rattle.tl_lowering.proofs.PathLemmas.{ok_more}
use Rattle.tl_lowering.proofs.scope.Scope.+number.Goals as goal

pub returns-in-Number-clause-named : goal.returns-in-Number-clause-named
returns-in-Number-clause-named t c =
    let same : to_z w64 (of_z w64 c.in-Number.number) ≡ c.in-Number.number = search rules in
    rw c.in-Number.is (ok_more c.literal.result _ _ c.literal.ensures.named (λ e l. number (rw same at l)))

pub returns-in-Number-clause-readable : goal.returns-in-Number-clause-readable
returns-in-Number-clause-readable t c = c.literal.ensures.readable _ _

pub returns-in-Named-clause-named : goal.returns-in-Named-clause-named
returns-in-Named-clause-named t c = rw c.in-Named.is c.named.ensures.named

pub returns-in-Named-clause-readable : goal.returns-in-Named-clause-readable
returns-in-Named-clause-readable t c = c.named.ensures.readable _

pub returns-in_ok-field-in-Field-clause-named : goal.returns-in_ok-field-in-Field-clause-named
returns-in_ok-field-in-Field-clause-named t c = rw c.in-Field.is (field c.in_ok-node-in-Field.ensures.meaning c.in_ok-field-in-Field.ensures)

pub returns-in_ok-node-in-Children-clause-named : goal.returns-in_ok-node-in-Children-clause-named
returns-in_ok-node-in-Children-clause-named t c = rw c.in-Children.is (children c.in_ok-node-in-Children.ensures.meaning)

pub returns-in_ok-operand-in-Negated-clause-named : goal.returns-in_ok-operand-in-Negated-clause-named
returns-in_ok-operand-in-Negated-clause-named t c =
    rw c.in-Negated.is
    (ok_more c.calculated.result _ _ c.calculated.ensures.named (λ e h. negated (number_at c.deref.ensures c.in_ok-operand-in-Negated.ensures.named) h))

pub returns-in_ok-operand-in-Negated-clause-readable : goal.returns-in_ok-operand-in-Negated-clause-readable
returns-in_ok-operand-in-Negated-clause-readable t c = c.calculated.ensures.readable _ _ tt c.in_ok-operand-in-Negated.ensures.readable

pub returns-in_ok-right-in-Calculated-clause-named : goal.returns-in_ok-right-in-Calculated-clause-named
returns-in_ok-right-in-Calculated-clause-named t c =
    rw c.in-Calculated.is
    (ok_more c.calculated-in-Calculated.result _ _ c.calculated-in-Calculated.ensures.named
    (λ e h. operation (number_at c.deref-in-Calculated.ensures c.in_ok-left-in-Calculated.ensures.named) (number_at c.deref-in-Calculated-2.ensures c.in_ok-right-in-Calculated.ensures.named) h))

pub returns-in_ok-right-in-Calculated-clause-readable : goal.returns-in_ok-right-in-Calculated-clause-readable
returns-in_ok-right-in-Calculated-clause-readable t c =
    c.calculated-in-Calculated.ensures.readable _ _ c.in_ok-left-in-Calculated.ensures.readable c.in_ok-right-in-Calculated.ensures.readable
