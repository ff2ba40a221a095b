use Rattle.tl_warnings.proofs.FailingLemmas.{fails_at}
use Rattle.tl_warnings.specs.Failing.{number, named, field, children, negated, calculated, compared, negation, conjunction, disjunction}
use Rattle.tl_warnings.proofs.failing.+may_fail.Goals as goal

pub returns-in-Number : goal.returns-in-Number
returns-in-Number t c = rw c.in-Number.is number

pub returns-in-Named : goal.returns-in-Named
returns-in-Named t c = rw c.in-Named.is named

pub returns-in-Field : goal.returns-in-Field
returns-in-Field t c = rw c.in-Field.is field

pub returns-in-Children : goal.returns-in-Children
returns-in-Children t c = rw c.in-Children.is children

pub returns-in-Negated : goal.returns-in-Negated
returns-in-Negated t c = rw c.in-Negated.is negated

pub returns-in-Calculated : goal.returns-in-Calculated
returns-in-Calculated t c = rw c.in-Calculated.is calculated

pub returns-in-Compared : goal.returns-in-Compared
returns-in-Compared t c = rw c.in-Compared.is (compared (fails_at c.deref.ensures c.may_fail.ensures) (fails_at c.deref-in-Compared.ensures c.may_fail-in-Compared.ensures))

pub returns-in-Not : goal.returns-in-Not
returns-in-Not t c = rw c.in-Not.is (negation (fails_at c.deref-in-Not.ensures c.may_fail-in-Not.ensures))

pub returns-in-And : goal.returns-in-And
returns-in-And t c = rw c.in-And.is (conjunction (fails_at c.deref-in-And.ensures c.may_fail-in-And.ensures) (fails_at c.deref-in-And-2.ensures c.may_fail-in-And-2.ensures))

pub returns-in-Or : goal.returns-in-Or
returns-in-Or t c = rw c.in-Or.is (disjunction (fails_at c.deref-in-Or.ensures c.may_fail-in-Or.ensures) (fails_at c.deref-in-Or-2.ensures c.may_fail-in-Or-2.ensures))
