use Rattle.tl_warnings.proofs.ReadingLemmas.{reads_at}
use Rattle.tl_warnings.specs.Reading.{number, field, children, named, negated, calculated, compared, negation, conjunction, disjunction}
use Rattle.tl_warnings.proofs.reading.+reads.Goals as goal

pub returns-in-Number : goal.returns-in-Number
returns-in-Number t c = rw c.in-Number.is number

pub returns-in-Field : goal.returns-in-Field
returns-in-Field t c = rw c.in-Field.is field

pub returns-in-Children : goal.returns-in-Children
returns-in-Children t c = rw c.in-Children.is children

pub returns-in-Named : goal.returns-in-Named
returns-in-Named t c = rw c.in-Named.is named

pub returns-in-Negated : goal.returns-in-Negated
returns-in-Negated t c = rw c.in-Negated.is (negated (reads_at c.deref.ensures c.reads.ensures))

pub returns-in-Calculated : goal.returns-in-Calculated
returns-in-Calculated t c = rw c.in-Calculated.is (calculated (reads_at c.deref-in-Calculated.ensures c.reads-in-Calculated.ensures) (reads_at c.deref-in-Calculated-2.ensures c.reads-in-Calculated-2.ensures))

pub returns-in-Compared : goal.returns-in-Compared
returns-in-Compared t c = rw c.in-Compared.is (compared (reads_at c.deref-in-Compared.ensures c.reads-in-Compared.ensures) (reads_at c.deref-in-Compared-2.ensures c.reads-in-Compared-2.ensures))

pub returns-in-Not : goal.returns-in-Not
returns-in-Not t c = rw c.in-Not.is (negation (reads_at c.deref-in-Not.ensures c.reads-in-Not.ensures))

pub returns-in-And : goal.returns-in-And
returns-in-And t c = rw c.in-And.is (conjunction (reads_at c.deref-in-And.ensures c.reads-in-And.ensures) (reads_at c.deref-in-And-2.ensures c.reads-in-And-2.ensures))

pub returns-in-Or : goal.returns-in-Or
returns-in-Or t c = rw c.in-Or.is (disjunction (reads_at c.deref-in-Or.ensures c.reads-in-Or.ensures) (reads_at c.deref-in-Or-2.ensures c.reads-in-Or-2.ensures))
