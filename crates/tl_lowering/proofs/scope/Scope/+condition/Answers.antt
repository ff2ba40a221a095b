use Rattle.tl_lowering.specs.Naming.{comparison, negation, conjunction, disjunction}
use Rattle.tl_lowering.proofs.NumberLemmas.{condition_at, compared_at}
use Rattle.tl_lowering.proofs.PathLemmas.{ok_more}
use Rattle.tl_lowering.proofs.scope.Scope.+condition.Goals as goal

pub returns-in-Compared-clause-named : goal.returns-in-Compared-clause-named
returns-in-Compared-clause-named t c =
    rw c.in-Compared.is
    (ok_more c.comparison.result _ _ c.comparison.ensures.named (λ e h. comparison (compared_at c.deref.ensures c.deref-in-Compared.ensures h)))

pub returns-in_ok-condition-in-Not-clause-named : goal.returns-in_ok-condition-in-Not-clause-named
returns-in_ok-condition-in-Not-clause-named t c =
    rw c.in-Not.is
    (ok_more c.negated.result _ _ c.negated.ensures.named (λ e h. negation (condition_at c.deref-in-Not.ensures c.in_ok-condition-in-Not.ensures.named) h))

pub returns-in_ok-second-in-And-clause-named : goal.returns-in_ok-second-in-And-clause-named
returns-in_ok-second-in-And-clause-named t c =
    rw c.in-And.is
    (ok_more c.both.result _ _ c.both.ensures.named
    (λ e h. conjunction (condition_at c.deref-in-And.ensures c.in_ok-first-in-And.ensures.named) (condition_at c.deref-in-And-2.ensures c.in_ok-second-in-And.ensures.named) h))

pub returns-in_ok-both-in-Or-clause-named : goal.returns-in_ok-both-in-Or-clause-named
returns-in_ok-both-in-Or-clause-named t c =
    rw c.in-Or.is
    (ok_more c.negated-in-Or-3.result _ _ c.negated-in-Or-3.ensures.named
    (λ e h.
    disjunction (condition_at c.deref-in-Or.ensures c.in_ok-condition-in-Or.ensures.named) (condition_at c.deref-in-Or-2.ensures c.in_ok-condition-in-Or-2.ensures.named)
    c.in_ok-first-in-Or.ensures.named c.in_ok-second-in-Or.ensures.named c.in_ok-both-in-Or.ensures.named h))

pub returns-in_ok-condition-in-Not-clause-testable : goal.returns-in_ok-condition-in-Not-clause-testable
returns-in_ok-condition-in-Not-clause-testable t c = c.negated.ensures.testable _ _ c.in_ok-condition-in-Not.ensures.testable

pub returns-in_ok-second-in-And-clause-testable : goal.returns-in_ok-second-in-And-clause-testable
returns-in_ok-second-in-And-clause-testable t c = c.both.ensures.testable _ _ c.in_ok-first-in-And.ensures.testable c.in_ok-second-in-And.ensures.testable

pub returns-in_ok-both-in-Or-clause-testable : goal.returns-in_ok-both-in-Or-clause-testable
returns-in_ok-both-in-Or-clause-testable t c =
    let first = c.in_ok-first-in-Or.ensures.testable _ _ c.in_ok-condition-in-Or.ensures.testable in
    let second = c.in_ok-second-in-Or.ensures.testable _ _ c.in_ok-condition-in-Or-2.ensures.testable in
    c.negated-in-Or-3.ensures.testable _ _ (c.in_ok-both-in-Or.ensures.testable _ _ first second)
