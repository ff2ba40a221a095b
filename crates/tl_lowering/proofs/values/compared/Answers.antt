use Rattle.tl_lowering.proofs.values.compared.Goals as goal

pub returns-in-LessOrEqual-clause-testable : goal.returns-in-LessOrEqual-clause-testable
returns-in-LessOrEqual-clause-testable c = λ values held left right. c.negated.ensures.testable values held (left, right)

pub returns-in-GreaterOrEqual-clause-testable : goal.returns-in-GreaterOrEqual-clause-testable
returns-in-GreaterOrEqual-clause-testable c = λ values held left right. c.negated-in-GreaterOrEqual.ensures.testable values held (left, right)

pub returns-in-NotEqual-clause-testable : goal.returns-in-NotEqual-clause-testable
returns-in-NotEqual-clause-testable c = λ values held left right. c.negated-in-NotEqual.ensures.testable values held (left, right)
