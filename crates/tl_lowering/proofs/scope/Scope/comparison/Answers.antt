use Rattle.tl_lowering.proofs.scope.Scope.comparison.Goals as goal

pub returns-clause-testable : goal.returns-clause-testable
returns-clause-testable c = c.compared.ensures.testable _ _ c.in_ok-left.ensures.readable c.in_ok-right.ensures.readable
