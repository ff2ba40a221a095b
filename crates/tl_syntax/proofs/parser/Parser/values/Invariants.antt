-- The tokens read so far denote the expressions.
use Rattle.tl_syntax.specs.Statements.{AreExpressions}
use Rattle.tl_syntax.proofs.parser.Parser.values.Given as goal

abbrev pub invariant-loop : goal.invariant-loop
invariant-loop l = AreExpressions l.self.tokens.now l.fn.levels l.fn.at l.next l.values.items
