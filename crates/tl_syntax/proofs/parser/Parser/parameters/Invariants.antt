-- The tokens read so far denote the parameters.
use Rattle.tl_syntax.specs.Declarations.{AreParameters}
use Rattle.tl_syntax.proofs.parser.Parser.parameters.Given as goal

abbrev pub invariant-loop : goal.invariant-loop
invariant-loop l = AreParameters l.self.tokens.now l.fn.at l.next l.parameters.items
