-- The tokens read so far denote the names.
use Rattle.tl_syntax.specs.Statements.{AreNames}
use Rattle.tl_syntax.proofs.parser.Parser.names.Given as goal

abbrev pub invariant-loop : goal.invariant-loop
invariant-loop l = AreNames l.self.tokens.now l.fn.at l.next l.names.items
