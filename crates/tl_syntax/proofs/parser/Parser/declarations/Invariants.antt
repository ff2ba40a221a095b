-- The tokens read so far denote the declarations.
use Rattle.tl_syntax.specs.Declarations.{AreDeclarations}
use Rattle.tl_syntax.proofs.parser.Parser.declarations.Given as goal

abbrev pub invariant-loop : goal.invariant-loop
invariant-loop l = AreDeclarations l.self.tokens.now 0 l.at l.declarations.items
