-- None of the tokens looked at so far is the word.
use Rattle.tl_syntax.specs.Declarations.{HasNoReturn}
use Rattle.tl_syntax.proofs.parser.Parser.check_returns.Given as goal

abbrev pub invariant-loop-at : goal.invariant-loop-at
invariant-loop-at l = HasNoReturn l.self.tokens.now l.from l.at
