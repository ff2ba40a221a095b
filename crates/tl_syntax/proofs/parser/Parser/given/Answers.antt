use Rattle.std.proofs.Common.{rules}
use Rattle.tl_syntax.specs.Statements.{some_given}
use Rattle.tl_syntax.proofs.StatementLemmas.{none_given}
use Rattle.tl_syntax.proofs.parser.Parser.given.Goals as goal

pub returns-in-Some : goal.returns-in-Some
returns-in-Some c = none_given (search rules) c.in-Some.ensures

pub returns : goal.returns
returns c = some_given c.in_ok-values.ensures c.in_ok-at.ensures
