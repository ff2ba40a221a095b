use Rattle.std.proofs.Common.{rules}
use Rattle.tl_syntax.specs.Declarations.{some_taken}
use Rattle.tl_syntax.proofs.DeclarationLemmas.{none_taken}
use Rattle.tl_syntax.proofs.parser.Parser.taken.Goals as goal

pub returns-in-Some : goal.returns-in-Some
returns-in-Some c = none_taken (search rules) c.in-Some.ensures

pub returns : goal.returns
returns c = some_taken c.in_ok-parameters.ensures c.in_ok-at.ensures
