use Rattle.std.proofs.Common.{rules}
use Rattle.tl_syntax.specs.Declarations.{some}
use Rattle.tl_syntax.proofs.DeclarationLemmas.{no_arguments}
use Rattle.tl_syntax.proofs.parser.Parser.arguments.Goals as goal

pub returns-in-Some : goal.returns-in-Some
returns-in-Some c = no_arguments (search rules) c.in-Some.ensures

pub returns : goal.returns
returns c = some c.in_ok-names.ensures c.in_ok-at.ensures
