use Rattle.tl_syntax.specs.Statements.{found_names}
use Rattle.tl_syntax.proofs.parser.Parser.found_names.Goals as goal

pub returns : goal.returns
returns c = found_names c.in_ok-at.ensures c.in_ok-names.ensures c.in_ok-at-2.ensures
