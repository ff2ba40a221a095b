use Rattle.std.proofs.Common.{rules}
use Rattle.tl_syntax.specs.Statements.{code}
use Rattle.tl_syntax.proofs.parser.Parser.code.Goals as goal

pub returns : goal.returns
returns c = code c.in_ok-code.ensures (search rules)
