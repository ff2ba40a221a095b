use Rattle.tl_syntax.specs.Statements.{bounded}
use Rattle.tl_syntax.proofs.parser.Parser.bounded_loop.Goals as goal

pub returns : goal.returns
returns c = bounded c.in_ok-otherwise.otherwise c.in_ok-turn.turn c.in_ok-otherwise.ensures c.in_ok-turn.ensures
