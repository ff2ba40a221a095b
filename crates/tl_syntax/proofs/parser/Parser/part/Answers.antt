use Rattle.tl_syntax.specs.Declarations.{part}
use Rattle.tl_syntax.proofs.parser.Parser.part.Goals as goal

pub returns : goal.returns
returns c = part c.in_ok-at.ensures c.in_ok-name.ensures.read c.in_ok-name.ensures.no_loop c.in_ok-name.ensures.no_found c.in_ok-at-2.ensures c.in_ok-parameters.ensures c.in_ok-body.ensures c.in_ok-check_returns.ensures c.saturating_sub-size.ensures
