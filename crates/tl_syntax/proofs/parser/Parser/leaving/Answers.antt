use Rattle.tl_syntax.proofs.StatementLemmas.{leaving_only}
use Rattle.tl_syntax.proofs.parser.Parser.leaving.Goals as goal

pub returns : goal.returns
returns c = leaving_only c.in_ok-only.ensures c.in_ok-action.ensures.read c.in_ok-action.ensures.leaves c.in_ok-after.ensures c.offset.ensures
