use Rattle.std.proofs.Common.{refl}
use Rattle.tl_syntax.proofs.StatementLemmas.{two_pushed}
use Rattle.tl_syntax.proofs.parser.Parser.two.Goals as goal

pub returns : goal.returns
returns c = two_pushed c.in_ok-push.ensures.items c.in_ok-all.ensures refl refl refl
