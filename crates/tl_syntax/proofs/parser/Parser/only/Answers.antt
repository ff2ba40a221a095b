use Rattle.std.proofs.Common.{rules, refl}
use Rattle.tl_syntax.proofs.StatementLemmas.{only_pushed}
use Rattle.tl_syntax.proofs.parser.Parser.only.Goals as goal

pub returns : goal.returns
returns c = only_pushed c.in_ok-push.ensures.items (search rules) refl refl
