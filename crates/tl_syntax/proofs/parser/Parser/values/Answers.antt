use Rattle.std.proofs.Common.{rules}
use Rattle.tl_syntax.proofs.StatementLemmas.{first_value, next_value}
use Rattle.tl_syntax.proofs.parser.Parser.values.Goals as goal

pub loop-init : goal.loop-init
loop-init c = first_value c.in_ok-push.ensures.items (search rules) c.in_ok-value.ensures

pub loop-preserved : goal.loop-preserved
loop-preserved c = next_value c.in_ok-push-2.ensures.items c.loop.invariant c.in-Some.ensures c.in_ok-value-2.ensures
