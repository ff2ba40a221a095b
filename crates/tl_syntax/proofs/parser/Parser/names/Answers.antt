use Rattle.std.proofs.Common.{rules}
use Rattle.tl_syntax.proofs.DeclarationLemmas.{first_name, next_name}
use Rattle.tl_syntax.proofs.parser.Parser.names.Goals as goal

pub loop-init : goal.loop-init
loop-init c = first_name c.in_ok-push.ensures.items (search rules) c.in_ok-name.ensures

pub loop-preserved : goal.loop-preserved
loop-preserved c = next_name c.in_ok-push-2.ensures.items c.loop.invariant c.in-Some.ensures c.in_ok-name-2.ensures
