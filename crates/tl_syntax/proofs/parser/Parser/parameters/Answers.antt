use Rattle.std.proofs.Common.{rules}
use Rattle.tl_syntax.proofs.DeclarationLemmas.{first_parameter, next_parameter}
use Rattle.tl_syntax.proofs.parser.Parser.parameters.Goals as goal

pub loop-init : goal.loop-init
loop-init c = first_parameter c.in_ok-push.ensures.items (search rules) c.in_ok-parameter.ensures

pub loop-preserved : goal.loop-preserved
loop-preserved c = next_parameter c.in_ok-push-2.ensures.items c.loop.invariant c.in-Some.ensures c.in_ok-parameter-2.ensures
