use Rattle.std.proofs.Common.{None, refl, rules}
use Rattle.tl_syntax.specs.Declarations.{procedure, procedure_else}
use Rattle.tl_syntax.proofs.parser.Parser.procedure.Goals as goal

pub returns-in_default : goal.returns-in_default
returns-in_default c =
    procedure {p = record { is_atomic = c.mark-is_atomic.result.0; name = c.in_ok-name.name; arguments = c.in_ok-arguments.arguments; body = c.in_ok-body.body; why = None; otherwise = c.new-nothing.result }}
    c.mark-is_atomic.ensures c.in_ok-at.ensures c.in_ok-name.ensures c.in_ok-at-2.ensures c.in_ok-arguments.ensures c.in_ok-body.ensures refl (search rules)

pub returns : goal.returns
returns c = procedure_else c.mark-is_atomic.ensures c.in_ok-at.ensures c.in_ok-name.ensures c.in_ok-at-2.ensures c.in_ok-arguments.ensures c.in_ok-body.ensures c.in-Some.ensures c.in_ok-why.ensures c.in_ok-otherwise.ensures
