use Rattle.std.proofs.Common.{◌∙◌, sym}
use Rattle.tl_syntax.specs.Declarations.{node_parameter, variable_parameter, value_parameter}
use Rattle.tl_syntax.proofs.parser.Parser.parameter.Goals as goal

pub returns-in-Some : goal.returns-in-Some
returns-in-Some c = node_parameter c.in-Some.ensures c.in_ok-name.ensures

pub returns-then-is_name : goal.returns-then-is_name
returns-then-is_name c = variable_parameter c.in_ok-after.ensures c.in_ok-name-3.ensures

pub returns : goal.returns
returns c = value_parameter c.in_ok-name-2.ensures (sym c.is_name.ensures ∙ c.if-is_name.false)
