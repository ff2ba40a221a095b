use Rattle.tl_syntax.specs.Statements.{fails_with, breaks_with, leaves}
use Rattle.tl_syntax.proofs.parser.Parser.way_out.Goals as goal

pub returns-then-has_code-clause-read : goal.returns-then-has_code-clause-read
returns-then-has_code-clause-read c = fails_with c.in_ok-next.ensures c.in_ok-code.ensures

pub returns-then-has_numbers-clause-read : goal.returns-then-has_numbers-clause-read
returns-then-has_numbers-clause-read c = breaks_with c.in_ok-next-2.ensures c.in_ok-next-3.ensures c.in_ok-values.ensures

pub returns-in-Some-clause-read : goal.returns-in-Some-clause-read
returns-in-Some-clause-read c = leaves c.in-Some.ensures
