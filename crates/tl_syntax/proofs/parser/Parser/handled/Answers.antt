use Rattle.std.proofs.Common.{sym, ◌∙◌}
use Rattle.tl_syntax.specs.declared.parsed.Otherwise.{Otherwise, out-Otherwise, roll-Otherwise, out-roll-Otherwise}
use Rattle.tl_syntax.specs.Statements.{unnamed, in_try}
use Rattle.tl_syntax.proofs.StatementLemmas.{in_else_told}
use Rattle.tl_syntax.proofs.parser.Parser.handled.Goals as goal

pub returns-in_default : goal.returns-in_default
returns-in_default c = rw c.in_default.is unnamed

pub returns-in_default-declaration_failure : goal.returns-in_default-declaration_failure
returns-in_default-declaration_failure c =
    rw c.in-Some.is (in_try c.in_ok-attempt.attempt (sym c.declaration_failure.ensures ∙ c.in_default-declaration_failure.is) c.in_ok-attempt.ensures)

pub returns : goal.returns
returns c =
    let p : Otherwise = roll-Otherwise (record { offset = (out-Otherwise c.args.otherwise).offset; body = c.in_ok-body.body }) in
    rw c.in-Some.is (in_else_told p c.in_ok-body.body (sym c.declaration_failure.ensures ∙ c.in-Some-declaration_failure.is) (rw out-roll-Otherwise) (rw out-roll-Otherwise) c.in_ok-body.ensures)
