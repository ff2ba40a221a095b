use Rattle.std.proofs.Common.{rules, arith, ◌≡◌, refl, w64}
use Rattle.std.proofs.lemmas.Result.{IfOk-weaker}
use mir.Val.{to_z, of_z}
use Rattle.tl_syntax.specs.Grammar.{IsExpression, Negation, Unary, Relation, Atom, one, more, chain, not, compared, negative, negated, grouped, plain}
use Rattle.tl_syntax.proofs.parser.Parser.+expressions.Goals as goal

pub atom-returns-in_default : goal.atom-returns-in_default
atom-returns-in_default t c = plain c.in_ok-form.ensures c.offset-offset.ensures

pub atom-returns : goal.atom-returns
atom-returns t c = rw c.in_ok-levels.ensures (grouped c.in-Some.ensures c.in_ok-inner.ensures c.in_ok-after.ensures refl c.offset-offset.ensures)

pub conjunction-loop-next-init : goal.conjunction-loop-next-init
conjunction-loop-next-init t c = record { room = omega arith; spelled = one c.in_ok-left.ensures }

pub conjunction-loop-next-preserved : goal.conjunction-loop-next-preserved
conjunction-loop-next-preserved t c = record {
  room = omega arith;
  spelled = more (rw c.in_ok-spare.ensures at c.loop-next.invariant.spelled) c.in-Some.ensures c.in_ok-right.ensures c.in_ok-left-2.ensures;
}

pub expression-loop-next-init : goal.expression-loop-next-init
expression-loop-next-init t c = record { room = omega arith; spelled = one c.in_ok-left.ensures }

pub expression-loop-next-preserved : goal.expression-loop-next-preserved
expression-loop-next-preserved t c = record {
  room = omega arith;
  spelled = more (rw c.in_ok-spare.ensures at c.loop-next.invariant.spelled) c.in-Some.ensures c.in_ok-right.ensures c.in_ok-left-2.ensures;
}

pub negation-returns-in_default : goal.negation-returns-in_default
negation-returns-in_default t c =
    let tokens = c.args.self.now.tokens.now in
    IfOk-weaker c.relation.result (λ read. IsExpression tokens c.args.levels Relation c.args.at read.1 read.0)
    (λ read. IsExpression tokens c.args.levels Negation c.args.at read.1 read.0) (λ read h. chain (one h)) c.relation.ensures

pub negation-returns : goal.negation-returns
negation-returns t c =
    rw c.in_ok-levels.ensures (not {levels = c.in_ok-levels.levels} {k = c.in_ok-operand.after} {a = c.in_ok-new.field-0} c.in-Some.ensures (rw c.in_ok-new.ensures.ok c.in_ok-operand.ensures) refl c.offset-offset.ensures)

pub product-loop-join-init : goal.product-loop-join-init
product-loop-join-init t c = record { room = omega arith; spelled = one c.in_ok-left.ensures }

pub product-loop-join-preserved : goal.product-loop-join-preserved
product-loop-join-preserved t c = record {
  room = omega arith;
  spelled = more (rw c.in_ok-spare.ensures at c.loop-join.invariant.spelled) c.in-Some.ensures c.in_ok-right.ensures c.in_ok-left-2.ensures;
}

pub relation-returns-in_default : goal.relation-returns-in_default
relation-returns-in_default t c = chain (one c.in_ok-left.ensures)

pub relation-returns : goal.relation-returns
relation-returns t c = compared c.in_ok-left.ensures c.in-Some.ensures c.in_ok-right.ensures c.in_ok-compared.ensures

pub signed-returns-in_default : goal.signed-returns-in_default
signed-returns-in_default t c =
    let tokens = c.args.self.now.tokens.now in
    IfOk-weaker c.atom.result (λ read. IsExpression tokens c.args.levels Atom c.args.at read.1 read.0)
    (λ read. IsExpression tokens c.args.levels Unary c.args.at read.1 read.0) (λ read h. chain (one h)) c.atom.ensures

pub signed-returns-in-Some-2 : goal.signed-returns-in-Some-2
signed-returns-in-Some-2 t c =
    let n = c.in-Some-2.number in
    let same : to_z w64 (of_z w64 n) ≡ n = search rules in
    rw same (negative c.in-Some.ensures (rw c.in-Some-2.is at c.in_ok-number.ensures.some) refl c.offset-offset.ensures)

pub signed-returns : goal.signed-returns
signed-returns t c =
    rw c.in_ok-levels.ensures (negated {levels = c.in_ok-levels.levels} {k = c.in_ok-operand.after} {a = c.in_ok-new.field-0} c.in-Some.ensures (rw c.in_default-2.is at c.in_ok-number.ensures.none)
    (rw c.in_ok-new.ensures.ok c.in_ok-operand.ensures) refl c.offset-offset.ensures)

pub sum-loop-operator-init : goal.sum-loop-operator-init
sum-loop-operator-init t c = record { room = omega arith; spelled = one c.in_ok-left.ensures }

pub sum-loop-operator-preserved : goal.sum-loop-operator-preserved
sum-loop-operator-preserved t c = record {
  room = omega arith;
  spelled = more (rw c.in_ok-spare.ensures at c.loop-operator.invariant.spelled) c.in-Some.ensures c.in_ok-right.ensures c.in_ok-left-2.ensures;
}

pub conjunction-returns : goal.conjunction-returns
conjunction-returns t c = chain c.loop-next.invariant.spelled

pub expression-returns : goal.expression-returns
expression-returns t c = chain c.loop-next.invariant.spelled

pub product-returns : goal.product-returns
product-returns t c = chain c.loop-join.invariant.spelled

pub sum-returns : goal.sum-returns
sum-returns t c = chain c.loop-operator.invariant.spelled
