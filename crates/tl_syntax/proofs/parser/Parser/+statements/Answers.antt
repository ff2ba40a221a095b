use Rattle.std.proofs.Common.{rules, sym, ◌∙◌, arith}
use Rattle.std.proofs.lemmas.Result.{IfOk-weaker}
use Rattle.tl_syntax.specs.declared.token.TokenKind.TheVariants as K
use Rattle.tl_syntax.specs.Statements.{IsBlock, IsOther, block, statement, act, act_else, try, if, if_else, loop, search as searched, IsNotFound, otherwise, repeat, repeat_at_most, for_each, block_alone, while, other_block}
use Rattle.tl_syntax.specs.declared.parsed.Otherwise.{Otherwise, roll-Otherwise, out-roll-Otherwise}
use Rattle.tl_syntax.proofs.KindLemmas.{same_kind}
use Rattle.tl_syntax.proofs.StatementLemmas.{none_found, no_statements, next_statement, other_only, otherwise_block, otherwise_leaving}
use Rattle.tl_syntax.proofs.parser.Parser.+statements.Goals as goal

pub attempt-returns : goal.attempt-returns
attempt-returns t c = try c.in_ok-body.body c.in_ok-otherwise.otherwise c.in_ok-at.ensures c.in_ok-body.ensures c.in_ok-at-2.ensures c.in_ok-why.ensures c.in_ok-otherwise.ensures

pub statement-returns : goal.statement-returns
statement-returns t c = statement c.in_ok-form.ensures c.offset-offset.ensures

pub choice-returns-in_default : goal.choice-returns-in_default
choice-returns-in_default t c = rw c.in_ok-levels.ensures (if c.in_ok-body.body c.new-nothing.result c.in_ok-at.ensures c.in_ok-question.ensures c.in_ok-body.ensures (search rules))

pub choice-returns : goal.choice-returns
choice-returns t c = rw c.in_ok-levels.ensures (if_else c.in_ok-body.body c.in_ok-otherwise.otherwise c.in_ok-at.ensures c.in_ok-question.ensures c.in_ok-body.ensures c.in-Some.ensures c.in_ok-otherwise.ensures)

pub repetition-returns-in_default : goal.repetition-returns-in_default
repetition-returns-in_default t c = repeat c.in_ok-body.body c.in_ok-at.ensures c.in_ok-turns.ensures c.in_ok-body.ensures

pub repetition-returns : goal.repetition-returns
repetition-returns t c = repeat_at_most c.in_ok-body-2.body c.in_ok-at.ensures c.in_ok-turns.ensures c.in-Some.ensures c.in_ok-next.ensures c.in_ok-count.ensures c.in_ok-body-2.ensures

pub visit-returns : goal.visit-returns
visit-returns t c = for_each c.in_ok-body.body c.in_ok-at.ensures c.in_ok-at-2.ensures c.in_ok-at-3.ensures c.in_ok-child.ensures c.in_ok-index.ensures c.in_ok-at-4.ensures c.in_ok-parent.ensures c.in_ok-at-5.ensures c.in_ok-at-6.ensures c.in_ok-at_most.ensures c.in_ok-body.ensures

pub search-returns-then-begins_found : goal.search-returns-then-begins_found
search-returns-then-begins_found t c =
    searched c.in_ok-turns-2.turns c.in_ok-found.found c.in_ok-otherwise.otherwise c.in_ok-names.names c.in_ok-turns.ensures (rw c.offset-offset.ensures at c.in_ok-turns-2.ensures) c.in_ok-next.ensures c.in_ok-names.ensures
    c.in_ok-found.ensures c.in_ok-otherwise.ensures

pub search-returns : goal.search-returns
search-returns t c = loop c.in_ok-turns.ensures (c.begins_found.ensures c.if-begins_found.false)

pub not_found-returns-in_default : goal.not_found-returns-in_default
not_found-returns-in_default t c = none_found (search rules) (λ e. c.in_default.not-Else (c.kind.ensures ∙ e))

pub not_found-returns-in_ok-next-in-Else : goal.not_found-returns-in_ok-next-in-Else
not_found-returns-in_ok-next-in-Else t c =
    IfOk-weaker c.block.result (λ read. IsBlock c.args.self.now.tokens.now c.args.levels c.in_ok-next-in-Else.next read.1 read.0.items) (λ read. IsNotFound c.args.self.now.tokens.now c.args.levels c.args.at read.1 read.0.items)
    (λ read h. otherwise c.in_ok-next-in-Else.ensures h) c.block.ensures

pub block-loop-init : goal.block-loop-init
block-loop-init t c = record { room = c.in_ok-inside.ensures; begun = c.in_ok-next.ensures; read = no_statements (search rules) }

pub block-loop-preserved : goal.block-loop-preserved
block-loop-preserved t c = record {
  room = c.loop.invariant.room;
  begun = c.loop.invariant.begun;
  read = next_statement c.in_ok-push.ensures.items c.loop.invariant.read c.in_ok-statement.ensures;
}

pub block-returns-in-Some : goal.block-returns-in-Some
block-returns-in-Some t c = rw c.loop.invariant.room (block c.loop.invariant.begun c.loop.invariant.read c.in-Some.ensures)

pub other-returns-then-eq : goal.other-returns-then-eq
other-returns-then-eq t c =
    other_only c.in_ok-only.ensures (sym c.kind.ensures ∙ same_kind c.kind.result K.If (sym c.eq.ensures ∙ c.if-eq.true))
    c.in_ok-form.ensures c.offset-offset.ensures

pub other-returns : goal.other-returns
other-returns t c =
    IfOk-weaker c.block.result (λ read. IsBlock c.args.self.now.tokens.now c.args.levels c.args.at read.1 read.0.items) (λ read. IsOther c.args.self.now.tokens.now c.args.levels c.args.at read.1 read.0.items)
    (λ read h. other_block h) c.block.ensures

pub act-ended-requires : goal.act-ended-requires
act-ended-requires t c = (omega (arith, c.decreases), (c.in_ok-action.ensures, sym c.may_have_else.ensures ∙ c.if-may_have_else.true))

pub act-returns : goal.act-returns
act-returns t c = act c.in_ok-action.ensures c.in_ok-after.ensures

pub ended-returns-then-eq : goal.ended-returns-then-eq
ended-returns-then-eq t c = act_else c.requires.read c.requires.allowed c.in_ok-why.ensures (rw c.offset-offset.ensures at c.in_ok-form.ensures)

pub ended-returns : goal.ended-returns
ended-returns t c = act c.requires.read c.in_ok-after.ensures

pub otherwise-returns-then-begins_block : goal.otherwise-returns-then-begins_block
otherwise-returns-then-begins_block t c =
    let o : Otherwise = roll-Otherwise (record { offset = c.offset-offset.result; body = c.in_ok-body.body }) in
    otherwise_block o c.in_ok-body.body (rw out-roll-Otherwise) (rw out-roll-Otherwise) c.in_ok-next.ensures c.in_ok-why.ensures c.in_ok-body.ensures c.may_end-after.ensures c.offset-offset.ensures

pub otherwise-returns : goal.otherwise-returns
otherwise-returns t c =
    let o : Otherwise = roll-Otherwise (record { offset = c.offset-offset.result; body = c.in_ok-body-2.body }) in
    otherwise_leaving o c.in_ok-body-2.body (rw out-roll-Otherwise) (rw out-roll-Otherwise) c.in_ok-next.ensures c.in_ok-body-2.ensures c.offset-offset.ensures

pub form-returns-in_ok-body-in-LeftBrace : goal.form-returns-in_ok-body-in-LeftBrace
form-returns-in_ok-body-in-LeftBrace t c = block_alone c.in_ok-body-in-LeftBrace.body c.in_ok-body-in-LeftBrace.ensures

pub conditional_loop-returns : goal.conditional_loop-returns
conditional_loop-returns t c =
    rw c.in_ok-levels.ensures (while c.in_ok-body.body c.in_ok-all.all c.in_ok-start.ensures c.in_ok-head.ensures c.in_ok-body.ensures (rw c.offset-offset.ensures at c.in_ok-all.ensures))
