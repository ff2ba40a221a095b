use Rattle.std.proofs.Common.{Some, ap, sym, ◌∙◌}
use Rattle.tl_syntax.specs.Tokens.{blank, comment, word, digits, long, short}
use Rattle.tl_syntax.proofs.TokenLemmas.{alone_some, alone_none}
use Rattle.tl_syntax.proofs.lexer.first_piece.Goals.{in-Some+else-first-eq47+in_default-long_sign, else-first-eq47-via-then-first-eq47+else-second-eq47, else-first-eq47-via-else-first-eq47, in_default}
use Rattle.tl_syntax.proofs.lexer.first_piece.Goals as goal

pub returns-then-is_blank-clause-begins : goal.returns-then-is_blank-clause-begins
returns-then-is_blank-clause-begins c = blank (sym c.is_blank.ensures ∙ c.if-is_blank.true)

pub returns-then-begins_name-clause-begins : goal.returns-then-begins_name-clause-begins
returns-then-begins_name-clause-begins c = rw c.word_length.ensures.left (word (sym c.begins_name.ensures ∙ c.if-begins_name.true))

pub returns-then-is_ascii_digit-clause-begins : goal.returns-then-is_ascii_digit-clause-begins
returns-then-is_ascii_digit-clause-begins c = rw c.word_length-then-is_ascii_digit.ensures.left (digits (sym c.is_ascii_digit.ensures.value ∙ c.if-is_ascii_digit.true))

pub returns-then-second-eq47-clause-begins : goal.returns-then-second-eq47-clause-begins
returns-then-second-eq47-clause-begins c = rw c.line_length.ensures.left (comment c.if-first-eq47.true (sym c.in-Some.ensures.value ∙ ap Some c.if-second-eq47.true))

pub returns-in-Some-long_sign-clause-begins : goal.returns-in-Some-long_sign-clause-begins
returns-in-Some-long_sign-clause-begins c = long (sym c.in-Some.ensures.value) c.in-Some-long_sign.ensures.some

pub returns-clause-begins : goal.returns-clause-begins
returns-clause-begins c =
    short c.in_ok-kind.ensures
    (elim c.match-first.branch [
      | in-Some+else-first-eq47+in_default-long_sign w ↦
          alone_some (sym w.in-Some.ensures.value)
          (elim w.else-first-eq47.branch [
            | else-first-eq47-via-then-first-eq47+else-second-eq47 v ↦ λ _ e. v.if-second-eq47.false e
            | else-first-eq47-via-else-first-eq47 v ↦ λ e _. absurd (v.if-first-eq47.false e)
          ])
          w.in_default-long_sign.ensures.none
      | in_default w ↦ alone_none c.args.first (sym w.in_default.ensures.value)
    ])
