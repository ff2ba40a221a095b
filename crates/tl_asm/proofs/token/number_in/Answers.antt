use Rattle.std.proofs.Common.{rules, arith, ◌≡◌, ◌∙◌, sym, None, subst, true, List, ℕ}
use Rattle.std.specs.Result.{result_ok}
use Rattle.std.specs.Str.Parse.{ParsesUnsigned}
use Rattle.tl_asm.specs.Tokens.{is_number}
use Rattle.tl_asm.proofs.DecimalNumbers.{is_text, too_large, no_text}
use Rattle.tl_asm.proofs.token.number_in.Goals as goal

pub returns-in_err-ok-clause-value : goal.returns-in_err-ok-clause-value
returns-in_err-ok-clause-value c =
    let numeral : is_number c.args.word.now ≡ true = search rules in
    let none : result_ok c.from_utf8.result ≡ None = sym c.ok.ensures.value ∙ c.in_err-ok.was in
    absurd (no_text _ _ c.args.word.now c.from_utf8.result c.from_utf8.ensures.cases none (is_text c.args.word.now numeral))

pub returns-in_err-number-clause-value : goal.returns-in_err-number-clause-value
returns-in_err-number-clause-value c =
    let numeral : is_number c.args.word.now ≡ true = search rules in
    let none : result_ok c.parse.result ≡ None = sym c.ok-2.ensures.value ∙ c.in_err-number.was in
    let same : c.in_ok-ok.field-0.now ≡ c.args.word.now = search rules in
    let parsed : ParsesUnsigned 32 10 c.args.word.now c.parse.result = subst (λ (w : List ℕ). ParsesUnsigned 32 10 w c.parse.result) same c.parse.ensures.value.0 in
    c.from_residual-in_err-number.ensures ∙ sym (too_large c.args.limit c.args.word.now c.parse.result numeral (omega arith) parsed none)
