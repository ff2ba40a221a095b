use Rattle.std.proofs.Common.{◌≡◌, ◌∙◌, ap, sym, true≢false}
use Rattle.tl_syntax.specs.declared.token.TokenKind.TheVariants as K
use Rattle.tl_syntax.specs.Grammar.{kind_at}
use Rattle.tl_syntax.specs.Statements.{word_found}
use Rattle.tl_syntax.proofs.KindLemmas.{same_word, same_parenthesis}
use Rattle.tl_syntax.proofs.parser.Parser.begins_found.Goals as goal

pub returns-then-eq : goal.returns-then-eq
returns-then-eq c = λ no begins.
    let next = c.behind.ensures (λ e. let none : word_found ≡ K.End = sym begins.found ∙ e in cc) in
    let here : c.kind-then-eq.result ≡ K.LeftParenthesis = c.kind-then-eq.ensures ∙ ap (kind_at c.args.self.now.tokens.now) next ∙ begins.opens in
    true≢false (sym (same_parenthesis c.kind-then-eq.result here) ∙ sym c.eq-then-eq.ensures ∙ no)

pub returns-else-eq : goal.returns-else-eq
returns-else-eq c = λ no begins. true≢false (sym (same_word c.kind.result 10 (c.kind.ensures ∙ begins.found)) ∙ sym c.eq.ensures ∙ c.if-eq.false)
