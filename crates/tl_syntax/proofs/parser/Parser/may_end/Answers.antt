use Rattle.std.proofs.Common.{◌≡◌, sym, ◌∙◌}
use Rattle.tl_syntax.specs.declared.token.TokenKind.TheVariants as K
use Rattle.tl_syntax.specs.Grammar.{kind_at}
use Rattle.tl_syntax.specs.Statements.{no_semicolon, semicolon}
use Rattle.tl_syntax.proofs.parser.Parser.may_end.Goals as goal

pub returns-in-Semicolon : goal.returns-in-Semicolon
returns-in-Semicolon c =
    let here : kind_at c.args.self.now.tokens.now c.args.at ≡ K.Semicolon = sym c.kind.ensures ∙ c.in-Semicolon.is in
    semicolon (record { kind_is = here; next_is = c.behind.ensures (λ e. let no : K.Semicolon ≡ K.End = sym here ∙ e in cc) })

pub returns-in_default : goal.returns-in_default
returns-in_default c = no_semicolon (λ e. c.in_default.not-Semicolon (c.kind.ensures ∙ e))
