use Rattle.std.proofs.Common.{rules, sym, ◌∙◌}
use Rattle.tl_syntax.specs.declared.token.TokenKind.TheVariants as K
use Rattle.tl_syntax.proofs.KindLemmas.{same_kind}
use Rattle.tl_syntax.proofs.DeclarationLemmas.{no_declarations, next_declaration}
use Rattle.tl_syntax.proofs.parser.Parser.declarations.Goals as goal

pub loop-init : goal.loop-init
loop-init c = no_declarations (search rules)

pub loop-preserved : goal.loop-preserved
loop-preserved c = next_declaration c.in_ok-push.ensures.items c.loop.invariant c.in_ok-declaration.ensures

pub returns-then-eq : goal.returns-then-eq
returns-then-eq c = record {
  end = c.loop.at;
  declarations = c.loop.invariant;
  ends = sym c.kind.ensures ∙ same_kind c.kind.result K.End (sym c.eq.ensures ∙ c.if-eq.true);
}
