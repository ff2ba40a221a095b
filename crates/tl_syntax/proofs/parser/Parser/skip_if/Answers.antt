use Rattle.std.proofs.Common.{refl, sym, ◌∙◌}
use Rattle.tl_syntax.proofs.KindLemmas.{same_kind}
use Rattle.tl_syntax.proofs.parser.Parser.skip_if.Goals as goal

pub returns-then-eq : goal.returns-then-eq
returns-then-eq c = record {
  kind_is = sym c.kind.ensures ∙ same_kind c.kind.result c.args.kind (sym c.eq.ensures ∙ c.if-eq.true);
  next_is = refl;
}
