use Rattle.std.proofs.Common.{◌∙◌, sym}
use Rattle.tl_syntax.specs.Statements.{uses}
use Rattle.tl_syntax.proofs.KindLemmas.{other_name}
use Rattle.tl_syntax.proofs.parser.Parser.using.Goals as goal

pub returns : goal.returns
returns c = uses c.in_ok-part.ensures (other_name c.in_ok-part.part.symbol.0 6 (sym c.eq.ensures ∙ c.if-eq.false)) (other_name c.in_ok-part.part.symbol.0 10 (sym c.eq-else-eq.ensures ∙ c.if-eq-2.false)) c.in_ok-next.ensures c.in_ok-arguments.ensures
