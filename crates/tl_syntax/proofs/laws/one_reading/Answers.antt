use Rattle.std.proofs.Common.{◌≡◌, subst, sym}
use Rattle.tl_syntax.specs.Tokens.{AreTokens}
use Rattle.tl_syntax.proofs.NamesOnce.{names_once}
use Rattle.tl_syntax.specs.Declarations.{IsFile}
use Rattle.tl_syntax.proofs.TokensOnce.{tokens_once}
use Rattle.tl_syntax.proofs.DeclarationsOnce.{file_once}
use Rattle.tl_syntax.proofs.laws.one_reading.Goals as goal

pub returns : goal.returns
returns c = record {
  tokens = λ text names tokens others distinct read again. tokens_once distinct read again;
  files = λ tokens declarations others x y. file_once x y;
  readings = λ text names others declarations again x y.
      let same : names ≡ others = names_once x.words y.words x.distinct y.distinct x.read y.read x.numbered y.numbered in
      let read : AreTokens names 0 text y.tokens = subst (λ l. AreTokens l 0 text y.tokens) (sym same) y.read in
      (same, file_once x.spelled (subst (λ tokens. IsFile tokens again) (sym (tokens_once x.distinct x.read read)) y.spelled));
}
