-- What a text declares. Its tokens denote the declarations, and a name's symbol is its index among the names. The names
-- are first the words of the grammar that may be names, then the text's names in order of appearance. No name occurs
-- twice.
use Rattle.std.specs.Prelude.{ℕ, List}
use Rattle.tl_syntax.specs.declared.token.Token.{Token}
use Rattle.tl_syntax.specs.declared.parsed.Declaration.{Declaration}
use Rattle.tl_syntax.specs.Tokens.{first_names, Extends, AreDistinct, AreTokens, AreNamesOf}
use Rattle.tl_syntax.specs.Declarations.{IsFile}

pub record IsText (text : List ℕ) (names : List (List ℕ)) (declarations : List Declaration) : Type 0 where
  pub tokens : List Token
  pub words : Extends first_names names
  pub distinct : AreDistinct names
  pub read : AreTokens names 0 text tokens
  pub numbered : AreNamesOf tokens names
  pub spelled : IsFile tokens declarations
