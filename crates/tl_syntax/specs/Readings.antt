-- When a text has only one reading.
use Rattle.std.specs.Prelude.{◌≡◌, ℕ, List}
use Rattle.tl_syntax.specs.declared.token.Token.{Token}
use Rattle.tl_syntax.specs.declared.parsed.Declaration.{Declaration}
use Rattle.tl_syntax.specs.Tokens.{AreDistinct, AreTokens}
use Rattle.tl_syntax.specs.Declarations.{IsFile}
use Rattle.tl_syntax.specs.Text.{IsText}
use Rattle.tl_syntax.specs.Alike.{AlikeDeclarations}

-- with the same names, the text has only one list of tokens
abbrev pub HasOneListOfTokens : List ℕ → Type 0
HasOneListOfTokens text = (names : List (List ℕ)) (tokens others : List Token) → AreDistinct names → AreTokens names 0 text tokens →
    AreTokens names 0 text others → tokens ≡ others

-- all declarations that these tokens denote are alike
abbrev pub SpellsOneFile : List Token → Type 0
SpellsOneFile tokens = (declarations others : List Declaration) → IsFile tokens declarations → IsFile tokens others → AlikeDeclarations declarations others

-- all readings of the text have the same names and alike declarations
abbrev pub HasOneReading : List ℕ → Type 0
HasOneReading text = (names others : List (List ℕ)) (declarations again : List Declaration) → IsText text names declarations → IsText text others again →
    (names ≡ others) × AlikeDeclarations declarations again
