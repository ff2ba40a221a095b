-- The grammar of declarations. Each rule says what the tokens from i up to but not including j denote.
use Rattle.std.specs.Prelude.{◌≡◌, ◌≢◌, ℕ, ◌-◌, ◌<◌, ◌≤◌, List, [], ◌∷◌, ◌++◌, Bool, true, false, None}
use Rattle.tl_syntax.specs.declared.token.Token.{Token}
use Rattle.tl_syntax.specs.declared.token.TokenKind.{TokenKind}
use Rattle.tl_syntax.specs.declared.token.TokenKind.TheVariants as K
use Rattle.tl_syntax.specs.declared.parsed.Name.{Name}
use Rattle.tl_syntax.specs.declared.parsed.Expression.{Expression}
use Rattle.tl_syntax.specs.declared.parsed.Procedure.{Procedure}
use Rattle.tl_syntax.specs.declared.parsed.Parameter.{Parameter}
use Rattle.tl_syntax.specs.declared.parsed.Parameter.TheVariants as P
use Rattle.tl_syntax.specs.declared.parsed.Part.{Part}
use Rattle.tl_syntax.specs.declared.parsed.Declaration.{Declaration}
use Rattle.tl_syntax.specs.declared.parsed.Declaration.TheVariants as D
use Rattle.tl_syntax.specs.declared.parser.TheConstants.{MAX_LEVELS}
use Rattle.tl_syntax.specs.Grammar.{kind_at, Stands, IsName, IsExpression, Disjunction}
use Rattle.tl_syntax.specs.Statements.{word_while, word_found, AreNames, IsOptionalName, IsBlock}

-- a procedure's arguments and the closing parenthesis
pub data AreArguments (tokens : List Token) : ℕ → ℕ → List Name → Type 0 where
  none : {i j : ℕ} → Stands tokens K.RightParenthesis i j → AreArguments tokens i j []
  some : {i j k : ℕ} {ns : List Name} → AreNames tokens i j ns → Stands tokens K.RightParenthesis j k → AreArguments tokens i k ns

abbrev pub word_atomic : TokenKind
word_atomic = K.Name (record { 0 = 5 })

-- whether a procedure is marked by `atomic`
pub data IsMark (tokens : List Token) : ℕ → ℕ → Bool → Type 0 where
  no_mark : {i : ℕ} → IsMark tokens i i false
  mark : {i j : ℕ} → Stands tokens word_atomic i j → IsMark tokens i j true

-- a procedure: optionally a mark, its name, arguments and body, and optionally an `else` block, which may name the code of the failure
pub data IsProcedure (tokens : List Token) : ℕ → ℕ → Procedure → Type 0 where
  procedure : {h i j k l m n : ℕ} {p : Procedure} → IsMark tokens h i p.is_atomic → Stands tokens K.Proc i j → IsName tokens j k p.name → Stands tokens K.LeftParenthesis k l →
      AreArguments tokens l m p.arguments.items → IsBlock tokens MAX_LEVELS m n p.body.items → p.why ≡ None → p.otherwise.items ≡ [] → IsProcedure tokens h n p
  procedure_else : {h i j k l m n o q r : ℕ} {p : Procedure} → IsMark tokens h i p.is_atomic → Stands tokens K.Proc i j → IsName tokens j k p.name → Stands tokens K.LeftParenthesis k l →
      AreArguments tokens l m p.arguments.items → IsBlock tokens MAX_LEVELS m n p.body.items → Stands tokens K.Else n o → IsOptionalName tokens o q p.why → IsBlock tokens MAX_LEVELS q r p.otherwise.items →
      IsProcedure tokens h r p

abbrev pub word_part : TokenKind
word_part = K.Name (record { 0 = 7 })

abbrev pub word_var : TokenKind
word_var = K.Name (record { 0 = 8 })

-- whether a token is a name
abbrev pub names_something : TokenKind → Bool
names_something (K.Name symbol) = true
names_something kind = false

-- a name for what a part is given: for a node, a value that it may change, or a number
pub data IsParameter (tokens : List Token) : ℕ → ℕ → Parameter → Type 0 where
  node_parameter : {i j k : ℕ} {n : Name} → Stands tokens K.Node i j → IsName tokens j k n → IsParameter tokens i k (P.Node n)
  variable_parameter : {i j k : ℕ} {n : Name} → Stands tokens word_var i j → IsName tokens j k n → IsParameter tokens i k (P.Variable n)
  value_parameter : {i j : ℕ} {n : Name} → IsName tokens i j n → names_something (kind_at tokens j) ≡ false → IsParameter tokens i j (P.Value n)

-- one or more parameters, separated by commas
pub data AreParameters (tokens : List Token) : ℕ → ℕ → List Parameter → Type 0 where
  first_parameter : {i j : ℕ} {p : Parameter} → IsParameter tokens i j p → AreParameters tokens i j (p ∷ [])
  next_parameter : {i j k l : ℕ} {ps : List Parameter} {p : Parameter} → AreParameters tokens i j ps → Stands tokens K.Comma j k →
      IsParameter tokens k l p → AreParameters tokens i l (ps ++ p ∷ [])

-- a part's parameters and the closing parenthesis
pub data AreTaken (tokens : List Token) : ℕ → ℕ → List Parameter → Type 0 where
  none_taken : {i j : ℕ} → Stands tokens K.RightParenthesis i j → AreTaken tokens i j []
  some_taken : {i j k : ℕ} {ps : List Parameter} → AreParameters tokens i j ps → Stands tokens K.RightParenthesis j k → AreTaken tokens i k ps

-- none of these tokens is the word `return`
abbrev pub HasNoReturn : List Token → ℕ → ℕ → Type 0
HasNoReturn tokens i j = (k : ℕ) → i ≤ k → k < j → kind_at tokens k ≢ K.Return

-- a part: its name, which isn't `while` or `found`, its parameters, and a body without `return`, whose size is the number of its tokens
pub data IsPart (tokens : List Token) : ℕ → ℕ → Part → Type 0 where
  part : {i j k l m n : ℕ} {p : Part} → Stands tokens word_part i j → IsName tokens j k p.name → K.Name p.name.symbol ≢ word_while → K.Name p.name.symbol ≢ word_found → Stands tokens K.LeftParenthesis k l →
      AreTaken tokens l m p.parameters.items → IsBlock tokens MAX_LEVELS m n p.body.items → HasNoReturn tokens m n → p.size ≡ n - m → IsPart tokens i n p

pub data IsDeclaration (tokens : List Token) : ℕ → ℕ → Declaration → Type 0 where
  field : {i j k l m o : ℕ} {n : Name} {number : Expression} → Stands tokens K.Field i j → IsName tokens j k n → Stands tokens K.Assign k l →
      IsExpression tokens MAX_LEVELS Disjunction l m number → Stands tokens K.Semicolon m o → IsDeclaration tokens i o (D.Field n number)
  constant : {i j k l m o : ℕ} {n : Name} {value : Expression} → Stands tokens K.Const i j → IsName tokens j k n → Stands tokens K.Assign k l →
      IsExpression tokens MAX_LEVELS Disjunction l m value → Stands tokens K.Semicolon m o → IsDeclaration tokens i o (D.Constant n value)
  procedures : {i j : ℕ} {p : Procedure} → IsProcedure tokens i j p → IsDeclaration tokens i j (D.Procedure p)
  parts : {i j : ℕ} {p : Part} → IsPart tokens i j p → IsDeclaration tokens i j (D.Part p)

pub data AreDeclarations (tokens : List Token) : ℕ → ℕ → List Declaration → Type 0 where
  no_more : {i : ℕ} → AreDeclarations tokens i i []
  next : {i j k : ℕ} {ds : List Declaration} {d : Declaration} → AreDeclarations tokens i j ds → IsDeclaration tokens j k d →
      AreDeclarations tokens i k (ds ++ d ∷ [])

-- the tokens up to the end denote these declarations
pub record IsFile (tokens : List Token) (ds : List Declaration) : Type 0 where
  pub end : ℕ
  pub declarations : AreDeclarations tokens 0 end ds
  pub ends : kind_at tokens end ≡ K.End
