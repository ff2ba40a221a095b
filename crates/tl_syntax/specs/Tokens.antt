-- The tokens of a text. A text is a sequence of pieces: blanks, comments, words, numbers and signs.
use denote.Bor.{Bor}
use Rattle.std.specs.Prelude.{◌≡◌, ◌≢◌, ℕ, suc, ◌+◌, ◌<◌, ◌≤◌, Bool, true, not, ◌||◌, ◌==◌, List, [], ◌∷◌, ◌++◌, length, take, drop, Option, None, Some, slice_get, codes, map, filter, ◌⊎◌}
use Rattle.std.specs.List.{position_or_len}
use Rattle.std.specs.Char.{is_ascii_alphabetic, is_ascii_alphanumeric, is_ascii_digit}
use Rattle.std.specs.Str.Parse.{digits_value}
use Rattle.tl_syntax.specs.declared.token.Token.{Token}
use Rattle.tl_syntax.specs.declared.token.TokenKind.{TokenKind}
use Rattle.tl_syntax.specs.declared.token.TokenKind.TheVariants as K
use Rattle.tl_syntax.specs.declared.lexer.Piece.{Piece}
use Rattle.tl_syntax.specs.declared.lexer.Piece.TheVariants as P
use Rattle.tl_syntax.specs.declared.words.TheConstants.{MAX_NAME, MAX_NUMBER}

-- ---- bytes

-- a space, a tab, a carriage return or a line feed
abbrev pub separates : ℕ → Bool
separates b = b == 32 || b == 9 || b == 13 || b == 10

-- a letter or `_`
abbrev pub starts_word : ℕ → Bool
starts_word b = is_ascii_alphabetic b || b == 95

-- a letter, a digit or `_`
abbrev pub stays_word : ℕ → Bool
stays_word b = is_ascii_alphanumeric b || b == 95

-- the number of bytes up to the end of the word or number
abbrev pub word_left : List ℕ → ℕ
word_left bytes = position_or_len (λ b. not (stays_word b)) bytes

-- the number of bytes up to the end of the line
abbrev pub line_left : List ℕ → ℕ
line_left bytes = position_or_len (λ b. b == 10) bytes

-- ---- signs and words

-- the signs of two characters
pub data IsLongSign (first second : ℕ) : TokenKind → Type 0 where
  add : first ≡ 43 → second ≡ 61 → IsLongSign first second K.AddAssign
  subtract : first ≡ 45 → second ≡ 61 → IsLongSign first second K.SubtractAssign
  less : first ≡ 60 → second ≡ 61 → IsLongSign first second K.LessOrEqual
  greater : first ≡ 62 → second ≡ 61 → IsLongSign first second K.GreaterOrEqual
  equal : first ≡ 61 → second ≡ 61 → IsLongSign first second K.Equal
  unequal : first ≡ 33 → second ≡ 61 → IsLongSign first second K.NotEqual

-- the signs of one character
pub data IsShortSign (byte : ℕ) : TokenKind → Type 0 where
  left_parenthesis : byte ≡ 40 → IsShortSign byte K.LeftParenthesis
  right_parenthesis : byte ≡ 41 → IsShortSign byte K.RightParenthesis
  left_brace : byte ≡ 123 → IsShortSign byte K.LeftBrace
  right_brace : byte ≡ 125 → IsShortSign byte K.RightBrace
  comma : byte ≡ 44 → IsShortSign byte K.Comma
  semicolon : byte ≡ 59 → IsShortSign byte K.Semicolon
  colon : byte ≡ 58 → IsShortSign byte K.Colon
  dot : byte ≡ 46 → IsShortSign byte K.Dot
  assign : byte ≡ 61 → IsShortSign byte K.Assign
  plus : byte ≡ 43 → IsShortSign byte K.Plus
  minus : byte ≡ 45 → IsShortSign byte K.Minus
  times : byte ≡ 42 → IsShortSign byte K.Times
  divide : byte ≡ 47 → IsShortSign byte K.Divide
  remainder : byte ≡ 37 → IsShortSign byte K.Remainder
  less_sign : byte ≡ 60 → IsShortSign byte K.Less
  greater_sign : byte ≡ 62 → IsShortSign byte K.Greater

-- the reserved words
pub data IsReserved (word : List ℕ) : TokenKind → Type 0 where
  word_and : word ≡ codes "and" → IsReserved word K.And
  word_break : word ≡ codes "break" → IsReserved word K.Break
  word_child : word ≡ codes "child" → IsReserved word K.Child
  word_const : word ≡ codes "const" → IsReserved word K.Const
  word_descend : word ≡ codes "descend" → IsReserved word K.Descend
  word_else : word ≡ codes "else" → IsReserved word K.Else
  word_emit : word ≡ codes "emit" → IsReserved word K.Emit
  word_fail : word ≡ codes "fail" → IsReserved word K.Fail
  word_field : word ≡ codes "field" → IsReserved word K.Field
  word_for : word ≡ codes "for" → IsReserved word K.For
  word_free : word ≡ codes "free" → IsReserved word K.Free
  word_if : word ≡ codes "if" → IsReserved word K.If
  word_kids : word ≡ codes "kids" → IsReserved word K.Kids
  word_let : word ≡ codes "let" → IsReserved word K.Let
  word_lock : word ≡ codes "lock" → IsReserved word K.Lock
  word_node : word ≡ codes "node" → IsReserved word K.Node
  word_not : word ≡ codes "not" → IsReserved word K.Not
  word_or : word ≡ codes "or" → IsReserved word K.Or
  word_proc : word ≡ codes "proc" → IsReserved word K.Proc
  word_repeat : word ≡ codes "repeat" → IsReserved word K.Repeat
  word_require : word ≡ codes "require" → IsReserved word K.Require
  word_return : word ≡ codes "return" → IsReserved word K.Return
  word_try : word ≡ codes "try" → IsReserved word K.Try

-- the word isn't reserved
abbrev pub IsFree : List ℕ → Type 0
IsFree word = (kind : TokenKind) → IsReserved word kind → ⊥

-- the two bytes aren't a sign of two characters
abbrev pub IsNoLongSign : ℕ → ℕ → Type 0
IsNoLongSign first second = (kind : TokenKind) → IsLongSign first second kind → ⊥

-- digits, where two neighbours may have one `_` between them
pub data AreGrouped : List ℕ → Type 0 where
  first_digit : {b : ℕ} → is_ascii_digit b ≡ true → AreGrouped (b ∷ [])
  next_digit : {word : List ℕ} (b : ℕ) → AreGrouped word → is_ascii_digit b ≡ true → AreGrouped (word ++ b ∷ [])
  digit_apart : {word : List ℕ} (b : ℕ) → AreGrouped word → is_ascii_digit b ≡ true → AreGrouped ((word ++ 95 ∷ []) ++ b ∷ [])

-- a number of at most MAX_NUMBER, written in digits without leading zeros
pub record IsDecimal (word : List ℕ) (n : ℕ) : Type 0 where
  pub digits : AreGrouped word
  pub no_zeros : (length word ≡ 1) ⊎ (slice_get word 0 ≢ Some 48)
  pub is : n ≡ digits_value 10 (filter is_ascii_digit word)
  pub fits : n ≤ MAX_NUMBER

-- ---- pieces

-- no comment and no sign of two characters begins here
abbrev pub IsAlone : ℕ → Option ℕ → Type 0
IsAlone first None = Unit {0}
IsAlone first (Some second) = ((first ≡ 47) → second ≢ 47) × IsNoLongSign first second

-- the piece that begins with the byte `first`, and how many of the bytes after it belong to it
pub data Begins (first : ℕ) (after : List ℕ) : Piece → ℕ → Type 0 where
  blank : separates first ≡ true → Begins first after P.Blank 0
  comment : first ≡ 47 → slice_get after 0 ≡ Some 47 → Begins first after P.Blank (line_left after)
  word : starts_word first ≡ true → Begins first after P.Word (word_left after)
  digits : is_ascii_digit first ≡ true → Begins first after P.Digits (word_left after)
  long : {second : ℕ} {kind : TokenKind} → slice_get after 0 ≡ Some second → IsLongSign first second kind → Begins first after (P.Sign kind) 1
  -- only if no comment and no sign of two characters begins here
  short : {kind : TokenKind} → IsShortSign first kind → IsAlone first (slice_get after 0) → Begins first after (P.Sign kind) 0

-- the bytes of each name
abbrev pub spellings : List (Bor (List ℕ)) → List (List ℕ)
spellings names = map (λ name. name.now) names

-- no name occurs twice
abbrev pub AreDistinct : List (List ℕ) → Type 0
AreDistinct names = (i j : ℕ) (word : List ℕ) → slice_get names i ≡ Some word → slice_get names j ≡ Some word → i ≡ j

-- the token of a piece; the symbol of a name is its index
pub data IsToken (names : List (List ℕ)) : Piece → List ℕ → TokenKind → Type 0 where
  reserved : {word : List ℕ} {kind : TokenKind} → IsReserved word kind → IsToken names P.Word word kind
  name : {word : List ℕ} {symbol : ℕ} → IsFree word → length word ≤ MAX_NAME → slice_get names symbol ≡ Some word →
      IsToken names P.Word word (K.Name (record { 0 = symbol }))
  number : {word : List ℕ} {n : ℕ} → IsDecimal word n → IsToken names P.Digits word (K.Number n)
  sign : {word : List ℕ} {kind : TokenKind} → IsToken names (P.Sign kind) word kind

-- the tokens of the bytes that begin at this offset of the text, with the final `End`
pub data AreTokens (names : List (List ℕ)) : ℕ → List ℕ → List Token → Type 0 where
  end : {offset : ℕ} → AreTokens names offset [] (record { kind = K.End; offset = offset } ∷ [])
  blank : {offset first n : ℕ} {after : List ℕ} {tokens : List Token} → Begins first after P.Blank n →
      AreTokens names (offset + (n + 1)) (drop n after) tokens → AreTokens names offset (first ∷ after) tokens
  token : {offset first n : ℕ} {after : List ℕ} {piece : Piece} {kind : TokenKind} {tokens : List Token} → Begins first after piece n →
      IsToken names piece (first ∷ take n after) kind → AreTokens names (offset + (n + 1)) (drop n after) tokens →
      AreTokens names offset (first ∷ after) (record { kind = kind; offset = offset } ∷ tokens)

-- ---- the order of names

-- the token is no name, or a name whose symbol is below `known`
abbrev pub IsKnown : ℕ → TokenKind → Type 0
IsKnown known (K.Name symbol) = symbol.0 < known
IsKnown known kind = Unit {0}

-- the number of names known before these tokens and after them; each new name has the next symbol
pub data AreNumbered : ℕ → List Token → ℕ → Type 0 where
  no_tokens : {known : ℕ} → AreNumbered known [] known
  known_token : {known last : ℕ} {token : Token} {tokens : List Token} → IsKnown known token.kind → AreNumbered known tokens last →
      AreNumbered known (token ∷ tokens) last
  new_name : {known last : ℕ} {token : Token} {tokens : List Token} → token.kind ≡ K.Name (record { 0 = known }) → AreNumbered (suc known) tokens last →
      AreNumbered known (token ∷ tokens) last

-- ---- what is read so far

-- the new list is the old one with more names at its end
pub record Extends (old new : List (List ℕ)) : Type 0 where
  pub more : List (List ℕ)
  pub is : new ≡ old ++ more

-- the words that may also be used as names; they are the first names
abbrev pub first_names : List (List ℕ)
first_names = codes "at" ∷ codes "each" ∷ codes "most" ∷ codes "of" ∷ codes "to" ∷ codes "atomic" ∷ codes "while" ∷ codes "part" ∷ codes "var" ∷ codes "with" ∷ codes "found" ∷ []

-- the names are those of the grammar and then those of the tokens, in order of appearance
abbrev pub AreNamesOf : List Token → List (List ℕ) → Type 0
AreNamesOf tokens names = AreNumbered (length first_names) tokens (length names)

-- a piece adds its token, if it has one, and possibly a name
pub data Adds (word : List ℕ) (offset : ℕ) (names names' : List (List ℕ)) (tokens tokens' : List Token) : Piece → Type 0 where
  nothing : names' ≡ names → tokens' ≡ tokens → Adds word offset names names' tokens tokens' P.Blank
  one : {piece : Piece} {kind : TokenKind} → Extends names names' → IsToken names' piece word kind →
      tokens' ≡ tokens ++ (record { kind = kind; offset = offset }) ∷ [] → Adds word offset names names' tokens tokens' piece
