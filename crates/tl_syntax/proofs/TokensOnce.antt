-- A text has only one list of tokens.
use Rattle.std.proofs.Common.{◌≡◌, ℕ, ◌+◌, Bool, true, false, List, ◌∷◌, take, drop, Some, refl, sym, ap, subst, ◌∙◌, true≢false, if◌then◌else◌, ◌==◌, codes, nat_eq, arith}
use Rattle.std.specs.Char.{is_ascii_digit}
use Rattle.std.specs.Cmp.Lexicographic.{pointwise}
use Rattle.std.proofs.lemmas.Bool.Decides.{nat_tests}
use Rattle.tl_syntax.specs.declared.token.Token.{Token}
use Rattle.tl_syntax.specs.declared.token.TokenKind.{TokenKind}
use Rattle.tl_syntax.specs.declared.token.TokenKind.TheVariants as K
use Rattle.tl_syntax.specs.declared.lexer.Piece.{Piece}
use Rattle.tl_syntax.specs.declared.lexer.Piece.TheVariants as P
use Rattle.tl_syntax.specs.Tokens as T
use Rattle.tl_syntax.specs.Tokens.{separates, starts_word, IsShortSign, IsLongSign, IsReserved, Begins, IsToken, AreDistinct, AreTokens}

-- ---- signs and words

-- a sign doesn't begin a blank, a word or a number
abbrev IsSign : ℕ → Type 0
IsSign b = (separates b ≡ false) × (starts_word b ≡ false) × (is_ascii_digit b ≡ false)

short_of : ℕ → TokenKind
short_of b =
    if b == 40 then K.LeftParenthesis else (
    if b == 41 then K.RightParenthesis else (
    if b == 123 then K.LeftBrace else (
    if b == 125 then K.RightBrace else (
    if b == 44 then K.Comma else (
    if b == 59 then K.Semicolon else (
    if b == 58 then K.Colon else (
    if b == 46 then K.Dot else (
    if b == 61 then K.Assign else (
    if b == 43 then K.Plus else (
    if b == 45 then K.Minus else (
    if b == 42 then K.Times else (
    if b == 47 then K.Divide else (
    if b == 37 then K.Remainder else (
    if b == 60 then K.Less else (
    if b == 62 then K.Greater else (
    K.End))))))))))))))))

long_of : ℕ → TokenKind
long_of b =
    if b == 43 then K.AddAssign else (
    if b == 45 then K.SubtractAssign else (
    if b == 60 then K.LessOrEqual else (
    if b == 62 then K.GreaterOrEqual else (
    if b == 61 then K.Equal else (
    if b == 33 then K.NotEqual else (
    K.End))))))

word_of : List ℕ → TokenKind
word_of word =
    if pointwise nat_eq word (codes "and") then K.And else (
    if pointwise nat_eq word (codes "break") then K.Break else (
    if pointwise nat_eq word (codes "child") then K.Child else (
    if pointwise nat_eq word (codes "const") then K.Const else (
    if pointwise nat_eq word (codes "descend") then K.Descend else (
    if pointwise nat_eq word (codes "else") then K.Else else (
    if pointwise nat_eq word (codes "emit") then K.Emit else (
    if pointwise nat_eq word (codes "fail") then K.Fail else (
    if pointwise nat_eq word (codes "field") then K.Field else (
    if pointwise nat_eq word (codes "for") then K.For else (
    if pointwise nat_eq word (codes "free") then K.Free else (
    if pointwise nat_eq word (codes "if") then K.If else (
    if pointwise nat_eq word (codes "kids") then K.Kids else (
    if pointwise nat_eq word (codes "let") then K.Let else (
    if pointwise nat_eq word (codes "lock") then K.Lock else (
    if pointwise nat_eq word (codes "node") then K.Node else (
    if pointwise nat_eq word (codes "not") then K.Not else (
    if pointwise nat_eq word (codes "or") then K.Or else (
    if pointwise nat_eq word (codes "proc") then K.Proc else (
    if pointwise nat_eq word (codes "repeat") then K.Repeat else (
    if pointwise nat_eq word (codes "require") then K.Require else (
    if pointwise nat_eq word (codes "return") then K.Return else (
    if pointwise nat_eq word (codes "try") then K.Try else (
    K.End)))))))))))))))))))))))

short_is : {b : ℕ} {kind : TokenKind} → IsShortSign b kind → short_of b ≡ kind
unfolding short_of
short_is (T.left_parenthesis e) = ap short_of e
short_is (T.right_parenthesis e) = ap short_of e
short_is (T.left_brace e) = ap short_of e
short_is (T.right_brace e) = ap short_of e
short_is (T.comma e) = ap short_of e
short_is (T.semicolon e) = ap short_of e
short_is (T.colon e) = ap short_of e
short_is (T.dot e) = ap short_of e
short_is (T.assign e) = ap short_of e
short_is (T.plus e) = ap short_of e
short_is (T.minus e) = ap short_of e
short_is (T.times e) = ap short_of e
short_is (T.divide e) = ap short_of e
short_is (T.remainder e) = ap short_of e
short_is (T.less_sign e) = ap short_of e
short_is (T.greater_sign e) = ap short_of e

long_is : {b c : ℕ} {kind : TokenKind} → IsLongSign b c kind → long_of b ≡ kind
unfolding long_of
long_is (T.add e f) = ap long_of e
long_is (T.subtract e f) = ap long_of e
long_is (T.less e f) = ap long_of e
long_is (T.greater e f) = ap long_of e
long_is (T.equal e f) = ap long_of e
long_is (T.unequal e f) = ap long_of e

word_is : {word : List ℕ} {kind : TokenKind} → IsReserved word kind → word_of word ≡ kind
unfolding word_of
word_is (T.word_and e) = ap word_of e
word_is (T.word_break e) = ap word_of e
word_is (T.word_child e) = ap word_of e
word_is (T.word_const e) = ap word_of e
word_is (T.word_descend e) = ap word_of e
word_is (T.word_else e) = ap word_of e
word_is (T.word_emit e) = ap word_of e
word_is (T.word_fail e) = ap word_of e
word_is (T.word_field e) = ap word_of e
word_is (T.word_for e) = ap word_of e
word_is (T.word_free e) = ap word_of e
word_is (T.word_if e) = ap word_of e
word_is (T.word_kids e) = ap word_of e
word_is (T.word_let e) = ap word_of e
word_is (T.word_lock e) = ap word_of e
word_is (T.word_node e) = ap word_of e
word_is (T.word_not e) = ap word_of e
word_is (T.word_or e) = ap word_of e
word_is (T.word_proc e) = ap word_of e
word_is (T.word_repeat e) = ap word_of e
word_is (T.word_require e) = ap word_of e
word_is (T.word_return e) = ap word_of e
word_is (T.word_try e) = ap word_of e

short_sign : {b : ℕ} {kind : TokenKind} → IsShortSign b kind → IsSign b
short_sign (T.left_parenthesis e) = subst IsSign (sym e) (refl, refl, refl)
short_sign (T.right_parenthesis e) = subst IsSign (sym e) (refl, refl, refl)
short_sign (T.left_brace e) = subst IsSign (sym e) (refl, refl, refl)
short_sign (T.right_brace e) = subst IsSign (sym e) (refl, refl, refl)
short_sign (T.comma e) = subst IsSign (sym e) (refl, refl, refl)
short_sign (T.semicolon e) = subst IsSign (sym e) (refl, refl, refl)
short_sign (T.colon e) = subst IsSign (sym e) (refl, refl, refl)
short_sign (T.dot e) = subst IsSign (sym e) (refl, refl, refl)
short_sign (T.assign e) = subst IsSign (sym e) (refl, refl, refl)
short_sign (T.plus e) = subst IsSign (sym e) (refl, refl, refl)
short_sign (T.minus e) = subst IsSign (sym e) (refl, refl, refl)
short_sign (T.times e) = subst IsSign (sym e) (refl, refl, refl)
short_sign (T.divide e) = subst IsSign (sym e) (refl, refl, refl)
short_sign (T.remainder e) = subst IsSign (sym e) (refl, refl, refl)
short_sign (T.less_sign e) = subst IsSign (sym e) (refl, refl, refl)
short_sign (T.greater_sign e) = subst IsSign (sym e) (refl, refl, refl)

long_sign : {b c : ℕ} {kind : TokenKind} → IsLongSign b c kind → IsSign b
long_sign (T.add e f) = subst IsSign (sym e) (refl, refl, refl)
long_sign (T.subtract e f) = subst IsSign (sym e) (refl, refl, refl)
long_sign (T.less e f) = subst IsSign (sym e) (refl, refl, refl)
long_sign (T.greater e f) = subst IsSign (sym e) (refl, refl, refl)
long_sign (T.equal e f) = subst IsSign (sym e) (refl, refl, refl)
long_sign (T.unequal e f) = subst IsSign (sym e) (refl, refl, refl)

-- no comment begins with a sign of two characters
no_slash : {b c : ℕ} {kind : TokenKind} → IsLongSign b c kind → b ≡ 47 → ⊥
no_slash (T.add e f) g = omega arith
no_slash (T.subtract e f) g = omega arith
no_slash (T.less e f) g = omega arith
no_slash (T.greater e f) g = omega arith
no_slash (T.equal e f) g = omega arith
no_slash (T.unequal e f) g = omega arith

slash_sign : {b : ℕ} → b ≡ 47 → IsSign b
slash_sign e = subst IsSign (sym e) (refl, refl, refl)

is_both : {b : Bool} → b ≡ true → b ≡ false → ⊥
is_both e f = true≢false (sym e ∙ f)

blank_no_word : (b : ℕ) → separates b ≡ true → starts_word b ≡ true → ⊥
blank_no_word b e f = grind (arith, nat_tests, e, f)

blank_no_digit : (b : ℕ) → separates b ≡ true → is_ascii_digit b ≡ true → ⊥
blank_no_digit b e f = grind (arith, nat_tests, e, f)

word_no_digit : (b : ℕ) → starts_word b ≡ true → is_ascii_digit b ≡ true → ⊥
word_no_digit b e f = grind (arith, nat_tests, e, f)

same_some : {A : Type 0} (a b : A) → Some a ≡ Some b → a ≡ b
same_some a b e = cc

-- ---- pieces

-- only one piece begins at a byte
pub begins_once : {first n m : ℕ} {after : List ℕ} {p q : Piece} → Begins first after p n → Begins first after q m → (p ≡ q) × (n ≡ m)
begins_once (T.blank e) (T.blank f) = (refl, refl)
begins_once (T.blank e) (T.comment f f2) = absurd (is_both e (slash_sign f).0)
begins_once {first} (T.blank e) (T.word f) = absurd (blank_no_word first e f)
begins_once {first} (T.blank e) (T.digits f) = absurd (blank_no_digit first e f)
begins_once (T.blank e) (T.long f f2) = absurd (is_both e (long_sign f2).0)
begins_once (T.blank e) (T.short f f2) = absurd (is_both e (short_sign f).0)
begins_once (T.comment e e2) (T.blank f) = absurd (is_both f (slash_sign e).0)
begins_once (T.comment e e2) (T.comment f f2) = (refl, refl)
begins_once (T.comment e e2) (T.word f) = absurd (is_both f (slash_sign e).1)
begins_once (T.comment e e2) (T.digits f) = absurd (is_both f (slash_sign e).2)
begins_once (T.comment e e2) (T.long f f2) = absurd (no_slash f2 e)
begins_once {first} (T.comment e e2) (T.short f f2) = absurd ((subst (λ o. T.IsAlone first o) e2 f2).0 e refl)
begins_once {first} (T.word e) (T.blank f) = absurd (blank_no_word first f e)
begins_once (T.word e) (T.comment f f2) = absurd (is_both e (slash_sign f).1)
begins_once (T.word e) (T.word f) = (refl, refl)
begins_once {first} (T.word e) (T.digits f) = absurd (word_no_digit first e f)
begins_once (T.word e) (T.long f f2) = absurd (is_both e (long_sign f2).1)
begins_once (T.word e) (T.short f f2) = absurd (is_both e (short_sign f).1)
begins_once {first} (T.digits e) (T.blank f) = absurd (blank_no_digit first f e)
begins_once (T.digits e) (T.comment f f2) = absurd (is_both e (slash_sign f).2)
begins_once {first} (T.digits e) (T.word f) = absurd (word_no_digit first f e)
begins_once (T.digits e) (T.digits f) = (refl, refl)
begins_once (T.digits e) (T.long f f2) = absurd (is_both e (long_sign f2).2)
begins_once (T.digits e) (T.short f f2) = absurd (is_both e (short_sign f).2)
begins_once (T.long e e2) (T.blank f) = absurd (is_both f (long_sign e2).0)
begins_once (T.long e e2) (T.comment f f2) = absurd (no_slash e2 f)
begins_once (T.long e e2) (T.word f) = absurd (is_both f (long_sign e2).1)
begins_once (T.long e e2) (T.digits f) = absurd (is_both f (long_sign e2).2)
begins_once (T.long e e2) (T.long f f2) = (ap P.Sign (sym (long_is e2) ∙ long_is f2), refl)
begins_once {first} (T.long e e2) (T.short f f2) = absurd ((subst (λ o. T.IsAlone first o) e f2).1 _ e2)
begins_once (T.short e e2) (T.blank f) = absurd (is_both f (short_sign e).0)
begins_once {first} (T.short e e2) (T.comment f f2) = absurd ((subst (λ o. T.IsAlone first o) f2 e2).0 f refl)
begins_once (T.short e e2) (T.word f) = absurd (is_both f (short_sign e).1)
begins_once (T.short e e2) (T.digits f) = absurd (is_both f (short_sign e).2)
begins_once {first} (T.short e e2) (T.long f f2) = absurd ((subst (λ o. T.IsAlone first o) f e2).1 _ f2)
begins_once (T.short e e2) (T.short f f2) = (ap P.Sign (sym (short_is e) ∙ short_is f), refl)

pub no_blank : {names : List (List ℕ)} {piece : Piece} {word : List ℕ} {kind : TokenKind} → P.Blank ≡ piece → IsToken names piece word kind → ⊥
no_blank {names} {word = w} {kind = k} e t = by (subst (λ p. IsToken names p w k) (sym e) t)
  where
    by : IsToken names P.Blank w k → ⊥
    by t = elim t [ ]

-- a piece has only one token
token_once : {names : List (List ℕ)} {piece : Piece} {word : List ℕ} {kind other : TokenKind} → AreDistinct names → IsToken names piece word kind →
    IsToken names piece word other → kind ≡ other
token_once distinct (T.reserved r) (T.reserved s) = sym (word_is r) ∙ word_is s
token_once distinct (T.reserved r) (T.name free fits at) = absurd (free _ r)
token_once distinct (T.name free fits at) (T.reserved s) = absurd (free _ s)
token_once distinct (T.name {word = w} {symbol = s} free fits at) (T.name {symbol = r} f2 t2 at2) = ap (λ n. K.Name (record { 0 = n })) (distinct s r w at at2)
token_once distinct (T.number d) (T.number e) = ap K.Number (d.is ∙ sym e.is)
token_once distinct T.sign T.sign = refl

-- ---- texts

pub tokens_once : {names : List (List ℕ)} {offset : ℕ} {text : List ℕ} {tokens others : List Token} → AreDistinct names → AreTokens names offset text tokens →
    AreTokens names offset text others → tokens ≡ others
tokens_once distinct T.end T.end = refl
tokens_once {names} distinct (T.blank {offset = o} {after = after} {tokens = ts} b h) (T.blank {tokens = us} c k) =
    tokens_once distinct h (subst (λ n. AreTokens names (o + (n + 1)) (drop n after) us) (sym (begins_once b c).1) k)
tokens_once distinct (T.blank b h) (T.token c t k) = absurd (no_blank (begins_once b c).0 t)
tokens_once distinct (T.token c t k) (T.blank b h) = absurd (no_blank (begins_once b c).0 t)
tokens_once {names} distinct (T.token {offset = o} {first = f} {n = n} {after = after} {piece = p} {kind = kind} {tokens = ts} b t h) (T.token {n = m} {kind = other} {tokens = us} c s k) =
    let same = begins_once b c in
    let rest = tokens_once distinct h (subst (λ x. AreTokens names (o + (x + 1)) (drop x after) us) (sym same.1) k) in
    let piece : IsToken names p (f ∷ take m after) other = subst (λ q. IsToken names q (f ∷ take m after) other) (sym same.0) s in
    let token : IsToken names p (f ∷ take n after) other = subst (λ x. IsToken names p (f ∷ take x after) other) (sym same.1) piece in
    ap (λ x. record { kind = x; offset = o } ∷ ts) (token_once distinct t token) ∙ ap (λ l. record { kind = other; offset = o } ∷ l) rest
