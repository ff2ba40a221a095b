-- Worked examples: the tokens of a text, and what a few tokens denote.
use Rattle.std.proofs.Common.{ℕ, List, [], ◌∷◌, pos, refl, codes, inl, lit<, lit≤}
use Rattle.tl_syntax.specs.declared.token.Token.{Token}
use Rattle.tl_syntax.specs.declared.token.TokenKind.{TokenKind}
use Rattle.tl_syntax.specs.declared.token.TokenKind.TheVariants as K
use Rattle.tl_syntax.specs.declared.operator.Operator.TheVariants as O
use Rattle.tl_syntax.specs.declared.parsed.Expression.{Expression}
use Rattle.tl_syntax.specs.declared.parsed.Form.TheVariants as F
use Rattle.tl_syntax.specs.declared.expressions.Join.TheVariants as J
use Rattle.tl_syntax.specs.Tokens as T
use Rattle.tl_syntax.specs.Tokens.{AreTokens}
use Rattle.tl_syntax.specs.Grammar.{kind_at, offset_at, Stands, IsJoined, IsExpression, Disjunction, Term, number, chain, one, more, plain}

abbrev token : TokenKind → ℕ → Token
token kind offset = record { kind = kind; offset = offset }

-- 3-2-1
abbrev three : List Token
three = token (K.Number 3) 0 ∷ token K.Minus 1 ∷ token (K.Number 2) 2 ∷ token K.Minus 3 ∷ token (K.Number 1) 4 ∷ token K.End 5 ∷ []

minus_one : Stands three K.Minus 1 2
unfolding kind_at
minus_one = record { kind_is = refl; next_is = refl }

minus_three : Stands three K.Minus 3 4
unfolding kind_at
minus_three = record { kind_is = refl; next_is = refl }

-- the number is a term
three_is : {levels : ℕ} → IsExpression three levels Term 0 1 (record { offset = 0; form = F.Number (pos 3) })
unfolding kind_at offset_at
three_is = chain (one (chain (one (plain (number (record { digits = 3; stands = record { kind_is = refl; next_is = refl }; fits = lit< tt; is = refl })) refl))))

two_is : {levels : ℕ} → IsExpression three levels Term 2 3 (record { offset = 2; form = F.Number (pos 2) })
unfolding kind_at offset_at
two_is = chain (one (chain (one (plain (number (record { digits = 2; stands = record { kind_is = refl; next_is = refl }; fits = lit< tt; is = refl })) refl))))

one_is : {levels : ℕ} → IsExpression three levels Term 4 5 (record { offset = 4; form = F.Number (pos 1) })
unfolding kind_at offset_at
one_is = chain (one (chain (one (plain (number (record { digits = 1; stands = record { kind_is = refl; next_is = refl }; fits = lit< tt; is = refl })) refl))))

-- the first two numbers are joined first
from_the_left : (a e : Expression) → IsJoined (J.Calculate O.Subtract) (record { offset = 0; form = F.Number (pos 3) }) (record { offset = 2; form = F.Number (pos 2) }) a →
    IsJoined (J.Calculate O.Subtract) a (record { offset = 4; form = F.Number (pos 1) }) e → IsExpression three 64 Disjunction 0 5 e
from_the_left a e p q = chain (one (chain (one (chain (one (chain (one (chain {spare = 62} (more {spare = 62} (more {spare = 63} (one three_is) minus_one two_is p) minus_three one_is q)))))))))

-- a reserved word, a blank, a number, a sign of two characters and a comment
read : AreTokens [] 0 (codes "emit 1>=3//x") (token K.Emit 0 ∷ token (K.Number 1) 5 ∷ token K.GreaterOrEqual 6 ∷ token (K.Number 3) 8 ∷ token K.End 12 ∷ [])
read =
    T.token (T.word refl) (T.reserved (T.word_emit refl))
    (T.blank (T.blank refl)
    (T.token (T.digits refl) (T.number (record { digits = T.first_digit refl; no_zeros = inl refl; is = refl; fits = lit≤ tt }))
    (T.token (T.long refl (T.greater refl refl)) T.sign
    (T.token (T.digits refl) (T.number (record { digits = T.first_digit refl; no_zeros = inl refl; is = refl; fits = lit≤ tt }))
    (T.blank (T.comment refl refl) T.end)))))
