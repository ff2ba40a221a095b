-- The comparison of two kinds of tokens: kinds that it finds equal are equal.
use Rattle.std.proofs.Common.{◌≡◌, ◌≢◌, ℕ, true, false, refl, sym, ap, ◌∙◌, true≢false}
use Rattle.std.specs.Prelude.{nat_eq}
use Rattle.std.proofs.lemmas.Bool.{eqb-true, eq-eqb}
use Rattle.tl_syntax.specs.declared.token.TokenKind.{TokenKind}
use Rattle.tl_syntax.specs.declared.token.TokenKind.TheVariants as K
use Rattle.tl_syntax.specs.contracts.token.TokenKindPartialEq.TheImpl.{eq-value}

pub same_kind : (a b : TokenKind) → eq-value.it a b ≡ true → a ≡ b
same_kind K.And K.And e = refl
same_kind K.Break K.Break e = refl
same_kind K.Child K.Child e = refl
same_kind K.Const K.Const e = refl
same_kind K.Descend K.Descend e = refl
same_kind K.Else K.Else e = refl
same_kind K.Emit K.Emit e = refl
same_kind K.Fail K.Fail e = refl
same_kind K.Field K.Field e = refl
same_kind K.For K.For e = refl
same_kind K.Free K.Free e = refl
same_kind K.If K.If e = refl
same_kind K.Kids K.Kids e = refl
same_kind K.Let K.Let e = refl
same_kind K.Lock K.Lock e = refl
same_kind K.Node K.Node e = refl
same_kind K.Not K.Not e = refl
same_kind K.Or K.Or e = refl
same_kind K.Proc K.Proc e = refl
same_kind K.Repeat K.Repeat e = refl
same_kind K.Require K.Require e = refl
same_kind K.Return K.Return e = refl
same_kind K.Try K.Try e = refl
same_kind K.LeftParenthesis K.LeftParenthesis e = refl
same_kind K.RightParenthesis K.RightParenthesis e = refl
same_kind K.LeftBrace K.LeftBrace e = refl
same_kind K.RightBrace K.RightBrace e = refl
same_kind K.Comma K.Comma e = refl
same_kind K.Semicolon K.Semicolon e = refl
same_kind K.Colon K.Colon e = refl
same_kind K.Dot K.Dot e = refl
same_kind K.Assign K.Assign e = refl
same_kind K.AddAssign K.AddAssign e = refl
same_kind K.SubtractAssign K.SubtractAssign e = refl
same_kind K.Plus K.Plus e = refl
same_kind K.Minus K.Minus e = refl
same_kind K.Times K.Times e = refl
same_kind K.Divide K.Divide e = refl
same_kind K.Remainder K.Remainder e = refl
same_kind K.Less K.Less e = refl
same_kind K.LessOrEqual K.LessOrEqual e = refl
same_kind K.Greater K.Greater e = refl
same_kind K.GreaterOrEqual K.GreaterOrEqual e = refl
same_kind K.Equal K.Equal e = refl
same_kind K.NotEqual K.NotEqual e = refl
same_kind K.End K.End e = refl
same_kind (K.Name s) (K.Name r) e = ap (λ n. K.Name (record { 0 = n })) (eqb-true s.0 r.0 e)
same_kind (K.Number n) (K.Number m) e = ap K.Number (eqb-true n m e)
same_kind _ _ e = absurd (true≢false (sym e))

-- and a word and a parenthesis are found equal to themselves
pub same_word : (a : TokenKind) (n : ℕ) → a ≡ K.Name (record { 0 = n }) → eq-value.it a (K.Name (record { 0 = n })) ≡ true
same_word a n e = ap (λ z. eq-value.it z (K.Name (record { 0 = n }))) e ∙ eq-eqb n n refl

pub same_parenthesis : (a : TokenKind) → a ≡ K.LeftParenthesis → eq-value.it a K.LeftParenthesis ≡ true
same_parenthesis a e = ap (λ z. eq-value.it z K.LeftParenthesis) e

symbol_of : TokenKind → ℕ
symbol_of (K.Name s) = s.0
symbol_of kind = 0

-- names of other symbols are other tokens
pub other_name : (n k : ℕ) → nat_eq n k ≡ false → K.Name (record { 0 = n }) ≢ K.Name (record { 0 = k })
unfolding symbol_of
other_name n k e f = true≢false (sym (eq-eqb n n refl) ∙ ap (nat_eq n) (ap symbol_of f) ∙ e)
