-- The grammar of expressions. Each rule says what the tokens from i up to but not including j denote.
use Rattle.std.specs.Prelude.{◌≡◌, ◌≢◌, ℕ, suc, ◌+◌, ◌-◌, ◌<◌, ◌≤◌, List, length, Option, None, Some, slice_get, ℤ, pos, neg_ℤ}
use Rattle.std.specs.declared.boxed.Box.{Box}
use Rattle.std.specs.declared.alloc.Global.{Global}
use Rattle.tl_syntax.specs.declared.token.Token.{Token}
use Rattle.tl_syntax.specs.declared.token.TokenKind.{TokenKind}
use Rattle.tl_syntax.specs.declared.token.TokenKind.TheVariants as K
use Rattle.tl_syntax.specs.declared.operator.Operator.{Operator}
use Rattle.tl_syntax.specs.declared.operator.Operator.TheVariants as O
use Rattle.tl_syntax.specs.declared.parsed.Comparison.{Comparison}
use Rattle.tl_syntax.specs.declared.parsed.Comparison.TheVariants as C
use Rattle.tl_syntax.specs.declared.parsed.Name.{Name}
use Rattle.tl_syntax.specs.declared.parsed.Expression.{Expression}
use Rattle.tl_syntax.specs.declared.parsed.Form.{Form}
use Rattle.tl_syntax.specs.declared.parsed.Form.TheVariants as F
use Rattle.tl_syntax.specs.declared.expressions.Join.{Join}
use Rattle.tl_syntax.specs.declared.expressions.Join.TheVariants as J
use Rattle.tl_syntax.specs.declared.words.TheConstants.{MAX_NUMBER}

-- ---- tokens

abbrev pub kind_of : Option Token → TokenKind
kind_of None = K.End
kind_of (Some token) = token.kind

-- the kind of token i; after the last token it is `End`
unfoldable pub kind_at : List Token → ℕ → TokenKind
kind_at tokens i = kind_of (slice_get tokens i)

abbrev pub offset_of : Option Token → Option Token → ℕ
offset_of (Some token) last = token.offset
offset_of None (Some token) = token.offset
offset_of None None = 0

-- the offset of token i; after the last token it is that of the last token
unfoldable pub offset_at : List Token → ℕ → ℕ
offset_at tokens i = offset_of (slice_get tokens i) (slice_get tokens (length tokens - 1))

-- one token of this kind
pub record Stands (tokens : List Token) (kind : TokenKind) (i j : ℕ) : Type 0 where
  pub kind_is : kind_at tokens i ≡ kind
  pub next_is : j ≡ i + 1

pub record IsName (tokens : List Token) (i j : ℕ) (name : Name) : Type 0 where
  pub stands : Stands tokens (K.Name name.symbol) i j
  pub offset_is : name.offset ≡ offset_at tokens i

-- a number below MAX_NUMBER; after a minus sign MAX_NUMBER is allowed too
pub record IsNumber (tokens : List Token) (i j : ℕ) (number : ℤ) : Type 0 where
  pub digits : ℕ
  pub stands : Stands tokens (K.Number digits) i j
  pub fits : digits < MAX_NUMBER
  pub is : number ≡ pos digits

-- the number after a minus sign
pub record IsNegative (tokens : List Token) (i j : ℕ) (number : ℤ) : Type 0 where
  pub digits : ℕ
  pub stands : Stands tokens (K.Number digits) i j
  pub fits : digits ≤ MAX_NUMBER
  pub is : number ≡ neg_ℤ (pos digits)

-- token i is no number
abbrev pub IsNoNumber : List Token → ℕ → Type 0
IsNoNumber tokens i = (digits : ℕ) → kind_at tokens i ≢ K.Number digits

-- ---- expressions

abbrev pub IsAdditive : List Token → ℕ → ℕ → Operator → Type 0
IsAdditive tokens i j O.Add = Stands tokens K.Plus i j
IsAdditive tokens i j O.Subtract = Stands tokens K.Minus i j
IsAdditive tokens i j operator = ⊥

abbrev pub IsMultiplicative : List Token → ℕ → ℕ → Join → Type 0
IsMultiplicative tokens i j (J.Calculate O.Multiply) = Stands tokens K.Times i j
IsMultiplicative tokens i j (J.Calculate O.Divide) = Stands tokens K.Divide i j
IsMultiplicative tokens i j J.Rest = Stands tokens K.Remainder i j
IsMultiplicative tokens i j join = ⊥

abbrev pub IsComparison : List Token → ℕ → ℕ → Comparison → Type 0
IsComparison tokens i j C.Less = Stands tokens K.Less i j
IsComparison tokens i j C.LessOrEqual = Stands tokens K.LessOrEqual i j
IsComparison tokens i j C.Greater = Stands tokens K.Greater i j
IsComparison tokens i j C.GreaterOrEqual = Stands tokens K.GreaterOrEqual i j
IsComparison tokens i j C.Equal = Stands tokens K.Equal i j
IsComparison tokens i j C.NotEqual = Stands tokens K.NotEqual i j

-- a rest is a difference
abbrev pub form_by : Join → Box Expression Global → Box Expression Global → Form
form_by J.Or a b = F.Or a b
form_by J.And a b = F.And a b
form_by (J.Compare comparison) a b = F.Compared comparison a b
form_by (J.Calculate operator) a b = F.Calculated operator a b
form_by J.Rest a b = F.Calculated O.Subtract a b

-- the expression of an operator and its two sides; the offset is that of the first one
pub record IsMade (join : Join) (a b e : Expression) : Type 0 where
  pub left : Box Expression Global
  pub right : Box Expression Global
  pub left_is : left.value ≡ a
  pub right_is : right.value ≡ b
  pub form_is : e.form ≡ form_by join left right
  pub offset_is : e.offset ≡ a.offset

-- a number, a name, a field, or the number of a node's children
abbrev pub IsShort : Form → Type 0
IsShort (F.Number n) = Unit {0}
IsShort (F.Named name) = Unit {0}
IsShort (F.Field node field) = Unit {0}
IsShort (F.Children node) = Unit {0}
IsShort form = ⊥

-- `a % b` is `a - a / b * b`, for short sides
pub record IsRest (a b e : Expression) : Type 0 where
  pub quotient : Expression
  pub product : Expression
  pub left_short : IsShort a.form
  pub right_short : IsShort b.form
  pub quotient_is : IsMade (J.Calculate O.Divide) a b quotient
  pub product_is : IsMade (J.Calculate O.Multiply) quotient b product
  pub difference_is : IsMade J.Rest a product e

-- two expressions joined by an operator
pub data IsJoined (join : Join) (a b e : Expression) : Type 0 where
  directly : join ≢ J.Rest → IsMade join a b e → IsJoined join a b e
  as_rest : join ≡ J.Rest → IsRest a b e → IsJoined join a b e

-- the rules of expressions, from the one that binds least tightly
pub data Rule : Type 0 where
  Disjunction : Rule
  Conjunction : Rule
  Negation : Rule
  Relation : Rule
  Sum : Rule
  Term : Rule
  Unary : Rule
  Atom : Rule

-- the rule that binds more tightly
abbrev pub tighter : Rule → Rule
tighter Disjunction = Conjunction
tighter Conjunction = Negation
tighter Negation = Relation
tighter Relation = Sum
tighter Sum = Term
tighter Term = Unary
tighter Unary = Atom
tighter Atom = Atom

-- the forms of an atom without parentheses
pub data IsPlain (tokens : List Token) : ℕ → ℕ → Form → Type 0 where
  number : {i j : ℕ} {n : ℤ} → IsNumber tokens i j n → IsPlain tokens i j (F.Number n)
  named : {i j : ℕ} {n : Name} → IsName tokens i j n → IsPlain tokens i j (F.Named n)
  field : {i j k l : ℕ} {n f : Name} → IsName tokens i j n → Stands tokens K.Dot j k → IsName tokens k l f → IsPlain tokens i l (F.Field n f)
  kids : {i j k l m : ℕ} {n : Name} → Stands tokens K.Kids i j → Stands tokens K.LeftParenthesis j k → IsName tokens k l n →
      Stands tokens K.RightParenthesis l m → IsPlain tokens i m (F.Children n)

-- an operator of a chain, and how it joins its operands
abbrev pub IsOperator : List Token → Rule → ℕ → ℕ → Join → Type 0
IsOperator tokens Disjunction i j J.Or = Stands tokens K.Or i j
IsOperator tokens Conjunction i j J.And = Stands tokens K.And i j
IsOperator tokens Sum i j (J.Calculate operator) = IsAdditive tokens i j operator
IsOperator tokens Term i j join = IsMultiplicative tokens i j join
IsOperator tokens rule i j join = ⊥

-- `levels` is the number of levels that may still be opened. A `not`, a minus sign and a parenthesis each open a level
-- for their operand. Each operator of a chain opens a level that stays open until the chain ends, and `spare` is the
-- number left there. A comparison and a negative number open none.
mutual
  pub data IsExpression (tokens : List Token) : ℕ → Rule → ℕ → ℕ → Expression → Type 0 where
    chain : {levels spare : ℕ} {rule : Rule} {i j : ℕ} {e : Expression} → IsChain tokens levels spare rule i j e → IsExpression tokens levels rule i j e
    not : {levels i j k : ℕ} {a : Box Expression Global} {e : Expression} → Stands tokens K.Not i j → IsExpression tokens levels Negation j k a.value →
        e.form ≡ F.Not a → e.offset ≡ offset_at tokens i → IsExpression tokens (suc levels) Negation i k e
    compared : {levels i j k l : ℕ} {c : Comparison} {a b e : Expression} → IsExpression tokens levels Sum i j a → IsComparison tokens j k c →
        IsExpression tokens levels Sum k l b → IsJoined (J.Compare c) a b e → IsExpression tokens levels Relation i l e
    negative : {levels i j k : ℕ} {n : ℤ} {e : Expression} → Stands tokens K.Minus i j → IsNegative tokens j k n →
        e.form ≡ F.Number n → e.offset ≡ offset_at tokens i → IsExpression tokens levels Unary i k e
    -- a minus sign directly before a number is part of the number
    negated : {levels i j k : ℕ} {a : Box Expression Global} {e : Expression} → Stands tokens K.Minus i j → IsNoNumber tokens j →
        IsExpression tokens levels Unary j k a.value → e.form ≡ F.Negated a → e.offset ≡ offset_at tokens i → IsExpression tokens (suc levels) Unary i k e
    -- the offset is that of the parenthesis
    grouped : {levels i j k l : ℕ} {a e : Expression} → Stands tokens K.LeftParenthesis i j → IsExpression tokens levels Disjunction j k a →
        Stands tokens K.RightParenthesis k l → e.form ≡ a.form → e.offset ≡ offset_at tokens i → IsExpression tokens (suc levels) Atom i l e
    plain : {levels i j : ℕ} {e : Expression} → IsPlain tokens i j e.form → e.offset ≡ offset_at tokens i → IsExpression tokens levels Atom i j e

  -- one or more operands of the next tighter rule, joined from the left
  pub data IsChain (tokens : List Token) : ℕ → ℕ → Rule → ℕ → ℕ → Expression → Type 0 where
    one : {levels : ℕ} {rule : Rule} {i j : ℕ} {e : Expression} → IsExpression tokens levels (tighter rule) i j e → IsChain tokens levels levels rule i j e
    more : {levels spare : ℕ} {rule : Rule} {join : Join} {i j k l : ℕ} {a b e : Expression} → IsChain tokens levels (suc spare) rule i j a →
        IsOperator tokens rule j k join → IsExpression tokens spare (tighter rule) k l b → IsJoined join a b e → IsChain tokens levels spare rule i l e
