-- Tokens denote only one expression: the token after it determines its end.
use Rattle.std.proofs.Common.{◌≡◌, ℕ, suc, ◌<◌, ◌≤◌, ℤ, List, refl, sym, ap, subst, ◌∙◌, arith, pos, neg_ℤ}
use Rattle.std.proofs.Math.Path.{subst₂}
use Rattle.std.specs.declared.boxed.Box.{Box}
use Rattle.std.specs.declared.alloc.Global.{Global}
use Rattle.tl_syntax.specs.declared.token.Token.{Token}
use Rattle.tl_syntax.specs.declared.token.TokenKind.{TokenKind}
use Rattle.tl_syntax.specs.declared.token.TokenKind.TheVariants as K
use Rattle.tl_syntax.specs.declared.operator.Operator.TheVariants as O
use Rattle.tl_syntax.specs.declared.parsed.Comparison.{Comparison}
use Rattle.tl_syntax.specs.declared.parsed.Comparison.TheVariants as C
use Rattle.tl_syntax.specs.declared.parsed.Name.{Name}
use Rattle.tl_syntax.specs.declared.parsed.Expression.{Expression}
use Rattle.tl_syntax.specs.declared.parsed.Form.{Form}
use Rattle.tl_syntax.specs.declared.parsed.Form.TheVariants as F
use Rattle.tl_syntax.specs.declared.expressions.Join.{Join}
use Rattle.tl_syntax.specs.declared.expressions.Join.TheVariants as J
use Rattle.tl_syntax.specs.Grammar as G
use Rattle.tl_syntax.specs.Grammar.{kind_at, offset_at, Stands, IsName, IsNumber, IsNegative, IsNoNumber, IsAdditive, IsMultiplicative, IsComparison, IsOperator, form_by, IsMade, IsJoined, Rule, Disjunction, Conjunction, Negation, Relation, Sum, Term, Unary, Atom, tighter, IsPlain, IsExpression, IsChain}
use Rattle.tl_syntax.specs.Alike as A
use Rattle.tl_syntax.specs.Alike.{Alike, AlikeForm}

-- ---- tokens

pub both_kinds : {tokens : List Token} {i j k : ℕ} {a b : TokenKind} → Stands tokens a i j → Stands tokens b i k → a ≡ b
both_kinds s t = sym s.kind_is ∙ t.kind_is

pub same_end : {tokens : List Token} {i j k : ℕ} {a b : TokenKind} → Stands tokens a i j → Stands tokens b i k → j ≡ k
same_end s t = s.next_is ∙ sym t.next_is

-- a token has only one kind
pub differ : {A : Type 0} (f : TokenKind → ℕ) {x a b : TokenKind} → x ≡ a → x ≡ b → f a < f b → A
differ f e g less = absurd (let same : f _ ≡ f _ = ap f (sym e ∙ g) in omega (arith, same, less))

symbol_in : TokenKind → ℕ
symbol_in (K.Name s) = s.0
symbol_in kind = 0

number_in : TokenKind → ℕ
number_in (K.Number n) = n
number_in kind = 0

pub same_name : {tokens : List Token} {i j k : ℕ} {n m : Name} → IsName tokens i j n → IsName tokens i k m → n ≡ m
unfolding symbol_in
same_name {n = n} {m = m} x y =
    let symbol : n.symbol.0 ≡ m.symbol.0 = ap symbol_in (both_kinds x.stands y.stands) in
    let offset : n.offset ≡ m.offset = x.offset_is ∙ sym y.offset_is in
    ap (λ s. record { symbol = record { 0 = s }; offset = n.offset }) symbol ∙ ap (λ o. record { symbol = m.symbol; offset = o }) offset

pub same_number : {tokens : List Token} {i j k : ℕ} {n m : ℤ} → IsNumber tokens i j n → IsNumber tokens i k m → n ≡ m
unfolding number_in
same_number x y = x.is ∙ ap (λ kind. pos (number_in kind)) (both_kinds x.stands y.stands) ∙ sym y.is

pub same_negative : {tokens : List Token} {i j k : ℕ} {n m : ℤ} → IsNegative tokens i j n → IsNegative tokens i k m → n ≡ m
unfolding number_in
same_negative x y = x.is ∙ ap (λ kind. neg_ℤ (pos (number_in kind))) (both_kinds x.stands y.stands) ∙ sym y.is

-- ---- what may follow, and what may begin

-- how tightly a token binds that may continue an expression; 0 for other tokens
abbrev pub binding : TokenKind → ℕ
binding K.Or = 1
binding K.And = 2
binding K.Less = 3
binding K.LessOrEqual = 3
binding K.Greater = 3
binding K.GreaterOrEqual = 3
binding K.Equal = 3
binding K.NotEqual = 3
binding K.Plus = 4
binding K.Minus = 4
binding K.Times = 5
binding K.Divide = 5
binding K.Remainder = 5
binding K.Dot = 6
binding kind = 0

-- a token that continues an expression of this rule binds at least this tightly
abbrev strength : Rule → ℕ
strength Disjunction = 1
strength Conjunction = 2
strength Negation = 3
strength Relation = 3
strength Sum = 4
strength Term = 5
strength Unary = 6
strength Atom = 6

pub record CanFollow (rule : Rule) (kind : TokenKind) : Type 0 where
  pub binds : binding kind < strength rule

tighter_strength : (rule : Rule) → strength rule ≤ strength (tighter rule)
tighter_strength Disjunction = omega arith
tighter_strength Conjunction = omega arith
tighter_strength Negation = omega arith
tighter_strength Relation = omega arith
tighter_strength Sum = omega arith
tighter_strength Term = omega arith
tighter_strength Unary = omega arith
tighter_strength Atom = omega arith

follows_tighter : (rule : Rule) {kind : TokenKind} → CanFollow rule kind → CanFollow (tighter rule) kind
follows_tighter rule f = record { binds = omega (arith, tighter_strength rule, f.binds) }

-- the token of an operator
abbrev sign : Join → TokenKind
sign J.Or = K.Or
sign J.And = K.And
sign (J.Calculate O.Add) = K.Plus
sign (J.Calculate O.Subtract) = K.Minus
sign (J.Calculate O.Multiply) = K.Times
sign (J.Calculate O.Divide) = K.Divide
sign J.Rest = K.Remainder
sign (J.Compare C.Less) = K.Less
sign (J.Compare C.LessOrEqual) = K.LessOrEqual
sign (J.Compare C.Greater) = K.Greater
sign (J.Compare C.GreaterOrEqual) = K.GreaterOrEqual
sign (J.Compare C.Equal) = K.Equal
sign (J.Compare C.NotEqual) = K.NotEqual

-- the operator of a token
join_of : TokenKind → Join
join_of K.Or = J.Or
join_of K.And = J.And
join_of K.Plus = J.Calculate O.Add
join_of K.Minus = J.Calculate O.Subtract
join_of K.Times = J.Calculate O.Multiply
join_of K.Divide = J.Calculate O.Divide
join_of K.Remainder = J.Rest
join_of K.Less = J.Compare C.Less
join_of K.LessOrEqual = J.Compare C.LessOrEqual
join_of K.Greater = J.Compare C.Greater
join_of K.GreaterOrEqual = J.Compare C.GreaterOrEqual
join_of K.Equal = J.Compare C.Equal
join_of K.NotEqual = J.Compare C.NotEqual
join_of kind = J.Or

join_of_sign : (join : Join) → join_of (sign join) ≡ join
unfolding join_of
join_of_sign J.Or = refl
join_of_sign J.And = refl
join_of_sign (J.Calculate O.Add) = refl
join_of_sign (J.Calculate O.Subtract) = refl
join_of_sign (J.Calculate O.Multiply) = refl
join_of_sign (J.Calculate O.Divide) = refl
join_of_sign J.Rest = refl
join_of_sign (J.Compare C.Less) = refl
join_of_sign (J.Compare C.LessOrEqual) = refl
join_of_sign (J.Compare C.Greater) = refl
join_of_sign (J.Compare C.GreaterOrEqual) = refl
join_of_sign (J.Compare C.Equal) = refl
join_of_sign (J.Compare C.NotEqual) = refl

-- the rules that have chains
abbrev Chains : Rule → Type 0
Chains Disjunction = Unit {0}
Chains Conjunction = Unit {0}
Chains Sum = Unit {0}
Chains Term = Unit {0}
Chains rule = ⊥

-- the operator is its token, which binds as tightly as the rule
record IsSign (tokens : List Token) (rule : Rule) (i j : ℕ) (join : Join) : Type 0 where
  chains : Chains rule
  stands : Stands tokens (sign join) i j
  binds : binding (sign join) ≡ strength rule
  follows : strength rule < strength (tighter rule)

is_sign : (tokens : List Token) (rule : Rule) (join : Join) (i j : ℕ) → IsOperator tokens rule i j join → IsSign tokens rule i j join
is_sign tokens Disjunction J.Or i j s = record { chains = tt; stands = s; binds = refl; follows = omega arith }
is_sign tokens Conjunction J.And i j s = record { chains = tt; stands = s; binds = refl; follows = omega arith }
is_sign tokens Sum (J.Calculate O.Add) i j s = record { chains = tt; stands = s; binds = refl; follows = omega arith }
is_sign tokens Sum (J.Calculate O.Subtract) i j s = record { chains = tt; stands = s; binds = refl; follows = omega arith }
is_sign tokens Term (J.Calculate O.Multiply) i j s = record { chains = tt; stands = s; binds = refl; follows = omega arith }
is_sign tokens Term (J.Calculate O.Divide) i j s = record { chains = tt; stands = s; binds = refl; follows = omega arith }
is_sign tokens Term J.Rest i j s = record { chains = tt; stands = s; binds = refl; follows = omega arith }
is_sign tokens rule join i j s = absurd s

comparison_stands : (tokens : List Token) (c : Comparison) (i j : ℕ) → IsComparison tokens i j c → Stands tokens (sign (J.Compare c)) i j
comparison_stands tokens C.Less i j s = s
comparison_stands tokens C.LessOrEqual i j s = s
comparison_stands tokens C.Greater i j s = s
comparison_stands tokens C.GreaterOrEqual i j s = s
comparison_stands tokens C.Equal i j s = s
comparison_stands tokens C.NotEqual i j s = s

comparison_binds : (c : Comparison) → binding (sign (J.Compare c)) ≡ 3
comparison_binds C.Less = refl
comparison_binds C.LessOrEqual = refl
comparison_binds C.Greater = refl
comparison_binds C.GreaterOrEqual = refl
comparison_binds C.Equal = refl
comparison_binds C.NotEqual = refl

same_join : {tokens : List Token} {i j k : ℕ} (a b : Join) → Stands tokens (sign a) i j → Stands tokens (sign b) i k → a ≡ b
same_join a b s t = sym (join_of_sign a) ∙ ap join_of (both_kinds s t) ∙ join_of_sign b

operator_binds : {tokens : List Token} {rule : Rule} {join : Join} {i j : ℕ} → IsSign tokens rule i j join → binding (kind_at tokens i) ≡ strength rule
operator_binds s = ap binding s.stands.kind_is ∙ s.binds

operator_follows : {tokens : List Token} {rule : Rule} {join : Join} {i j : ℕ} → IsSign tokens rule i j join → CanFollow (tighter rule) (kind_at tokens i)
operator_follows s = record { binds = omega (arith, operator_binds s, s.follows) }

-- an operator of a rule can't follow an expression of that rule
no_operator : {tokens : List Token} {rule : Rule} {join : Join} {i j : ℕ} → IsSign tokens rule i j join → CanFollow rule (kind_at tokens i) → ⊥
no_operator s f = omega (arith, operator_binds s, f.binds)

-- the tokens that begin an expression
abbrev opening : TokenKind → ℕ
opening K.Not = 1
opening K.Minus = 2
opening kind = 3

abbrev least : Rule → ℕ
least Disjunction = 1
least Conjunction = 1
least Negation = 1
least Relation = 2
least Sum = 2
least Term = 2
least Unary = 2
least Atom = 3

tighter_least : (rule : Rule) → least rule ≤ least (tighter rule)
tighter_least Disjunction = omega arith
tighter_least Conjunction = omega arith
tighter_least Negation = omega arith
tighter_least Relation = omega arith
tighter_least Sum = omega arith
tighter_least Term = omega arith
tighter_least Unary = omega arith
tighter_least Atom = omega arith

opens : {tokens : List Token} {kind : TokenKind} {i j n : ℕ} → Stands tokens kind i j → n ≤ opening kind → n ≤ opening (kind_at tokens i)
opens {n = n} s h = subst (λ kind. n ≤ opening kind) (sym s.kind_is) h

plain_starts : {tokens : List Token} {i j : ℕ} {form : Form} → IsPlain tokens i j form → 3 ≤ opening (kind_at tokens i)
plain_starts (G.number n) = opens n.stands (omega arith)
plain_starts (G.named n) = opens n.stands (omega arith)
plain_starts (G.field n s f) = opens n.stands (omega arith)
plain_starts (G.kids s t n u) = opens s (omega arith)

mutual
  starts : {tokens : List Token} {levels : ℕ} {rule : Rule} {i j : ℕ} {e : Expression} → IsExpression tokens levels rule i j e → least rule ≤ opening (kind_at tokens i)
  starts {rule = rule} (G.chain c) = omega (arith, tighter_least rule, chain_starts c)
  starts (G.not s h f o) = opens s (omega arith)
  starts (G.compared a c b x) = starts a
  starts (G.negative s n f o) = opens s (omega arith)
  starts (G.negated s n h f o) = opens s (omega arith)
  starts (G.grouped s h t f o) = opens s (omega arith)
  starts (G.plain p o) = plain_starts p

  chain_starts : {tokens : List Token} {levels spare : ℕ} {rule : Rule} {i j : ℕ} {e : Expression} → IsChain tokens levels spare rule i j e → least (tighter rule) ≤ opening (kind_at tokens i)
  chain_starts (G.one h) = starts h
  chain_starts (G.more c o h x) = chain_starts c

-- an expression that begins with this token isn't of a rule that binds too tightly
starts_otherwise : {A : Type 0} {tokens : List Token} {kind : TokenKind} {i j n : ℕ} → Stands tokens kind i j → n ≤ opening (kind_at tokens i) → opening kind < n → A
starts_otherwise {n = n} s h less = absurd (let h' : n ≤ opening _ = subst (λ kind. n ≤ opening kind) s.kind_is h in omega (arith, h', less))

-- ---- what is alike

offset_same : {e f : Expression} → Alike e f → e.offset ≡ f.offset
offset_same (A.alike o form) = o

form_alike : {e f : Expression} → Alike e f → AlikeForm e.form f.form
form_alike (A.alike o form) = form

alike_made : {join : Join} {a b c d e f : Expression} → IsMade join a b e → IsMade join c d f → Alike a c → Alike b d → Alike e f
alike_made {join} {e = e} {f = f} x y ac bd =
    let left : Alike x.left.value y.left.value = subst₂ Alike (sym x.left_is) (sym y.left_is) ac in
    let right : Alike x.right.value y.right.value = subst₂ Alike (sym x.right_is) (sym y.right_is) bd in
    A.alike (x.offset_is ∙ offset_same ac ∙ sym y.offset_is) (subst₂ AlikeForm (sym x.form_is) (sym y.form_is) (A.joined join x.left x.right y.left y.right left right))

alike_joined : {join : Join} {a b c d e f : Expression} → IsJoined join a b e → IsJoined join c d f → Alike a c → Alike b d → Alike e f
alike_joined (G.directly n x) (G.directly m y) ac bd = alike_made x y ac bd
alike_joined (G.directly n x) (G.as_rest e y) ac bd = absurd (n e)
alike_joined (G.as_rest e x) (G.directly n y) ac bd = absurd (n e)
alike_joined (G.as_rest e x) (G.as_rest g y) ac bd =
    alike_made x.difference_is y.difference_is ac (alike_made x.product_is y.product_is (alike_made x.quotient_is y.quotient_is ac bd) bd)

-- all expressions of this rule that begin at i and may end where they do are alike and end at the same token
abbrev pub Once : List Token → Rule → ℕ → ℕ → Expression → Type 0
Once tokens rule i j e = CanFollow rule (kind_at tokens j) → (levels k : ℕ) (f : Expression) → IsExpression tokens levels rule i k f →
    CanFollow rule (kind_at tokens k) → (j ≡ k) × Alike e f

-- ---- chains

-- what follows the operand a in a chain
data Rest (tokens : List Token) (rule : Rule) : ℕ → Expression → ℕ → Expression → Type 0 where
  done : {j : ℕ} {a : Expression} → Rest tokens rule j a j a
  step : {spare j k l m : ℕ} {join : Join} {a b c f : Expression} → IsSign tokens rule j k join → IsExpression tokens spare (tighter rule) k l b →
      IsJoined join a b c → Rest tokens rule l c m f → Rest tokens rule j a m f

record Parts (tokens : List Token) (rule : Rule) (i k : ℕ) (f : Expression) : Type 0 where
  levels : ℕ
  middle : ℕ
  operand : Expression
  first : IsExpression tokens levels (tighter rule) i middle operand
  rest : Rest tokens rule middle operand k f

append : {tokens : List Token} {rule : Rule} {spare j k l m : ℕ} {join : Join} {a b f g : Expression} → Rest tokens rule j a k f → IsSign tokens rule k l join →
    IsExpression tokens spare (tighter rule) l m b → IsJoined join f b g → Rest tokens rule j a m g
append done o h x = step o h x done
append (step p g y r) o h x = step p g y (append r o h x)

parts : {tokens : List Token} {levels spare : ℕ} {rule : Rule} {i k : ℕ} {f : Expression} → IsChain tokens levels spare rule i k f → Parts tokens rule i k f
parts (G.one {levels = l} {j = j} {e = e} h) = record { levels = l; middle = j; operand = e; first = h; rest = done }
parts {tokens} (G.more {rule = rule} {join = join} {j = j} {k = k} c o h x) =
    let p = parts c in
    record { levels = p.levels; middle = p.middle; operand = p.operand; first = p.first; rest = append p.rest (is_sign tokens rule join j k o) h x }

rest_follows : {tokens : List Token} (rule : Rule) {j k : ℕ} {a f : Expression} → Rest tokens rule j a k f → CanFollow (tighter rule) (kind_at tokens k) →
    CanFollow (tighter rule) (kind_at tokens j)
rest_follows rule done g = g
rest_follows rule (step o h x r) g = operator_follows o

-- the second chain goes on where the first one ends, or the first one goes on after the second
data Compared (tokens : List Token) (rule : Rule) (j : ℕ) (e : Expression) (k : ℕ) (f : Expression) : Type 0 where
  within : {a : Expression} → Rest tokens rule j a k f → Alike e a → Compared tokens rule j e k f
  beyond : {join : Join} {l : ℕ} → IsSign tokens rule k l join → Compared tokens rule j e k f

abbrev Compares : List Token → Rule → ℕ → ℕ → Expression → Type 0
Compares tokens rule i j e = CanFollow (tighter rule) (kind_at tokens j) → (k : ℕ) (f : Expression) → Parts tokens rule i k f →
    CanFollow (tighter rule) (kind_at tokens k) → Compared tokens rule j e k f

one_compared : (tokens : List Token) (rule : Rule) (i j : ℕ) (e : Expression) → Once tokens (tighter rule) i j e → Compares tokens rule i j e
one_compared tokens rule i j e once f k g p follows =
    let same = once f p.levels p.middle p.operand p.first (rest_follows rule p.rest follows) in
    within (subst (λ x. Rest tokens rule x p.operand k g) (sym same.0) p.rest) same.1

more_along : (tokens : List Token) (rule : Rule) (join : Join) (j k l m : ℕ) (a b e g : Expression) → IsSign tokens rule j k join → Once tokens (tighter rule) k l b →
    IsJoined join a b e → CanFollow (tighter rule) (kind_at tokens l) → CanFollow (tighter rule) (kind_at tokens m) → Compared tokens rule j a m g →
    Compared tokens rule l e m g
more_along tokens rule join j k l m a b e g s once x f follows (beyond q) = beyond q
more_along tokens rule join j k l m a b e g s once x f follows (within done same) = beyond s
more_along tokens rule join j k l m a b e g s once x f follows (within {a = c} (step {spare = spare} {k = k2} {l = l2} {join = n} {b = b2} {c = d} t h y r) same) =
    let joins : join ≡ n = same_join join n s.stands t.stands in
    let h' : IsExpression tokens spare (tighter rule) k l2 b2 = subst (λ z. IsExpression tokens spare (tighter rule) z l2 b2) (sym (same_end s.stands t.stands)) h in
    let right = once f spare l2 b2 h' (rest_follows rule r follows) in
    let y' : IsJoined join c b2 d = subst (λ z. IsJoined z c b2 d) (sym joins) y in
    within (subst (λ z. Rest tokens rule z d m g) (sym right.0) r) (alike_joined x y' same right.1)

more_compared : (tokens : List Token) (rule : Rule) (join : Join) (i j k l : ℕ) (a b e : Expression) → Compares tokens rule i j a → IsSign tokens rule j k join →
    Once tokens (tighter rule) k l b → IsJoined join a b e → Compares tokens rule i l e
more_compared tokens rule join i j k l a b e before s once x f m g p follows =
    more_along tokens rule join j k l m a b e g s once x f follows (before (operator_follows s) m g p follows)

-- ---- the rules

chain_end : {tokens : List Token} {rule : Rule} {j k : ℕ} {e f : Expression} → Compared tokens rule j e k f → CanFollow rule (kind_at tokens j) →
    CanFollow rule (kind_at tokens k) → (j ≡ k) × Alike e f
chain_end (within done same) f g = (refl, same)
chain_end (within (step o h x r) same) f g = absurd (no_operator o f)
chain_end (beyond o) f g = absurd (no_operator o g)

-- the binding strength of a comparison's token
comparison_at : (tokens : List Token) (c : Comparison) (i j : ℕ) → IsComparison tokens i j c → binding (kind_at tokens i) ≡ 3
comparison_at tokens c i j cmp = let s = comparison_stands tokens c i j cmp in ap binding s.kind_is ∙ comparison_binds c

comparison_follows : (tokens : List Token) (c : Comparison) (i j : ℕ) → IsComparison tokens i j c → CanFollow Sum (kind_at tokens i)
comparison_follows tokens c i j cmp = record { binds = omega (arith, comparison_at tokens c i j cmp) }

no_comparison : (tokens : List Token) (c : Comparison) (i j : ℕ) → IsComparison tokens i j c → CanFollow Relation (kind_at tokens i) → ⊥
no_comparison tokens c i j cmp f = omega (arith, comparison_at tokens c i j cmp, f.binds)

no_relation : (tokens : List Token) (c : Comparison) (j m n : ℕ) (e a : Expression) → Compared tokens Relation j e m a → IsComparison tokens m n c →
    CanFollow Relation (kind_at tokens j) → ⊥
no_relation tokens c j m n e a (within done same) cmp f = no_comparison tokens c m n cmp f
no_relation tokens c j m n e a (within (step o h x r) same) cmp f = absurd o.chains
no_relation tokens c j m n e a (beyond o) cmp f = absurd o.chains

chain_once : (tokens : List Token) (rule : Rule) (i j : ℕ) (e : Expression) → Compares tokens rule i j e → least (tighter rule) ≤ opening (kind_at tokens i) → Once tokens rule i j e
chain_once tokens rule i j e compare first f levels k g (G.chain c) follows =
    chain_end (compare (follows_tighter rule f) k g (parts c) (follows_tighter rule follows)) f follows
chain_once tokens rule i j e compare first f levels k g (G.not s h form o) follows = starts_otherwise s first (omega arith)
chain_once tokens rule i j e compare first f levels k g (G.compared {levels = l} {j = m} {k = n} {c = c} {a = a} x cmp b y) follows =
    let parts : Parts tokens Relation i m a = record { levels = l; middle = m; operand = a; first = x; rest = done } in
    absurd (no_relation tokens c j m n e a (compare (follows_tighter Relation f) m a parts (comparison_follows tokens c m n cmp)) cmp f)
chain_once tokens rule i j e compare first f levels k g (G.negative s n form o) follows = starts_otherwise s first (omega arith)
chain_once tokens rule i j e compare first f levels k g (G.negated s n h form o) follows = starts_otherwise s first (omega arith)
chain_once tokens rule i j e compare first f levels k g (G.grouped {levels = l} s h t form o) follows =
    chain_end (compare f k g (record { levels = suc l; middle = k; operand = g; first = G.grouped s h t form o; rest = done }) follows) f follows
chain_once tokens rule i j e compare first f levels k g (G.plain p o) follows =
    chain_end (compare f k g (record { levels = levels; middle = k; operand = g; first = G.plain p o; rest = done }) follows) f follows

not_once : {tokens : List Token} {i j k : ℕ} {a : Box Expression Global} {e : Expression} → Stands tokens K.Not i j → Once tokens Negation j k a.value →
    e.form ≡ F.Not a → e.offset ≡ offset_at tokens i → Once tokens Negation i k e
not_once s once form o f levels l g (G.chain c) follows = starts_otherwise s (chain_starts c) (omega arith)
not_once {tokens} s once form o f levels l g (G.not {levels = m} {a = b} t h form2 o2) follows =
    let h' : IsExpression tokens m Negation _ l b.value = subst (λ z. IsExpression tokens m Negation z l b.value) (sym (same_end s t)) h in
    let same = once f m l b.value h' follows in
    (same.0, A.alike (o ∙ sym o2) (subst₂ AlikeForm (sym form) (sym form2) (A.not same.1)))

at_end : {tokens : List Token} {n m : ℕ} {h g : Expression} → Rest tokens Relation n h m g → n ≡ m
at_end done = refl
at_end (step o h x r) = absurd o.chains

compared_once : (tokens : List Token) (i j k l : ℕ) (c : Comparison) (a b e : Expression) → Once tokens Sum i j a → IsComparison tokens j k c → Once tokens Sum k l b →
    IsJoined (J.Compare c) a b e → Once tokens Relation i l e
compared_once tokens i j k l c a b e first cmp second x f levels m g (G.chain d) follows =
    let p = parts d in
    let ends = at_end p.rest in
    let same = first (comparison_follows tokens c j k cmp) p.levels p.middle p.operand p.first (subst (λ z. CanFollow Sum (kind_at tokens z)) (sym ends) (follows_tighter Relation follows)) in
    absurd (no_comparison tokens c j k cmp (subst (λ z. CanFollow Relation (kind_at tokens z)) (sym (same.0 ∙ ends)) follows))
compared_once tokens i j k l c a b e first cmp second x f levels m g (G.compared {levels = n} {j = j2} {k = k2} {c = d} {a = a2} {b = b2} h cmp2 h2 y) follows =
    let s = comparison_stands tokens c j k cmp in
    let t = comparison_stands tokens d j2 k2 cmp2 in
    let left = first (comparison_follows tokens c j k cmp) n j2 a2 h (comparison_follows tokens d j2 k2 cmp2) in
    let t' : Stands tokens (sign (J.Compare d)) j k2 = subst (λ z. Stands tokens (sign (J.Compare d)) z k2) (sym left.0) t in
    let joins : J.Compare c ≡ J.Compare d = same_join (J.Compare c) (J.Compare d) s t' in
    let h2' : IsExpression tokens n Sum k m b2 = subst (λ z. IsExpression tokens n Sum z m b2) (sym (same_end s t')) h2 in
    let right = second (follows_tighter Relation f) n m b2 h2' (follows_tighter Relation follows) in
    let y' : IsJoined (J.Compare c) a2 b2 g = subst (λ z. IsJoined z a2 b2 g) (sym joins) y in
    (right.0, alike_joined x y' left.1 right.1)

negative_once : {tokens : List Token} {i j k : ℕ} {n : ℤ} {e : Expression} → Stands tokens K.Minus i j → IsNegative tokens j k n → e.form ≡ F.Number n →
    e.offset ≡ offset_at tokens i → Once tokens Unary i k e
negative_once s n form o f levels l g (G.chain c) follows = starts_otherwise s (chain_starts c) (omega arith)
negative_once {tokens} {n = n0} s n form o f levels l g (G.negative {n = m} t n2 form2 o2) follows =
    let n2' : IsNegative tokens _ l m = subst (λ z. IsNegative tokens z l m) (sym (same_end s t)) n2 in
    (same_end n.stands n2'.stands, A.alike (o ∙ sym o2) (subst₂ AlikeForm (sym form) (sym form2) (subst (λ z. AlikeForm (F.Number n0) (F.Number z)) (same_negative n n2') A.same_form)))
negative_once {tokens} s n form o f levels l g (G.negated t none h form2 o2) follows =
    absurd ((subst (λ z. IsNoNumber tokens z) (sym (same_end s t)) none) n.digits n.stands.kind_is)

negated_once : {tokens : List Token} {i j k : ℕ} {a : Box Expression Global} {e : Expression} → Stands tokens K.Minus i j → IsNoNumber tokens j → Once tokens Unary j k a.value →
    e.form ≡ F.Negated a → e.offset ≡ offset_at tokens i → Once tokens Unary i k e
negated_once s none once form o f levels l g (G.chain c) follows = starts_otherwise s (chain_starts c) (omega arith)
negated_once {tokens} s none once form o f levels l g (G.negative t n form2 o2) follows =
    absurd ((subst (λ z. IsNoNumber tokens z) (same_end s t) none) n.digits n.stands.kind_is)
negated_once {tokens} s none once form o f levels l g (G.negated {levels = m} {a = b} t none2 h form2 o2) follows =
    let h' : IsExpression tokens m Unary _ l b.value = subst (λ z. IsExpression tokens m Unary z l b.value) (sym (same_end s t)) h in
    let same = once f m l b.value h' follows in
    (same.0, A.alike (o ∙ sym o2) (subst₂ AlikeForm (sym form) (sym form2) (A.negated same.1)))

-- how an atom begins
data IsAtom (tokens : List Token) (i k : ℕ) (f : Expression) : Type 0 where
  group : {levels j l : ℕ} {a : Expression} → Stands tokens K.LeftParenthesis i j → IsExpression tokens levels Disjunction j l a → Stands tokens K.RightParenthesis l k →
      f.form ≡ a.form → f.offset ≡ offset_at tokens i → IsAtom tokens i k f
  simple : IsPlain tokens i k f.form → f.offset ≡ offset_at tokens i → IsAtom tokens i k f

mutual
  atom : {tokens : List Token} {levels i k : ℕ} {f : Expression} → IsExpression tokens levels Atom i k f → IsAtom tokens i k f
  atom (G.chain c) = chain_atom c
  atom (G.grouped s h t form o) = group s h t form o
  atom (G.plain p o) = simple p o

  chain_atom : {tokens : List Token} {levels spare i k : ℕ} {f : Expression} → IsChain tokens levels spare Atom i k f → IsAtom tokens i k f
  chain_atom (G.one h) = atom h
  chain_atom (G.more c o h x) = absurd o

abbrev beginning : TokenKind → ℕ
beginning (K.Name s) = 1
beginning (K.Number n) = 2
beginning K.Kids = 3
beginning K.LeftParenthesis = 4
beginning kind = 0

plain_once : {tokens : List Token} {i j k : ℕ} {a b : Form} → IsPlain tokens i j a → CanFollow Atom (kind_at tokens j) → IsPlain tokens i k b →
    CanFollow Atom (kind_at tokens k) → (j ≡ k) × (a ≡ b)
plain_once (G.number n) f (G.number m) g = (same_end n.stands m.stands, ap F.Number (same_number n m))
plain_once (G.number n) f (G.named m) g = differ beginning m.stands.kind_is n.stands.kind_is (omega arith)
plain_once (G.number n) f (G.field m s e) g = differ beginning m.stands.kind_is n.stands.kind_is (omega arith)
plain_once (G.number n) f (G.kids s t m u) g = differ beginning n.stands.kind_is s.kind_is (omega arith)
plain_once (G.named n) f (G.number m) g = differ beginning n.stands.kind_is m.stands.kind_is (omega arith)
plain_once (G.named n) f (G.named m) g = (same_end n.stands m.stands, ap F.Named (same_name n m))
plain_once {tokens} (G.named n) f (G.field m s e) g =
    let dot : binding (kind_at tokens _) ≡ 6 = ap (λ z. binding (kind_at tokens z)) (same_end n.stands m.stands) ∙ ap binding s.kind_is in
    absurd (omega (arith, dot, f.binds))
plain_once (G.named n) f (G.kids s t m u) g = differ beginning n.stands.kind_is s.kind_is (omega arith)
plain_once (G.field n s e) f (G.number m) g = differ beginning n.stands.kind_is m.stands.kind_is (omega arith)
plain_once {tokens} (G.field n s e) f (G.named m) g =
    let dot : binding (kind_at tokens _) ≡ 6 = ap (λ z. binding (kind_at tokens z)) (same_end m.stands n.stands) ∙ ap binding s.kind_is in
    absurd (omega (arith, dot, g.binds))
plain_once {tokens} {k = end} (G.field {k = k1} {n = n1} {f = f1} n s e) f (G.field {k = k2} {n = n2} {f = f2} m t d) g =
    let t' = subst (λ z. Stands tokens K.Dot z k2) (sym (same_end n.stands m.stands)) t in
    let d' : IsName tokens k1 end f2 = subst (λ z. IsName tokens z end f2) (sym (same_end s t')) d in
    (same_end e.stands d'.stands, ap (λ x. F.Field x f1) (same_name n m) ∙ ap (λ x. F.Field n2 x) (same_name e d'))
plain_once (G.field n s e) f (G.kids t u m v) g = differ beginning n.stands.kind_is t.kind_is (omega arith)
plain_once (G.kids s t n u) f (G.number m) g = differ beginning m.stands.kind_is s.kind_is (omega arith)
plain_once (G.kids s t n u) f (G.named m) g = differ beginning m.stands.kind_is s.kind_is (omega arith)
plain_once (G.kids s t n u) f (G.field m d e) g = differ beginning m.stands.kind_is s.kind_is (omega arith)
plain_once {tokens} {k = end} (G.kids {j = j1} {k = k1} {l = l1} s t n u) f (G.kids {k = k2} {l = l2} {n = n2} s2 t2 m u2) g =
    let t2' : Stands tokens K.LeftParenthesis j1 k2 = subst (λ z. Stands tokens K.LeftParenthesis z k2) (sym (same_end s s2)) t2 in
    let m' : IsName tokens k1 l2 n2 = subst (λ z. IsName tokens z l2 n2) (sym (same_end t t2')) m in
    let u2' : Stands tokens K.RightParenthesis l1 end = subst (λ z. Stands tokens K.RightParenthesis z end) (sym (same_end n.stands m'.stands)) u2 in
    (same_end u u2', ap F.Children (same_name n m'))

no_group : {tokens : List Token} {i j n : ℕ} {form : Form} → IsPlain tokens i n form → Stands tokens K.LeftParenthesis i j → ⊥
no_group (G.number n) s = differ beginning n.stands.kind_is s.kind_is (omega arith)
no_group (G.named n) s = differ beginning n.stands.kind_is s.kind_is (omega arith)
no_group (G.field n d e) s = differ beginning n.stands.kind_is s.kind_is (omega arith)
no_group (G.kids d t n u) s = differ beginning d.kind_is s.kind_is (omega arith)

grouped_once : {tokens : List Token} {i j k l : ℕ} {a e : Expression} → Stands tokens K.LeftParenthesis i j → Once tokens Disjunction j k a → Stands tokens K.RightParenthesis k l →
    e.form ≡ a.form → e.offset ≡ offset_at tokens i → Once tokens Atom i l e
grouped_once {tokens} {i} {j} {k} {l} {a} {e} s once t form o f levels m g h follows = by (atom h)
  where
    by : IsAtom tokens i m g → (l ≡ m) × Alike e g
    by (group {levels = n} {j = j2} {l = l2} {a = b} s2 h2 t2 form2 o2) =
        let h2' : IsExpression tokens n Disjunction j l2 b = subst (λ z. IsExpression tokens n Disjunction z l2 b) (sym (same_end s s2)) h2 in
        let here : CanFollow Disjunction (kind_at tokens k) = record { binds = omega (arith, ap binding t.kind_is) } in
        let there : CanFollow Disjunction (kind_at tokens l2) = record { binds = omega (arith, ap binding t2.kind_is) } in
        let same = once here n l2 b h2' there in
        let t2' = subst (λ z. Stands tokens K.RightParenthesis z m) (sym same.0) t2 in
        (same_end t t2', A.alike (o ∙ sym o2) (subst₂ AlikeForm (sym form) (sym form2) (form_alike same.1)))
    by (simple p o2) = absurd (no_group p s)

simple_once : {tokens : List Token} {i k : ℕ} {e : Expression} → IsPlain tokens i k e.form → e.offset ≡ offset_at tokens i → Once tokens Atom i k e
simple_once {tokens} {i} {k} {e} p o f levels m g h follows = by (atom h)
  where
    by : IsAtom tokens i m g → (k ≡ m) × Alike e g
    by (group s h t form o2) = absurd (no_group p s)
    by (simple p2 o2) =
        let same = plain_once p f p2 follows in
        (same.0, A.alike (o ∙ sym o2) (subst (λ z. AlikeForm e.form z) same.1 A.same_form))

mutual
  pub once : {tokens : List Token} {levels : ℕ} {rule : Rule} {i j : ℕ} {e : Expression} → IsExpression tokens levels rule i j e → Once tokens rule i j e
  once {tokens} (G.chain {rule = rule} {i = i} {j = j} {e = e} c) = chain_once tokens rule i j e (compare c) (chain_starts c)
  once (G.not {a = a} s h form o) = not_once {a = a} s (once h) form o
  once {tokens} (G.compared {i = i} {j = j} {k = k} {l = l} {c = c} {a = a} {b = b} {e = e} x cmp y joined) =
      compared_once tokens i j k l c a b e (once x) cmp (once y) joined
  once (G.negative s n form o) = negative_once s n form o
  once (G.negated {a = a} s none h form o) = negated_once {a = a} s none (once h) form o
  once (G.grouped {a = a} s h t form o) = grouped_once {a = a} s (once h) t form o
  once (G.plain p o) = simple_once p o

  compare : {tokens : List Token} {levels spare : ℕ} {rule : Rule} {i j : ℕ} {e : Expression} → IsChain tokens levels spare rule i j e → Compares tokens rule i j e
  compare {tokens} (G.one {rule = rule} {i = i} {j = j} {e = e} h) = one_compared tokens rule i j e (once h)
  compare {tokens} (G.more {rule = rule} {join = join} {i = i} {j = j} {k = k} {l = l} {a = a} {b = b} {e = e} c o h x) =
      more_compared tokens rule join i j k l a b e (compare c) (is_sign tokens rule join j k o) (once h) x
