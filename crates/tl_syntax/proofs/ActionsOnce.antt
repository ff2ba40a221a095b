-- Tokens denote only one statement without blocks, only one question and only one count.
use Rattle.std.proofs.Common.{◌≡◌, ℕ, List, [], ◌∷◌, ◌++◌, Option, refl, sym, ap, subst, ◌∙◌, arith}
use Rattle.std.proofs.Math.Path.{subst₂}
use Rattle.tl_syntax.specs.declared.token.Token.{Token}
use Rattle.tl_syntax.specs.declared.token.TokenKind.{TokenKind}
use Rattle.tl_syntax.specs.declared.token.TokenKind.TheVariants as K
use Rattle.tl_syntax.specs.declared.parsed.Expression.{Expression}
use Rattle.tl_syntax.specs.declared.parsed.Form.{Form}
use Rattle.tl_syntax.specs.declared.parsed.Child.{Child}
use Rattle.tl_syntax.specs.declared.parsed.Place.{Place}
use Rattle.tl_syntax.specs.declared.parsed.Place.TheVariants as P
use Rattle.tl_syntax.specs.declared.parsed.Change.{Change}
use Rattle.tl_syntax.specs.declared.parsed.Change.TheVariants as C
use Rattle.tl_syntax.specs.declared.parsed.Leave.{Leave}
use Rattle.tl_syntax.specs.declared.parsed.Leave.TheVariants as L
use Rattle.tl_syntax.specs.declared.parsed.Write.{Write}
use Rattle.tl_syntax.specs.declared.parsed.Action.{Action}
use Rattle.tl_syntax.specs.declared.parsed.Action.TheVariants as V
use Rattle.tl_syntax.specs.declared.parsed.Question.{Question}
use Rattle.tl_syntax.specs.Grammar as G
use Rattle.tl_syntax.specs.Grammar.{kind_at, offset_at, Stands, IsName, Disjunction, Rule, IsPlain, IsExpression, IsChain}
use Rattle.tl_syntax.specs.Statements as R
use Rattle.tl_syntax.specs.Statements.{word_to, word_with, IsLeave, IsChange, IsArgument, IsChild, IsPlace, AreExpressions, IsWrite, AreMoreWrites, AreGiven, IsCode, IsReason, IsAction, IsQuestion}
use Rattle.tl_syntax.specs.Alike as A
use Rattle.tl_syntax.specs.Alike.{Alike, AlikeForm, AreAlike, AlikeChild, AlikePlace, AlikeWrite, AlikeWrites, AlikeReason, AlikeAction, AlikeQuestion}
use Rattle.tl_syntax.proofs.ListsOnce.{Rest, done, step, append, Compared, within, another_compared, list_end}
use Rattle.tl_syntax.proofs.ExpressionsOnce.{both_kinds, same_end, differ, same_name, binding, CanFollow, once}

pub at : (P : ℕ → Type 0) {j k : ℕ} → j ≡ k → P k → P j
at P e h = subst P (sym e) h

-- ---- what follows an expression

pub ends : {kind x : TokenKind} → x ≡ kind → binding kind ≡ 0 → CanFollow Disjunction x
ends e z = record { binds = omega (arith, ap binding e, z) }

-- the tokens that begin an expression
abbrev pub begins : TokenKind → ℕ
begins K.Not = 1
begins K.Minus = 1
begins K.LeftParenthesis = 1
begins K.Kids = 1
begins (K.Name s) = 1
begins (K.Number n) = 1
begins kind = 0

plain_begins : {tokens : List Token} {i j : ℕ} {form : Form} → IsPlain tokens i j form → begins (kind_at tokens i) ≡ 1
plain_begins (G.number n) = ap begins n.stands.kind_is
plain_begins (G.named n) = ap begins n.stands.kind_is
plain_begins (G.field n s f) = ap begins n.stands.kind_is
plain_begins (G.kids s t n u) = ap begins s.kind_is

mutual
  pub expression_begins : {tokens : List Token} {levels : ℕ} {rule : Rule} {i j : ℕ} {e : Expression} → IsExpression tokens levels rule i j e → begins (kind_at tokens i) ≡ 1
  expression_begins (G.chain c) = chain_begins c
  expression_begins (G.not s h f o) = ap begins s.kind_is
  expression_begins (G.compared a c b x) = expression_begins a
  expression_begins (G.negative s n f o) = ap begins s.kind_is
  expression_begins (G.negated s n h f o) = ap begins s.kind_is
  expression_begins (G.grouped s h t f o) = ap begins s.kind_is
  expression_begins (G.plain p o) = plain_begins p

  chain_begins : {tokens : List Token} {levels spare : ℕ} {rule : Rule} {i j : ℕ} {e : Expression} → IsChain tokens levels spare rule i j e → begins (kind_at tokens i) ≡ 1
  chain_begins (G.one h) = expression_begins h
  chain_begins (G.more c o h x) = chain_begins c

-- ---- small rules

leave_sign : Leave → TokenKind
leave_sign L.Break = K.Break
leave_sign L.Return = K.Return
leave_sign L.Fail = K.Fail

leave_of : TokenKind → Leave
leave_of K.Break = L.Break
leave_of K.Return = L.Return
leave_of kind = L.Fail

leave_of_sign : (l : Leave) → leave_of (leave_sign l) ≡ l
unfolding leave_sign leave_of
leave_of_sign L.Break = refl
leave_of_sign L.Return = refl
leave_of_sign L.Fail = refl

leave_stands : (tokens : List Token) (l : Leave) (i j : ℕ) → IsLeave tokens i j l → Stands tokens (leave_sign l) i j
unfolding leave_sign
leave_stands tokens L.Break i j s = s
leave_stands tokens L.Return i j s = s
leave_stands tokens L.Fail i j s = s

pub same_leave : (tokens : List Token) (l m : Leave) (i j k : ℕ) → IsLeave tokens i j l → IsLeave tokens i k m → (j ≡ k) × (l ≡ m)
same_leave tokens l m i j k x y =
    let s = leave_stands tokens l i j x in
    let t = leave_stands tokens m i k y in
    (same_end s t, sym (leave_of_sign l) ∙ ap leave_of (both_kinds s t) ∙ leave_of_sign m)

change_sign : Change → TokenKind
change_sign C.Set = K.Assign
change_sign C.Add = K.AddAssign
change_sign C.Subtract = K.SubtractAssign

change_of : TokenKind → Change
change_of K.Assign = C.Set
change_of K.AddAssign = C.Add
change_of kind = C.Subtract

change_of_sign : (c : Change) → change_of (change_sign c) ≡ c
unfolding change_sign change_of
change_of_sign C.Set = refl
change_of_sign C.Add = refl
change_of_sign C.Subtract = refl

change_stands : (tokens : List Token) (c : Change) (i j : ℕ) → IsChange tokens i j c → Stands tokens (change_sign c) i j
unfolding change_sign
change_stands tokens C.Set i j s = s
change_stands tokens C.Add i j s = s
change_stands tokens C.Subtract i j s = s

same_change : (tokens : List Token) (c d : Change) (i j k : ℕ) → IsChange tokens i j c → IsChange tokens i k d → (j ≡ k) × (c ≡ d)
same_change tokens c d i j k x y =
    let s = change_stands tokens c i j x in
    let t = change_stands tokens d i k y in
    (same_end s t, sym (change_of_sign c) ∙ ap change_of (both_kinds s t) ∙ change_of_sign d)

abbrev dotted : TokenKind → ℕ
dotted K.Dot = 1
dotted kind = 0

change_no_dot : (tokens : List Token) (c : Change) (i j : ℕ) → IsChange tokens i j c → dotted (kind_at tokens i) ≡ 0
change_no_dot tokens C.Set i j s = ap dotted s.kind_is
change_no_dot tokens C.Add i j s = ap dotted s.kind_is
change_no_dot tokens C.Subtract i j s = ap dotted s.kind_is

abbrev opening : TokenKind → ℕ
opening K.LeftParenthesis = 1
opening kind = 0

change_no_parenthesis : (tokens : List Token) (c : Change) (i j : ℕ) → IsChange tokens i j c → opening (kind_at tokens i) ≡ 0
change_no_parenthesis tokens C.Set i j s = ap opening s.kind_is
change_no_parenthesis tokens C.Add i j s = ap opening s.kind_is
change_no_parenthesis tokens C.Subtract i j s = ap opening s.kind_is

argument_once : {tokens : List Token} {n m i j k : ℕ} {e f : Expression} → IsArgument tokens n i j e → IsArgument tokens m i k f → (j ≡ k) × Alike e f
argument_once {tokens} {m = m} {k = end} (R.argument {j = j} {k = k} s h t) (R.argument {k = k2} {e = f} s2 h2 t2) =
    let h2' : IsExpression tokens m Disjunction j k2 f = at (λ z. IsExpression tokens m Disjunction z k2 f) (same_end s s2) h2 in
    let same = once h (ends t.kind_is refl) m k2 f h2' (ends t2.kind_is refl) in
    let t2' : Stands tokens K.RightParenthesis k end = at (λ z. Stands tokens K.RightParenthesis z end) same.0 t2 in
    (same_end t t2', same.1)

child_once : {tokens : List Token} {n m i j k : ℕ} {c d : Child} → IsChild tokens n i j c → IsChild tokens m i k d → c.name ≡ d.name → (j ≡ k) × AlikeChild c d
child_once {tokens} {m = m} {k = end} {c = c} {d = d} (R.child {j = a1} {k = a2} {l = a3} {m = a4} {n = a5} s1 s2 n1 s3 e s4) (R.child {k = b2} {l = b3} {m = b4} {n = b5} t1 t2 n2 t3 f t4) names =
    let t2' : Stands tokens K.LeftParenthesis a1 b2 = at (λ z. Stands tokens K.LeftParenthesis z b2) (same_end s1 t1) t2 in
    let n2' : IsName tokens a2 b3 d.parent = at (λ z. IsName tokens z b3 d.parent) (same_end s2 t2') n2 in
    let t3' : Stands tokens K.Comma a3 b4 = at (λ z. Stands tokens K.Comma z b4) (same_end n1.stands n2'.stands) t3 in
    let f' : IsExpression tokens m Disjunction a4 b5 d.number = at (λ z. IsExpression tokens m Disjunction z b5 d.number) (same_end s3 t3') f in
    let same = once e (ends s4.kind_is refl) m b5 d.number f' (ends t4.kind_is refl) in
    let t4' : Stands tokens K.RightParenthesis a5 end = at (λ z. Stands tokens K.RightParenthesis z end) same.0 t4 in
    (same_end s4 t4', record { name = names; parent = same_name n1 n2'; number = same.1 })

abbrev pub comma : TokenKind → ℕ
comma K.Comma = 1
comma kind = 0

abbrev pub colon : TokenKind → ℕ
colon K.Colon = 1
colon kind = 0

-- the token is no comma
pub record NoComma (tokens : List Token) (i : ℕ) : Type 0 where
  pub is : comma (kind_at tokens i) ≡ 0

pub some_comma : {A : Type 0} {tokens : List Token} {i j : ℕ} → Stands tokens K.Comma i j → NoComma tokens i → A
some_comma s n = absurd (omega (arith, ap comma s.kind_is, n.is))

abbrev places : TokenKind → ℕ
places K.Node = 1
places K.Child = 2
places kind = 0

child_starts : {tokens : List Token} {n i j : ℕ} {c : Child} → IsChild tokens n i j c → kind_at tokens i ≡ K.Child
child_starts (R.child s1 s2 n1 s3 e s4) = s1.kind_is

place_once : {tokens : List Token} {n m i j k : ℕ} {p q : Place} → IsPlace tokens n i j p → NoComma tokens j → IsPlace tokens m i k q → NoComma tokens k → (j ≡ k) × AlikePlace p q
place_once {tokens} {m = m} {k = end} (R.node {j = a1} {k = a2} {l = a3} {offset = o1} {name = x} {number = e} n1 s1 s2 h o) f (R.node {k = b2} {l = b3} {offset = o2} {name = y} {number = e2} n2 t1 t2 h2 p) g =
    let t1' : Stands tokens K.Assign a1 b2 = at (λ z. Stands tokens K.Assign z b2) (same_end n1.stands n2.stands) t1 in
    let t2' : Stands tokens K.Node a2 b3 = at (λ z. Stands tokens K.Node z b3) (same_end s1 t1') t2 in
    let h2' : IsArgument tokens m a3 end e2 = at (λ z. IsArgument tokens m z end e2) (same_end s2 t2') h2 in
    let same = argument_once h h2' in
    let offsets : o1 ≡ o2 = o ∙ ap (λ z. offset_at tokens z) (same_end s1 t1') ∙ sym p in
    (same.0, subst₂ (λ a b. AlikePlace (P.Node x o1 e) (P.Node a b e2)) (same_name n1 n2) offsets (A.node same.1))
place_once {tokens} (R.node {j = a1} {k = a2} n1 s1 s2 h o) f (R.child {k = b2} {l = b3} {c = c} n2 t1 d) g =
    let t1' : Stands tokens K.Assign a1 b2 = at (λ z. Stands tokens K.Assign z b2) (same_end n1.stands n2.stands) t1 in
    let there : kind_at tokens a2 ≡ K.Child = at (λ z. kind_at tokens z ≡ K.Child) (same_end s1 t1') (child_starts d) in
    differ places s2.kind_is there (omega arith)
place_once {tokens} (R.node {j = a1} {k = a2} n1 s1 s2 h o) f (R.pair {k = b2} n2 t1 d t2 n3 t3 d2) g =
    let t1' : Stands tokens K.Assign a1 b2 = at (λ z. Stands tokens K.Assign z b2) (same_end n1.stands n2.stands) t1 in
    let there : kind_at tokens a2 ≡ K.Child = at (λ z. kind_at tokens z ≡ K.Child) (same_end s1 t1') (child_starts d) in
    differ places s2.kind_is there (omega arith)
place_once {tokens} (R.child {j = a1} {k = a2} n1 s1 c) f (R.node {k = b2} {l = b3} n2 t1 t2 h p) g =
    let t1' : Stands tokens K.Assign a1 b2 = at (λ z. Stands tokens K.Assign z b2) (same_end n1.stands n2.stands) t1 in
    let there : kind_at tokens a2 ≡ K.Node = at (λ z. kind_at tokens z ≡ K.Node) (same_end s1 t1') t2.kind_is in
    differ places there (child_starts c) (omega arith)
place_once {tokens} {m = m} {k = end} (R.child {j = a1} {k = a2} n1 s1 c) f (R.child {k = b2} {c = d} n2 t1 c2) g =
    let t1' : Stands tokens K.Assign a1 b2 = at (λ z. Stands tokens K.Assign z b2) (same_end n1.stands n2.stands) t1 in
    let c2' : IsChild tokens m a2 end d = at (λ z. IsChild tokens m z end d) (same_end s1 t1') c2 in
    let same = child_once c c2' (same_name n1 n2) in
    (same.0, A.child same.1)
place_once {tokens} {m = m} (R.child {j = a1} {k = a2} n1 s1 c) f (R.pair {k = b2} {l = b3} {a = d} n2 t1 c2 t2 n3 t3 c3) g =
    let t1' : Stands tokens K.Assign a1 b2 = at (λ z. Stands tokens K.Assign z b2) (same_end n1.stands n2.stands) t1 in
    let c2' : IsChild tokens m a2 b3 d = at (λ z. IsChild tokens m z b3 d) (same_end s1 t1') c2 in
    let same = child_once c c2' (same_name n1 n2) in
    some_comma t2 (subst (λ z. NoComma tokens z) same.0 f)
place_once {tokens} (R.pair {j = a1} {k = a2} n1 s1 c s2 n3 s3 d) f (R.node {k = b2} {l = b3} n2 t1 t2 h p) g =
    let t1' : Stands tokens K.Assign a1 b2 = at (λ z. Stands tokens K.Assign z b2) (same_end n1.stands n2.stands) t1 in
    let there : kind_at tokens a2 ≡ K.Node = at (λ z. kind_at tokens z ≡ K.Node) (same_end s1 t1') t2.kind_is in
    differ places there (child_starts c) (omega arith)
place_once {tokens} {m = m} {k = end} (R.pair {j = a1} {k = a2} {l = a3} n1 s1 c s2 n3 s3 d) f (R.child {k = b2} {c = c0} n2 t1 c2) g =
    let t1' : Stands tokens K.Assign a1 b2 = at (λ z. Stands tokens K.Assign z b2) (same_end n1.stands n2.stands) t1 in
    let c2' : IsChild tokens m a2 end c0 = at (λ z. IsChild tokens m z end c0) (same_end s1 t1') c2 in
    let same = child_once c c2' (same_name n1 n2) in
    some_comma s2 (at (λ z. NoComma tokens z) same.0 g)
place_once {tokens} {m = m} {k = end} (R.pair {j = a1} {k = a2} {l = a3} {m = a4} {n = a5} {o = a6} {a = x1} {b = x2} n1 s1 c s2 n2 s3 d) f (R.pair {k = b2} {l = b3} {m = b4} {n = b5} {o = b6} {a = y1} {b = y2} m1 t1 c2 t2 m2 t3 d2) g =
    let t1' : Stands tokens K.Assign a1 b2 = at (λ z. Stands tokens K.Assign z b2) (same_end n1.stands m1.stands) t1 in
    let c2' : IsChild tokens m a2 b3 y1 = at (λ z. IsChild tokens m z b3 y1) (same_end s1 t1') c2 in
    let first = child_once c c2' (same_name n1 m1) in
    let t2' : Stands tokens K.Comma a3 b4 = at (λ z. Stands tokens K.Comma z b4) first.0 t2 in
    let m2' : IsName tokens a4 b5 y2.name = at (λ z. IsName tokens z b5 y2.name) (same_end s2 t2') m2 in
    let t3' : Stands tokens K.Assign a5 b6 = at (λ z. Stands tokens K.Assign z b6) (same_end n2.stands m2'.stands) t3 in
    let d2' : IsChild tokens m a6 end y2 = at (λ z. IsChild tokens m z end y2) (same_end s3 t3') d2 in
    let second = child_once d d2' (same_name n2 m2') in
    (second.0, A.pair first.1 second.1)

-- ---- lists of expressions

-- a comma and an expression
record IsItem (tokens : List Token) (i k : ℕ) (e : Expression) : Type 0 where
  levels : ℕ
  middle : ℕ
  stands : Stands tokens K.Comma i middle
  is : IsExpression tokens levels Disjunction middle k e

record Parts (tokens : List Token) (i k : ℕ) (es : List Expression) : Type 0 where
  levels : ℕ
  middle : ℕ
  value : Expression
  first : IsExpression tokens levels Disjunction i middle value
  rest : Rest (IsItem tokens) middle (value ∷ []) k es

parts : {tokens : List Token} {levels i k : ℕ} {es : List Expression} → AreExpressions tokens levels i k es → Parts tokens i k es
parts {levels = n} (R.one {j = j} {e = e} h) = record { levels = n; middle = j; value = e; first = h; rest = done }
parts {levels = n} (R.one_more {k = k} a s h) =
    let p = parts a in
    record { levels = p.levels; middle = p.middle; value = p.value; first = p.first; rest = append p.rest (record { levels = n; middle = k; stands = s; is = h }) }

abbrev pub Follows : List Token → ℕ → Type 0
Follows tokens i = CanFollow Disjunction (kind_at tokens i)

item_begins : (tokens : List Token) (j k : ℕ) (e : Expression) → IsItem tokens j k e → Follows tokens j
item_begins tokens j k e h = ends h.stands.kind_is refl

item_once : (tokens : List Token) (j k : ℕ) (e : Expression) → IsItem tokens j k e → Follows tokens k → (l : ℕ) (f : Expression) → IsItem tokens j l f → Follows tokens l → (k ≡ l) × Alike e f
item_once tokens j k e x a l f y b =
    let is : IsExpression tokens y.levels Disjunction x.middle l f = at (λ z. IsExpression tokens y.levels Disjunction z l f) (same_end x.stands y.stands) y.is in
    once x.is a y.levels l f is b

items_compared : {tokens : List Token} {n i j : ℕ} {es : List Expression} → AreExpressions tokens n i j es → Follows tokens j → (k : ℕ) (fs : List Expression) → Parts tokens i k fs →
    Follows tokens k → Compared (IsItem tokens) AreAlike j es k fs
items_compared {tokens} (R.one h) a k fs p b =
    let same = once h a p.levels p.middle p.value p.first (first_follows p.rest b) in
    within (at (λ z. Rest (IsItem tokens) z (p.value ∷ []) k fs) same.0 p.rest) (A.next A.none same.1)
  where
    first_follows : {j m : ℕ} {xs ys : List Expression} → Rest (IsItem tokens) j xs m ys → Follows tokens m → Follows tokens j
    first_follows done f = f
    first_follows (step {j = j} {k = k} {x = x} h r) f = item_begins tokens j k x h
items_compared {tokens} {n = n} (R.one_more {j = j} {k = m} {l = l} {es = es} {e = e} xs s h) a k fs p b =
    let item : IsItem tokens j l e = record { levels = n; middle = m; stands = s; is = h } in
    another_compared (IsItem tokens) Alike AreAlike (Follows tokens) (item_begins tokens) (λ xs ys x y ps q. A.next ps q) j l k es fs e item (item_once tokens j l e item) a b
    (items_compared xs (ends s.kind_is refl) k fs p b)

expressions_once : {tokens : List Token} {n m i j k : ℕ} {es fs : List Expression} → AreExpressions tokens n i j es → Follows tokens j → NoComma tokens j → AreExpressions tokens m i k fs →
    Follows tokens k → NoComma tokens k → (j ≡ k) × AreAlike es fs
expressions_once {tokens} {j = j} {k = k} {es = es} {fs = fs} h a c g b d =
    list_end j k es fs (items_compared h a k fs (parts g) b) (λ l y q. some_comma q.stands c) (λ l y q. some_comma q.stands d)

expressions_begin : {tokens : List Token} {n i j : ℕ} {es : List Expression} → AreExpressions tokens n i j es → begins (kind_at tokens i) ≡ 1
expressions_begin (R.one h) = expression_begins h
expressions_begin (R.one_more a s h) = expressions_begin a

pub closes : {tokens : List Token} {i j : ℕ} → Stands tokens K.RightParenthesis i j → NoComma tokens i
closes s = record { is = ap comma s.kind_is }

given_once : {tokens : List Token} {n m i j k : ℕ} {es fs : List Expression} → AreGiven tokens n i j es → AreGiven tokens m i k fs → (j ≡ k) × AreAlike es fs
given_once (R.none_given s) (R.none_given t) = (same_end s t, A.none)
given_once (R.none_given s) (R.some_given a t) = absurd (omega (arith, expressions_begin a, ap begins s.kind_is))
given_once (R.some_given a s) (R.none_given t) = absurd (omega (arith, expressions_begin a, ap begins t.kind_is))
given_once {tokens} {k = end} (R.some_given {j = a1} a s) (R.some_given b t) =
    let same = expressions_once a (ends s.kind_is refl) (closes s) b (ends t.kind_is refl) (closes t) in
    let t' : Stands tokens K.RightParenthesis a1 end = at (λ z. Stands tokens K.RightParenthesis z end) same.0 t in
    (same_end s t', same.1)

-- ---- writes

write_once : {tokens : List Token} {n m i j k : ℕ} {v w : Write} → IsWrite tokens n i j v → Follows tokens j → IsWrite tokens m i k w → Follows tokens k → (j ≡ k) × AlikeWrite v w
write_once {tokens} {m = m} {k = end} {v = v} {w = w} (R.write {j = a1} {k = a2} {l = a3} {m = a4} n s q t h) f (R.write {k = b2} {l = b3} {m = b4} n2 s2 q2 t2 h2) g =
    let s2' : Stands tokens K.Dot a1 b2 = at (λ z. Stands tokens K.Dot z b2) (same_end n.stands n2.stands) s2 in
    let q2' : IsName tokens a2 b3 w.field = at (λ z. IsName tokens z b3 w.field) (same_end s s2') q2 in
    let t2' : IsChange tokens a3 b4 w.change = at (λ z. IsChange tokens z b4 w.change) (same_end q.stands q2'.stands) t2 in
    let change = same_change tokens v.change w.change a3 a4 b4 t t2' in
    let h2' : IsExpression tokens m Disjunction a4 end w.value = at (λ z. IsExpression tokens m Disjunction z end w.value) change.0 h2 in
    let same = once h f m end w.value h2' g in
    (same.0, record { node = same_name n n2; field = same_name q q2'; change = change.1; value = same.1 })

-- a comma and a write
record IsNextWrite (tokens : List Token) (i k : ℕ) (w : Write) : Type 0 where
  levels : ℕ
  middle : ℕ
  stands : Stands tokens K.Comma i middle
  is : IsWrite tokens levels middle k w

next_begins : (tokens : List Token) (j k : ℕ) (w : Write) → IsNextWrite tokens j k w → Follows tokens j
next_begins tokens j k w h = ends h.stands.kind_is refl

next_once : (tokens : List Token) (j k : ℕ) (v : Write) → IsNextWrite tokens j k v → Follows tokens k → (l : ℕ) (w : Write) → IsNextWrite tokens j l w → Follows tokens l → (k ≡ l) × AlikeWrite v w
next_once tokens j k v x a l w y b =
    let is : IsWrite tokens y.levels x.middle l w = at (λ z. IsWrite tokens y.levels z l w) (same_end x.stands y.stands) y.is in
    write_once x.is a is b

push_write : {vs ws : List Write} {v w : Write} → AlikeWrites vs ws → AlikeWrite v w → AlikeWrites (vs ++ v ∷ []) (ws ++ w ∷ [])
push_write A.no_writes x = A.more_writes x A.no_writes
push_write (A.more_writes y h) x = A.more_writes y (push_write h x)

writes_follow : {tokens : List Token} {n i j : ℕ} {ws : List Write} → AreMoreWrites tokens n i j ws → Follows tokens j → Follows tokens i
writes_follow R.no_more_writes f = f
writes_follow (R.next_write a s h) f = writes_follow a (ends s.kind_is refl)

writes_read : {tokens : List Token} {n i k : ℕ} {ws : List Write} → AreMoreWrites tokens n i k ws → Rest (IsNextWrite tokens) i [] k ws
writes_read R.no_more_writes = done
writes_read {n = n} (R.next_write {k = k} a s h) = append (writes_read a) (record { levels = n; middle = k; stands = s; is = h })

writes_compared : {tokens : List Token} {n i j : ℕ} {vs : List Write} → AreMoreWrites tokens n i j vs → Follows tokens j → (k : ℕ) (ws : List Write) → Rest (IsNextWrite tokens) i [] k ws →
    Follows tokens k → Compared (IsNextWrite tokens) AlikeWrites j vs k ws
writes_compared R.no_more_writes a k ws p b = within p A.no_writes
writes_compared {tokens} {n = n} (R.next_write {j = j} {k = m} {l = l} {ws = vs} {w = v} xs s h) a k ws p b =
    let item : IsNextWrite tokens j l v = record { levels = n; middle = m; stands = s; is = h } in
    another_compared (IsNextWrite tokens) AlikeWrite AlikeWrites (Follows tokens) (next_begins tokens) (λ xs ys x y ps q. push_write ps q) j l k vs ws v item (next_once tokens j l v item) a b
    (writes_compared xs (ends s.kind_is refl) k ws p b)

writes_once : {tokens : List Token} {n m i j k : ℕ} {vs ws : List Write} → AreMoreWrites tokens n i j vs → Follows tokens j → NoComma tokens j → AreMoreWrites tokens m i k ws →
    Follows tokens k → NoComma tokens k → (j ≡ k) × AlikeWrites vs ws
writes_once {tokens} {j = j} {k = k} {vs = vs} {ws = ws} h a c g b d =
    list_end j k vs ws (writes_compared h a k ws (writes_read g) b) (λ l y q. some_comma q.stands c) (λ l y q. some_comma q.stands d)

-- ---- actions

-- the token ends an action
pub record Ends (tokens : List Token) (i : ℕ) : Type 0 where
  pub follows : Follows tokens i
  pub no_comma : NoComma tokens i
  pub no_colon : colon (kind_at tokens i) ≡ 0
  pub no_more : begins (kind_at tokens i) ≡ 0

pub ends_here : {tokens : List Token} {i : ℕ} {kind : TokenKind} → kind_at tokens i ≡ kind → binding kind ≡ 0 → comma kind ≡ 0 → colon kind ≡ 0 → begins kind ≡ 0 → Ends tokens i
ends_here e z c d b = record { follows = ends e z; no_comma = record { is = ap comma e ∙ c }; no_colon = ap colon e ∙ d; no_more = ap begins e ∙ b }

-- ---- codes

code_once : {tokens : List Token} {n m i j k : ℕ} {e f : Expression} → IsCode tokens n i j e → Follows tokens j → IsCode tokens m i k f → Follows tokens k → (j ≡ k) × Alike e f
code_once {m = m} {k = end} (R.code h x) a (R.code {e = e2} h2 y) b = once h a m end e2 h2 b

-- no code stands where an action ends
no_code : {A : Type 0} {tokens : List Token} {n j k l : ℕ} {e : Expression} → IsCode tokens n j k e → l ≡ j → Ends tokens l → A
no_code {tokens = tokens} (R.code h x) same f = absurd (omega (arith, expression_begins h, at (λ z. begins (kind_at tokens z) ≡ 0) (sym same) f.no_more))

-- nor the word `with`
no_with : {A : Type 0} {tokens : List Token} {j k l : ℕ} → Stands tokens word_with j k → l ≡ j → Ends tokens l → A
no_with {tokens = tokens} s same f = absurd (omega (arith, ap begins s.kind_is, at (λ z. begins (kind_at tokens z) ≡ 0) (sym same) f.no_more))

reason_follows : {tokens : List Token} {n i j : ℕ} {why : Option Expression} → IsReason tokens n i j why → Follows tokens j → Follows tokens i
reason_follows R.no_reason f = f
reason_follows (R.reason s c) f = ends s.kind_is refl

some_colon : {A : Type 0} {tokens : List Token} {i j : ℕ} → Stands tokens K.Colon i j → Ends tokens i → A
some_colon s f = absurd (omega (arith, ap colon s.kind_is, f.no_colon))

reason_once : {tokens : List Token} {n m i j k : ℕ} {x y : Option Expression} → IsReason tokens n i j x → Ends tokens j → IsReason tokens m i k y → Ends tokens k → (j ≡ k) × AlikeReason x y
reason_once R.no_reason f R.no_reason g = (refl, A.no_reason)
reason_once R.no_reason f (R.reason s c) g = some_colon s f
reason_once (R.reason s c) f R.no_reason g = some_colon s g
reason_once {tokens} {m = m} {k = end} (R.reason {j = a1} s c) f (R.reason {e = e2} t d) g =
    let d' : IsCode tokens m a1 end e2 = at (λ z. IsCode tokens m z end e2) (same_end s t) d in
    let same = code_once c f.follows d' g.follows in
    (same.0, A.reason same.1)

-- `break` or another token
abbrev breaking : TokenKind → ℕ
breaking K.Break = 1
breaking kind = 0

-- the tokens that begin an action
abbrev pub heading : TokenKind → ℕ
heading K.Let = 1
heading (K.Name s) = 2
heading K.Emit = 3
heading K.Require = 4
heading K.Lock = 5
heading K.Descend = 6
heading K.Free = 7
heading K.Break = 8
heading K.Return = 8
heading K.Fail = 8
heading kind = 0

abbrev pub head : Action → ℕ
head (V.Let n e) = 1
head (V.Assign n c e) = 2
head (V.Write w others) = 2
head (V.Emit es) = 3
head (V.Require e why) = 4
head (V.Lock p) = 5
head (V.Descend n e) = 6
head (V.Take n m) = 6
head (V.Free n) = 7
head (V.Leave l) = 8
head (V.Fail e) = 8
head (V.BreakWith es) = 8
head (V.Use n es) = 2

leave_heading : (tokens : List Token) (l : Leave) (i j : ℕ) → IsLeave tokens i j l → heading (kind_at tokens i) ≡ 8
leave_heading tokens L.Break i j s = ap heading s.kind_is
leave_heading tokens L.Return i j s = ap heading s.kind_is
leave_heading tokens L.Fail i j s = ap heading s.kind_is

pub action_is : {tokens : List Token} {n i j : ℕ} {a : Action} → IsAction tokens n i j a → heading (kind_at tokens i) ≡ head a
action_is (R.lets s n t e) = ap heading s.kind_is
action_is (R.assigns n c e) = ap heading n.stands.kind_is
action_is (R.writes (R.write n d f c e) others) = ap heading n.stands.kind_is
action_is (R.emits s es) = ap heading s.kind_is
action_is (R.requires s e r) = ap heading s.kind_is
action_is (R.locks s p) = ap heading s.kind_is
action_is (R.descends s n t c a) = ap heading s.kind_is
action_is (R.takes s n t m) = ap heading s.kind_is
action_is (R.frees s n) = ap heading s.kind_is
action_is {tokens} (R.leaves {i = i} {j = j} {l = l} x) = leave_heading tokens l i j x
action_is (R.fails_with s c) = ap heading s.kind_is
action_is (R.breaks_with s w es) = ap heading s.kind_is
action_is (R.uses n w v s g) = ap heading n.stands.kind_is

pub action_once : {tokens : List Token} {n m i j k : ℕ} {a b : Action} → IsAction tokens n i j a → Ends tokens j → IsAction tokens m i k b → Ends tokens k → (j ≡ k) × AlikeAction a b
action_once {tokens} {m = m} {k = end} (R.lets {j = a1} {k = a2} {l = a3} {n = x} {e = e} s n t h) f (R.lets {k = b2} {l = b3} {n = y} {e = e2} s2 n2 t2 h2) g =
    let n2' : IsName tokens a1 b2 y = at (λ z. IsName tokens z b2 y) (same_end s s2) n2 in
    let t2' : Stands tokens K.Assign a2 b3 = at (λ z. Stands tokens K.Assign z b3) (same_end n.stands n2'.stands) t2 in
    let h2' : IsExpression tokens m Disjunction a3 end e2 = at (λ z. IsExpression tokens m Disjunction z end e2) (same_end t t2') h2 in
    let same = once h f.follows m end e2 h2' g.follows in
    (same.0, subst (λ z. AlikeAction (V.Let x e) (V.Let z e2)) (same_name n n2') (A.lets same.1))
action_once {tokens} {m = m} {k = end} (R.assigns {j = a1} {k = a2} {n = x} {c = c} {e = e} n s h) f (R.assigns {k = b2} {n = y} {c = d} {e = e2} n2 s2 h2) g =
    let s2' : IsChange tokens a1 b2 d = at (λ z. IsChange tokens z b2 d) (same_end n.stands n2.stands) s2 in
    let change = same_change tokens c d a1 a2 b2 s s2' in
    let h2' : IsExpression tokens m Disjunction a2 end e2 = at (λ z. IsExpression tokens m Disjunction z end e2) change.0 h2 in
    let same = once h f.follows m end e2 h2' g.follows in
    (same.0, subst₂ (λ z w. AlikeAction (V.Assign x c e) (V.Assign z w e2)) (same_name n n2) change.1 (A.assigns same.1))
action_once {tokens} (R.assigns {j = a1} {k = a2} {c = c} n s h) f (R.writes (R.write {k = b2} n2 d fd s2 h2) others) g =
    let d' : Stands tokens K.Dot a1 b2 = at (λ z. Stands tokens K.Dot z b2) (same_end n.stands n2.stands) d in
    absurd (omega (arith, change_no_dot tokens c a1 a2 s, ap dotted d'.kind_is))
action_once {tokens} (R.writes (R.write {j = a1} {k = a2} n d fd s h) others) f (R.assigns {j = b1} {k = b2} {c = c} n2 s2 h2) g =
    let d' : Stands tokens K.Dot b1 a2 = at (λ z. Stands tokens K.Dot z a2) (same_end n2.stands n.stands) d in
    absurd (omega (arith, change_no_dot tokens c b1 b2 s2, ap dotted d'.kind_is))
action_once {tokens} {m = m} {k = end} (R.writes {j = a1} w others) f (R.writes {others = ws} w2 others2) g =
    let first = write_once w (writes_follow others f.follows) w2 (writes_follow others2 g.follows) in
    let others2' : AreMoreWrites tokens m a1 end ws.items = at (λ z. AreMoreWrites tokens m z end ws.items) first.0 others2 in
    let more = writes_once others f.follows f.no_comma others2' g.follows g.no_comma in
    (more.0, A.writes first.1 more.1)
action_once {tokens} {m = m} {k = end} (R.emits {j = a1} s h) f (R.emits {es = fs} s2 h2) g =
    let h2' : AreExpressions tokens m a1 end fs.items = at (λ z. AreExpressions tokens m z end fs.items) (same_end s s2) h2 in
    let same = expressions_once h f.follows f.no_comma h2' g.follows g.no_comma in
    (same.0, A.emits same.1)
action_once {tokens} {m = m} {k = end} (R.requires {j = a1} {k = a2} s h r) f (R.requires {k = b2} {e = e2} {why = why2} s2 h2 r2) g =
    let h2' : IsExpression tokens m Disjunction a1 b2 e2 = at (λ z. IsExpression tokens m Disjunction z b2 e2) (same_end s s2) h2 in
    let same = once h (reason_follows r f.follows) m b2 e2 h2' (reason_follows r2 g.follows) in
    let r2' : IsReason tokens m a2 end why2 = at (λ z. IsReason tokens m z end why2) same.0 r2 in
    let why = reason_once r f r2' g in
    (why.0, A.requires same.1 why.1)
action_once {tokens} {m = m} {k = end} (R.locks {j = a1} s h) f (R.locks {p = q} s2 h2) g =
    let h2' : IsPlace tokens m a1 end q = at (λ z. IsPlace tokens m z end q) (same_end s s2) h2 in
    let same = place_once h f.no_comma h2' g.no_comma in
    (same.0, A.locks same.1)
action_once {tokens} {m = m} {k = end} (R.descends {j = a1} {k = a2} {l = a3} {m = a4} {n = x} {e = e} s n t c h) f (R.descends {k = b2} {l = b3} {m = b4} {n = y} {e = e2} s2 n2 t2 c2 h2) g =
    let n2' : IsName tokens a1 b2 y = at (λ z. IsName tokens z b2 y) (same_end s s2) n2 in
    let t2' : Stands tokens word_to a2 b3 = at (λ z. Stands tokens word_to z b3) (same_end n.stands n2'.stands) t2 in
    let c2' : Stands tokens K.Child a3 b4 = at (λ z. Stands tokens K.Child z b4) (same_end t t2') c2 in
    let h2' : IsArgument tokens m a4 end e2 = at (λ z. IsArgument tokens m z end e2) (same_end c c2') h2 in
    let same = argument_once h h2' in
    (same.0, subst (λ z. AlikeAction (V.Descend x e) (V.Descend z e2)) (same_name n n2') (A.descends same.1))
action_once {tokens} {k = end} (R.descends {j = a1} {k = a2} {l = a3} s n t c h) f (R.takes {k = b2} {l = b3} {n = y} {from = y2} s2 n2 t2 m2) g =
    let n2' : IsName tokens a1 b2 y = at (λ z. IsName tokens z b2 y) (same_end s s2) n2 in
    let t2' : Stands tokens word_to a2 b3 = at (λ z. Stands tokens word_to z b3) (same_end n.stands n2'.stands) t2 in
    let m2' : IsName tokens a3 end y2 = at (λ z. IsName tokens z end y2) (same_end t t2') m2 in
    differ places m2'.stands.kind_is c.kind_is (omega arith)
action_once {tokens} (R.takes {j = a1} {k = a2} {l = a3} s n t x) f (R.descends {k = b2} {l = b3} {m = b4} {n = y} s2 n2 t2 c2 h2) g =
    let n2' : IsName tokens a1 b2 y = at (λ z. IsName tokens z b2 y) (same_end s s2) n2 in
    let t2' : Stands tokens word_to a2 b3 = at (λ z. Stands tokens word_to z b3) (same_end n.stands n2'.stands) t2 in
    let c2' : Stands tokens K.Child a3 b4 = at (λ z. Stands tokens K.Child z b4) (same_end t t2') c2 in
    differ places x.stands.kind_is c2'.kind_is (omega arith)
action_once {tokens} {k = end} (R.takes {j = a1} {k = a2} {l = a3} {n = x} {from = xf} s n t q) f (R.takes {k = b2} {l = b3} {n = y} {from = yf} s2 n2 t2 q2) g =
    let n2' : IsName tokens a1 b2 y = at (λ z. IsName tokens z b2 y) (same_end s s2) n2 in
    let t2' : Stands tokens word_to a2 b3 = at (λ z. Stands tokens word_to z b3) (same_end n.stands n2'.stands) t2 in
    let q2' : IsName tokens a3 end yf = at (λ z. IsName tokens z end yf) (same_end t t2') q2 in
    (same_end q.stands q2'.stands, subst₂ (λ z w. AlikeAction (V.Take x xf) (V.Take z w)) (same_name n n2') (same_name q q2') A.same_action)
action_once {tokens} {k = end} (R.frees {j = a1} {n = x} s n) f (R.frees {n = y} s2 n2) g =
    let n2' : IsName tokens a1 end y = at (λ z. IsName tokens z end y) (same_end s s2) n2 in
    (same_end n.stands n2'.stands, subst (λ z. AlikeAction (V.Free x) (V.Free z)) (same_name n n2') A.same_action)
action_once {tokens} {i = i} {j = j} {k = end} (R.leaves {l = l} x) f (R.leaves {l = r} y) g =
    let same = same_leave tokens l r i j end x y in
    (same.0, subst (λ z. AlikeAction (V.Leave l) (V.Leave z)) same.1 A.same_action)
action_once {tokens} {m = m} {k = end} (R.fails_with {j = a1} s c) f (R.fails_with {e = e2} s2 c2) g =
    let c2' : IsCode tokens m a1 end e2 = at (λ z. IsCode tokens m z end e2) (same_end s s2) c2 in
    let same = code_once c f.follows c2' g.follows in
    (same.0, A.fails_with same.1)
action_once {tokens} {i = i} {k = end} (R.fails_with s c) f (R.leaves {l = l} y) g = no_code c (same_end (leave_stands tokens l i end y) s) g
action_once {tokens} {i = i} {j = j} (R.leaves {l = l} x) f (R.fails_with s c) g = no_code c (same_end (leave_stands tokens l i j x) s) f
action_once {tokens} {m = m} {k = end} (R.breaks_with {j = a1} {k = a2} s w h) f (R.breaks_with {k = b2} {es = fs} s2 w2 h2) g =
    let w2' : Stands tokens word_with a1 b2 = at (λ z. Stands tokens word_with z b2) (same_end s s2) w2 in
    let h2' : AreExpressions tokens m a2 end fs.items = at (λ z. AreExpressions tokens m z end fs.items) (same_end w w2') h2 in
    let same = expressions_once h f.follows f.no_comma h2' g.follows g.no_comma in
    (same.0, A.breaks_with same.1)
action_once {tokens} {i = i} {k = end} (R.breaks_with s w h) f (R.leaves {l = l} y) g = no_with w (same_end (leave_stands tokens l i end y) s) g
action_once {tokens} {i = i} {j = j} (R.leaves {l = l} x) f (R.breaks_with s w h) g = no_with w (same_end (leave_stands tokens l i j x) s) f
action_once (R.breaks_with s w h) f (R.fails_with t c) g = differ breaking t.kind_is s.kind_is (omega arith)
action_once (R.fails_with t c) f (R.breaks_with s w h) g = differ breaking t.kind_is s.kind_is (omega arith)
action_once {tokens} {m = m} {k = end} (R.uses {j = a1} {k = a2} {n = x} {es = es} n w v s h) f (R.uses {k = b2} {n = y} {es = fs} n2 w2 v2 s2 h2) g =
    let s2' : Stands tokens K.LeftParenthesis a1 b2 = at (λ z. Stands tokens K.LeftParenthesis z b2) (same_end n.stands n2.stands) s2 in
    let h2' : AreGiven tokens m a2 end fs.items = at (λ z. AreGiven tokens m z end fs.items) (same_end s s2') h2 in
    let same = given_once h h2' in
    (same.0, subst (λ z. AlikeAction (V.Use x es) (V.Use z fs)) (same_name n n2) (A.uses same.1))
action_once {tokens} (R.uses n w v s h) f (R.assigns {j = b1} {k = b2} {c = c} n2 s2 h2) g =
    absurd (omega (arith, change_no_parenthesis tokens c b1 b2 s2, at (λ z. opening (kind_at tokens z) ≡ 1) (same_end n2.stands n.stands) (ap opening s.kind_is)))
action_once {tokens} (R.assigns {j = a1} {k = a2} {c = c} n s h) f (R.uses n2 w2 v2 s2 h2) g =
    absurd (omega (arith, change_no_parenthesis tokens c a1 a2 s, at (λ z. opening (kind_at tokens z) ≡ 1) (same_end n.stands n2.stands) (ap opening s2.kind_is)))
action_once {tokens} (R.uses n w v s h) f (R.writes (R.write n2 d fd s2 h2) others) g =
    absurd (omega (arith, ap opening d.kind_is, at (λ z. opening (kind_at tokens z) ≡ 1) (same_end n2.stands n.stands) (ap opening s.kind_is)))
action_once {tokens} (R.writes (R.write n d fd s h) others) f (R.uses n2 w2 v2 s2 h2) g =
    absurd (omega (arith, ap opening d.kind_is, at (λ z. opening (kind_at tokens z) ≡ 1) (same_end n.stands n2.stands) (ap opening s2.kind_is)))
action_once x f y g = absurd (omega (arith, action_is x, action_is y))

-- ---- questions and counts

pub question_once : {tokens : List Token} {n m i j k : ℕ} {q r : Question} → IsQuestion tokens n i j q → Ends tokens j → IsQuestion tokens m i k r → Ends tokens k → (j ≡ k) × AlikeQuestion q r
question_once {m = m} {k = end} (R.condition h) f (R.condition {e = e2} h2) g = let same = once h f.follows m end e2 h2 g.follows in (same.0, A.condition same.1)
question_once (R.condition h) f (R.lock s p) g = absurd (omega (arith, expression_begins h, ap begins s.kind_is))
question_once (R.lock s p) f (R.condition h) g = absurd (omega (arith, expression_begins h, ap begins s.kind_is))
question_once {tokens} {m = m} {k = end} (R.lock {j = a1} s p) f (R.lock {p = q} s2 p2) g =
    let p2' : IsPlace tokens m a1 end q = at (λ z. IsPlace tokens m z end q) (same_end s s2) p2 in
    let same = place_once p f.no_comma p2' g.no_comma in
    (same.0, A.lock same.1)
