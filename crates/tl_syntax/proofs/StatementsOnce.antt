-- Tokens denote only one statement.
use Rattle.std.proofs.Common.{◌≡◌, ◌≢◌, ℕ, ◌<◌, ◌≤◌, List, [], Option, Some, refl, sym, ap, subst, ◌∙◌, arith}
use Rattle.std.proofs.Math.Path.{subst₂}
use Rattle.std.specs.declared.vec.Vec.{Vec}
use Rattle.std.specs.declared.alloc.Global.{Global}
use Rattle.tl_syntax.specs.declared.token.Token.{Token}
use Rattle.tl_syntax.specs.declared.token.TokenKind.{TokenKind}
use Rattle.tl_syntax.specs.declared.token.TokenKind.TheVariants as K
use Rattle.tl_syntax.specs.Codes.{code_of}
use Rattle.tl_syntax.specs.declared.failure.Failure.{Failure}
use Rattle.tl_syntax.specs.declared.parsed.Form.TheVariants as F
use Rattle.tl_syntax.specs.declared.parsed.Name.{Name}
use Rattle.tl_syntax.specs.declared.parsed.Expression.{Expression}
use Rattle.tl_syntax.specs.declared.parsed.Change.{Change}
use Rattle.tl_syntax.specs.declared.parsed.Change.TheVariants as C
use Rattle.tl_syntax.specs.declared.parsed.Leave.{Leave}
use Rattle.tl_syntax.specs.declared.parsed.Leave.TheVariants as L
use Rattle.tl_syntax.specs.declared.parsed.Action.{Action}
use Rattle.tl_syntax.specs.declared.parsed.Otherwise.{Otherwise, out-Otherwise}
use Rattle.tl_syntax.specs.declared.parsed.Statement.{Statement}
use Rattle.tl_syntax.specs.declared.parsed.StatementForm.{StatementForm}
use Rattle.tl_syntax.specs.declared.parsed.StatementForm.TheVariants as S
use Rattle.tl_syntax.specs.Grammar.{kind_at, offset_at, Stands, IsName, Disjunction, IsExpression}
use Rattle.tl_syntax.specs.Statements as R
use Rattle.tl_syntax.specs.Statements.{word_at, word_most, word_each, word_of, word_while, word_found, IsLeave, IsChange, IsAction, IsQuestion, IsOptionalName, AreFoundNames, BeginsFound, IsNotFound, IsLeaving, IsTold, IsElsed, failure_of, IsBlock, AreStatements, IsStatement, IsForm, IsLoop, IsOnly, AreTwo, IsBoundedLoop, RequiresNot, IsWhile, IsLooped, MayEnd, IsOther, IsOtherwise}
use Rattle.tl_syntax.specs.Alike as A
use Rattle.tl_syntax.specs.Alike.{Alike, AlikeForm, AlikeAction, AlikeStatements, AlikeStatement, AlikeStatementForm, AlikeOtherwise}
use Rattle.tl_syntax.proofs.ListsOnce.{Rest, done, append, Compared, within, another_compared, list_end}
use Rattle.tl_syntax.proofs.ExpressionsOnce.{same_end, differ, same_name, once}
use Rattle.tl_syntax.proofs.ActionsOnce.{at, ends, begins, expression_begins, closes, ends_here, heading, action_is, action_once, question_once}
use Rattle.tl_syntax.proofs.NameListsOnce.{names_once}

leaving_once : {tokens : List Token} {n m i j k : ℕ} {ss ts : List Statement} → IsLeaving tokens n i j ss → IsLeaving tokens m i k ts → (j ≡ k) × AlikeStatements ss ts
leaving_once {tokens} {k = end} (R.leaving {j = a1} x l s form o) (R.leaving y r t form2 o2) =
    let same = action_once x (ends_here s.kind_is refl refl refl refl) y (ends_here t.kind_is refl refl refl refl) in
    let t' : Stands tokens K.Semicolon a1 end = at (λ z. Stands tokens K.Semicolon z end) same.0 t in
    (same_end s t', A.next_statement A.no_statements (A.statement (o ∙ sym o2) (subst₂ AlikeStatementForm (sym form) (sym form2) (A.act same.1))))

-- the tokens that begin a statement: 1 for an action, higher numbers for other forms
abbrev starting : TokenKind → ℕ
starting K.Let = 1
starting (K.Name s) = 1
starting K.Emit = 1
starting K.Require = 1
starting K.Lock = 1
starting K.Descend = 1
starting K.Free = 1
starting K.Break = 1
starting K.Return = 1
starting K.Fail = 1
starting K.Try = 2
starting K.If = 3
starting K.Repeat = 4
starting K.For = 4
starting K.LeftBrace = 5
starting kind = 0

abbrev form_rank : {tokens : List Token} {n i j : ℕ} {f : StatementForm} → IsForm tokens n i j f → ℕ
form_rank (R.act a s) = 1
form_rank (R.act_else a e o d) = 1
form_rank (R.try body other s b t n c) = 2
form_rank (R.if body other s q b e) = 3
form_rank (R.if_else body other s q b t c) = 3
form_rank (R.loop x b) = 4
form_rank (R.search turns found other names x o s n b e) = 4
form_rank (R.block_alone body b) = 5
form_rank (R.while body all s h b c) = 1

leave_starting : (tokens : List Token) (l : Leave) (i j : ℕ) → IsLeave tokens i j l → starting (kind_at tokens i) ≡ 1
leave_starting tokens L.Break i j s = ap starting s.kind_is
leave_starting tokens L.Return i j s = ap starting s.kind_is
leave_starting tokens L.Fail i j s = ap starting s.kind_is

action_starting : {tokens : List Token} {n i j : ℕ} {a : Action} → IsAction tokens n i j a → starting (kind_at tokens i) ≡ 1
action_starting (R.lets s n t e) = ap starting s.kind_is
action_starting (R.assigns n c e) = ap starting n.stands.kind_is
action_starting (R.writes (R.write n d f c e) others) = ap starting n.stands.kind_is
action_starting (R.emits s es) = ap starting s.kind_is
action_starting (R.requires s e r) = ap starting s.kind_is
action_starting (R.locks s p) = ap starting s.kind_is
action_starting (R.descends s n t c a) = ap starting s.kind_is
action_starting (R.takes s n t m) = ap starting s.kind_is
action_starting (R.frees s n) = ap starting s.kind_is
action_starting {tokens} (R.leaves {i = i} {j = j} {l = l} x) = leave_starting tokens l i j x
action_starting (R.fails_with s c) = ap starting s.kind_is
action_starting (R.breaks_with s w es) = ap starting s.kind_is
action_starting (R.uses n w v s g) = ap starting n.stands.kind_is

pub block_starts : {tokens : List Token} {n i j : ℕ} {ss : List Statement} → IsBlock tokens n i j ss → kind_at tokens i ≡ K.LeftBrace
block_starts (R.block s a t) = s.kind_is

loop_is : {tokens : List Token} {n i j : ℕ} {f : StatementForm} → IsLoop tokens n i j f → starting (kind_at tokens i) ≡ 4
loop_is (R.repeat body s e b) = ap starting s.kind_is
loop_is (R.repeat_at_most body s e a m c b) = ap starting s.kind_is
loop_is (R.for_each body s t c n x u p v w m b) = ap starting s.kind_is

form_is : {tokens : List Token} {n i j : ℕ} {f : StatementForm} (x : IsForm tokens n i j f) → starting (kind_at tokens i) ≡ form_rank x
form_is (R.act a s) = action_starting a
form_is (R.act_else a e o d) = action_starting a
form_is (R.try body other s b t n c) = ap starting s.kind_is
form_is (R.if body other s q b e) = ap starting s.kind_is
form_is (R.if_else body other s q b t c) = ap starting s.kind_is
form_is (R.loop x b) = loop_is x
form_is (R.search turns found other names x o s n b e) = loop_is x
form_is (R.block_alone body b) = ap starting (block_starts b)
form_is (R.while body all s h b c) = ap starting s.kind_is

some_rank : {tokens : List Token} {n i j : ℕ} {f : StatementForm} (x : IsForm tokens n i j f) → 1 ≤ form_rank x
some_rank (R.act a s) = omega arith
some_rank (R.act_else a e o d) = omega arith
some_rank (R.try body other s b t n c) = omega arith
some_rank (R.if body other s q b e) = omega arith
some_rank (R.if_else body other s q b t c) = omega arith
some_rank (R.loop x b) = omega arith
some_rank (R.search turns found other names x o s n b e) = omega arith
some_rank (R.block_alone body b) = omega arith
some_rank (R.while body all s h b c) = omega arith

statement_starts : {tokens : List Token} {n i j : ℕ} {s : Statement} → IsStatement tokens n i j s → 1 ≤ starting (kind_at tokens i)
statement_starts (R.statement x o) = omega (arith, form_is x, some_rank x)

-- the token is no `else`
pub record NoElse (tokens : List Token) (i : ℕ) : Type 0 where
  pub is : kind_at tokens i ≢ K.Else

pub no_else : {tokens : List Token} {i : ℕ} {kind : TokenKind} (f : TokenKind → ℕ) → kind_at tokens i ≡ kind → f K.Else < f kind → NoElse tokens i
no_else f e less = record { is = λ g. differ f g e less }

pub some_else : {A : Type 0} {tokens : List Token} {i j : ℕ} → Stands tokens K.Else i j → NoElse tokens i → A
some_else s n = absurd (n.is s.kind_is)

record StatementItem (tokens : List Token) (i k : ℕ) (s : Statement) : Type 0 where
  levels : ℕ
  is : IsStatement tokens levels i k s

item_no_else : (tokens : List Token) (j k : ℕ) (s : Statement) → StatementItem tokens j k s → NoElse tokens j
item_no_else tokens j k s h = record { is = λ e. omega (arith, statement_starts h.is, ap starting e) }

no_item : {tokens : List Token} {i j : ℕ} → Stands tokens K.RightBrace i j → (k : ℕ) (s : Statement) → StatementItem tokens i k s → ⊥
no_item e k s h = omega (arith, statement_starts h.is, ap starting e.kind_is)

-- no action begins as a `while` does
change_begins : (tokens : List Token) (c : Change) (i j : ℕ) → IsChange tokens i j c → begins (kind_at tokens i) ≡ 0
change_begins tokens C.Set i j s = ap begins s.kind_is
change_begins tokens C.Add i j s = ap begins s.kind_is
change_begins tokens C.Subtract i j s = ap begins s.kind_is

no_while : {A : Type 0} {tokens : List Token} {n m i j k l : ℕ} {a : Action} {e : Expression} → IsAction tokens n i j a → Stands tokens word_while i k →
    IsExpression tokens m Disjunction k l e → A
no_while {tokens = tokens} (R.assigns {j = a1} {k = a2} {c = c} n s h) t e =
    absurd (omega (arith, change_begins tokens c a1 a2 s, at (λ z. begins (kind_at tokens z) ≡ 1) (same_end n.stands t) (expression_begins e)))
no_while {tokens = tokens} (R.writes (R.write n d f c e) others) t h =
    absurd (omega (arith, ap begins d.kind_is, at (λ z. begins (kind_at tokens z) ≡ 1) (same_end n.stands t) (expression_begins h)))
no_while (R.uses n w v s g) t e = absurd (w (sym n.stands.kind_is ∙ t.kind_is))
no_while x t e = absurd (omega (arith, action_is x, ap heading t.kind_is))

only_alike : {offset : ℕ} {f g : StatementForm} {ss ts : List Statement} → IsOnly offset f ss → IsOnly offset g ts → AlikeStatementForm f g → AlikeStatements ss ts
only_alike (R.only a b) (R.only c d) x = A.next_statement A.no_statements (A.statement (b ∙ sym d) (subst₂ AlikeStatementForm (sym a) (sym c) x))

two_alike : {offset : ℕ} {f g h k : StatementForm} {ss ts : List Statement} → AreTwo offset f g ss → AreTwo offset h k ts → AlikeStatementForm f h → AlikeStatementForm g k →
    AlikeStatements ss ts
two_alike (R.two a b c d) (R.two e f g h) x y =
    A.next_statement (A.next_statement A.no_statements (A.statement (b ∙ sym f) (subst₂ AlikeStatementForm (sym a) (sym e) x)))
    (A.statement (d ∙ sym h) (subst₂ AlikeStatementForm (sym c) (sym g) y))

loop_alike : {offset : ℕ} {c d m n : Expression} {xs ys : Vec Statement Global} {f g : StatementForm} → Alike c d → Alike m n → AlikeStatements xs.items ys.items →
    IsBoundedLoop offset c m xs f → IsBoundedLoop offset d n ys g → AlikeStatementForm f g
loop_alike {xs = xs} {ys = ys} x y h (R.bounded other turn a b) (R.bounded other2 turn2 c d) =
    A.repeat turn turn2 y (only_alike b d (A.if xs other ys other2 (A.condition x) h (only_alike a c (A.act A.same_action))))

requires_not_once : {tokens : List Token} {n m i offset : ℕ} {f g : StatementForm} → RequiresNot tokens n i offset f → RequiresNot tokens m i offset g → AlikeStatementForm f g
requires_not_once {m = m} (R.requires_not x s form o why p) (R.requires_not {j = end} {a = b} y t form2 o2 why2 p2) =
    let same = once x (ends s.kind_is refl) m end b.value y (ends t.kind_is refl) in
    A.act (A.requires (A.alike (o ∙ sym o2) (subst₂ AlikeForm (sym form) (sym form2) (A.not same.1))) (A.reason (A.alike (p ∙ sym p2) (subst₂ AlikeForm (sym why) (sym why2) A.same_form))))

while_once : {tokens : List Token} {n m i j k : ℕ} {c d most more : Expression} → IsWhile tokens n i j c most → kind_at tokens j ≡ K.LeftBrace → IsWhile tokens m i k d more →
    kind_at tokens k ≡ K.LeftBrace → (j ≡ k) × Alike c d × Alike most more
while_once {tokens} {m = m} {k = end} {d = d} {more = more} (R.heads {j = a1} {k = a2} {l = a3} e s t c) f (R.heads {j = b1} {k = b2} {l = b3} e2 s2 t2 c2) g =
    let asked = once e (ends s.kind_is refl) m b1 d e2 (ends s2.kind_is refl) in
    let s2' : Stands tokens word_at a1 b2 = at (λ z. Stands tokens word_at z b2) asked.0 s2 in
    let t2' : Stands tokens word_most a2 b3 = at (λ z. Stands tokens word_most z b3) (same_end s s2') t2 in
    let c2' : IsExpression tokens m Disjunction a3 end more = at (λ z. IsExpression tokens m Disjunction z end more) (same_end t t2') c2 in
    let most = once c (ends f refl) m end more c2' (ends g refl) in
    (most.0, asked.1, most.1)

looped_once : {tokens : List Token} {n m i offset : ℕ} {c d most more : Expression} {xs ys : Vec Statement Global} {ss ts : List Statement} → Alike c d → Alike most more →
    AlikeStatements xs.items ys.items → IsLooped tokens n i offset c most xs ss → IsLooped tokens m i offset d more ys ts → AlikeStatements ss ts
looped_once x y h (R.looped a b c) (R.looped d e f) = two_alike c f (loop_alike x y h a d) (requires_not_once b e)

may_end_once : {tokens : List Token} {i j k : ℕ} → MayEnd tokens i j → MayEnd tokens i k → j ≡ k
may_end_once (R.no_semicolon n) (R.no_semicolon m) = refl
may_end_once (R.no_semicolon n) (R.semicolon s) = absurd (n s.kind_is)
may_end_once (R.semicolon s) (R.no_semicolon n) = absurd (n s.kind_is)
may_end_once (R.semicolon s) (R.semicolon t) = same_end s t

statements_rest : {tokens : List Token} {n i k : ℕ} {ss : List Statement} → AreStatements tokens n i k ss → Rest (StatementItem tokens) i [] k ss
statements_rest R.no_more = done
statements_rest {n = n} (R.next a h) = append (statements_rest a) (record { levels = n; is = h })

otherwise_starts : {tokens : List Token} {n i j : ℕ} {why : Option Name} {o : Otherwise} → IsOtherwise tokens n i j why o → kind_at tokens i ≡ K.Else
otherwise_starts (R.block_else {o = o} s w b e p) = s.kind_is
otherwise_starts (R.leave_else {o = o} s b p) = s.kind_is

leaving_starts : {tokens : List Token} {n i j : ℕ} {ss : List Statement} → IsLeaving tokens n i j ss → starting (kind_at tokens i) ≡ 1
leaving_starts (R.leaving x l s form o) = action_starting x

-- the token of a block, or another one that is allowed there
abbrev bracing : TokenKind → ℕ
bracing K.If = 1
bracing (K.Name s) = 1
bracing K.Else = 1
bracing K.LeftBrace = 2
bracing kind = 0

abbrev ending : TokenKind → ℕ
ending K.Semicolon = 1
ending K.RightBrace = 1
ending K.End = 1
ending kind = 0

-- a parenthesis, or another token
abbrev pub parting : TokenKind → ℕ
parting K.LeftParenthesis = 1
parting kind = 0

-- the token behind a name that may be left out is no parenthesis
pub optional_once : {tokens : List Token} {i j k : ℕ} {x y : Option Name} → IsOptionalName tokens i j x → parting (kind_at tokens j) ≡ 0 → IsOptionalName tokens i k y →
    parting (kind_at tokens k) ≡ 0 → (j ≡ k) × (x ≡ y)
optional_once R.no_name s R.no_name t = (refl, refl)
optional_once R.no_name s (R.some_name a n b) t = absurd (omega (arith, s, ap parting a.kind_is))
optional_once (R.some_name a n b) s R.no_name t = absurd (omega (arith, t, ap parting a.kind_is))
optional_once {tokens} {k = end} (R.some_name {j = a1} {k = a2} a n b) s (R.some_name {k = b2} {n = y} c m d) t =
    let m' : IsName tokens a1 b2 y = at (λ z. IsName tokens z b2 y) (same_end a c) m in
    let d' : Stands tokens K.RightParenthesis a2 end = at (λ z. Stands tokens K.RightParenthesis z end) (same_end n.stands m'.stands) d in
    (same_end b d', ap Some (same_name n m'))

-- the two kinds of loops
abbrev looping : TokenKind → ℕ
looping K.Repeat = 1
looping K.For = 2
looping kind = 0

abbrev loop_rank : {tokens : List Token} {n i j : ℕ} {f : StatementForm} → IsLoop tokens n i j f → ℕ
loop_rank (R.repeat body s e b) = 1
loop_rank (R.repeat_at_most body s e a m c b) = 1
loop_rank (R.for_each body s t c n x u p v w m b) = 2

loop_begins : {tokens : List Token} {n i j : ℕ} {f : StatementForm} (x : IsLoop tokens n i j f) → looping (kind_at tokens i) ≡ loop_rank x
loop_begins (R.repeat body s e b) = ap looping s.kind_is
loop_begins (R.repeat_at_most body s e a m c b) = ap looping s.kind_is
loop_begins (R.for_each body s t c n x u p v w m b) = ap looping s.kind_is

found_once : {tokens : List Token} {i j k : ℕ} {ns ms : List Name} → AreFoundNames tokens i j ns → AreFoundNames tokens i k ms → (j ≡ k) × (ns ≡ ms)
found_once {tokens} {k = end} (R.found_names {j = a1} {k = a2} s ns t) (R.found_names {k = b2} {ns = ms} s2 ms2 t2) =
    let ms2' : R.AreNames tokens a1 b2 ms = at (λ z. R.AreNames tokens z b2 ms) (same_end s s2) ms2 in
    let same = names_once ns (closes t) ms2' (closes t2) in
    let t2' : Stands tokens K.RightParenthesis a2 end = at (λ z. Stands tokens K.RightParenthesis z end) same.0 t2 in
    (same_end t t2', same.1)

-- where `found` belongs to a loop no loop ends without it
found_begins : {A : Type 0} {tokens : List Token} {i j k : ℕ} {ns : List Name} → Stands tokens word_found i j → AreFoundNames tokens j k ns →
    (BeginsFound tokens i → ⊥) → A
found_begins {tokens = tokens} s (R.found_names t ns u) none =
    absurd (none (record { found = s.kind_is; opens = subst (λ z. kind_at tokens z ≡ K.LeftParenthesis) s.next_is t.kind_is }))

-- no `break`, `return` or `fail` stands where a block does, or a name before it
no_leaving : {A : Type 0} {tokens : List Token} {n i j k : ℕ} {why : Option Name} {ss : List Statement} → IsOptionalName tokens i j why → IsBlock tokens n j k ss →
    starting (kind_at tokens i) ≡ 1 → A
no_leaving R.no_name b e = absurd (omega (arith, e, ap starting (block_starts b)))
no_leaving (R.some_name a n c) b e = absurd (omega (arith, e, ap starting a.kind_is))

-- ---- an `else` with a name for the code

failure_once : {a b : Action} → AlikeAction a b → failure_of a ≡ failure_of b
failure_once A.same_action = refl
failure_once (A.lets x) = refl
failure_once (A.assigns x) = refl
failure_once (A.writes x h) = refl
failure_once (A.emits x) = refl
failure_once (A.requires x y) = refl
failure_once (A.locks (A.node x)) = refl
failure_once (A.locks (A.child x)) = refl
failure_once (A.locks (A.pair x y)) = refl
failure_once (A.descends x) = refl
failure_once (A.fails_with x) = refl
failure_once (A.breaks_with x) = refl
failure_once (A.uses x) = refl

told_once : {why : Name} {f g : Failure} {xs ys : Vec Statement Global} {ss ts : List Statement} → f ≡ g → AlikeStatements xs.items ys.items → IsTold why f xs ss → IsTold why g ys ts →
    AlikeStatements ss ts
told_once {f = f} {xs = xs} {ys = ys} same h (R.told x o s) (R.told y p t) =
    let numbers : AlikeForm (F.Number (code_of f)) (F.Number (code_of f)) = A.same_form in
    let other = subst (λ z. AlikeForm (F.Number (code_of f)) (F.Number (code_of z))) same numbers in
    two_alike s t (A.act (A.lets (A.alike (o ∙ sym p) (subst₂ AlikeForm (sym x) (sym y) other)))) (A.block_alone xs ys h)

body_of : {o p : Otherwise} → AlikeOtherwise o p → ((out-Otherwise o).offset ≡ (out-Otherwise p).offset) × AlikeStatements (out-Otherwise o).body.items (out-Otherwise p).body.items
body_of (A.otherwise e h) = (e, h)

elsed_once : {offset : ℕ} {a b : Action} {x y : Option Name} {o p : Otherwise} {f g : StatementForm} → AlikeAction a b → x ≡ y → AlikeOtherwise o p → IsElsed offset a x o f →
    IsElsed offset b y p g → AlikeStatementForm f g
elsed_once same e other R.unnamed R.unnamed = A.act_else same other
elsed_once same e other R.unnamed (R.in_try body none only) = cc
elsed_once same e other R.unnamed (R.in_else is told there) = cc
elsed_once same e other (R.in_try body none only) R.unnamed = cc
elsed_once same e other (R.in_else is told there) R.unnamed = cc
elsed_once same e other (R.in_try body none only) (R.in_else is told there) = let f = failure_once same in cc
elsed_once same e other (R.in_else is told there) (R.in_try body none only) = let f = failure_once same in cc
elsed_once same e other (R.in_try {why = x} {o = o} body none only) (R.in_try {why = y} {o = p} body2 none2 only2) =
    let names : x ≡ y = cc in
    let alike : AlikeStatementForm (S.Try (Some x) body (out-Otherwise o).body) (S.Try (Some x) body2 (out-Otherwise p).body) =
    A.try body (out-Otherwise o).body body2 (out-Otherwise p).body (only_alike only only2 (A.act same)) (body_of other).1 in
    subst (λ z. AlikeStatementForm (S.Try (Some x) body (out-Otherwise o).body) (S.Try (Some z) body2 (out-Otherwise p).body)) names alike
elsed_once same e other (R.in_else {why = x} {failure = f} {o = o} {p = p} is told there) (R.in_else {why = y} {failure = g} {o = q} {p = r} is2 told2 there2) =
    let names : x ≡ y = cc in
    let failures : f ≡ g = let h = failure_once same in cc in
    let told2' : IsTold x g (out-Otherwise q).body (out-Otherwise r).body.items = subst (λ z. IsTold z g (out-Otherwise q).body (out-Otherwise r).body.items) (sym names) told2 in
    A.act_else same (A.otherwise {o = p} {p = r} (there ∙ (body_of other).0 ∙ sym there2) (told_once failures (body_of other).1 told told2'))

mutual
  pub block_once : {tokens : List Token} {n m i j k : ℕ} {ss ts : List Statement} → IsBlock tokens n i j ss → IsBlock tokens m i k ts → (j ≡ k) × AlikeStatements ss ts
  block_once {tokens} {k = end} (R.block {j = a1} {k = a2} {all = ss} s xs t) (R.block {levels = m} {k = b2} {all = ts} s2 ys t2) =
      let ys' : AreStatements tokens m a1 b2 ts = at (λ z. AreStatements tokens m z b2 ts) (same_end s s2) ys in
      let compared = statements_compared xs (no_else ending t.kind_is (omega arith)) b2 ts (statements_rest ys') (no_else ending t2.kind_is (omega arith)) in
      let same = list_end a2 b2 ss ts compared (no_item t) (no_item t2) in
      let t2' : Stands tokens K.RightBrace a2 end = at (λ z. Stands tokens K.RightBrace z end) same.0 t2 in
      (same_end t t2', same.1)

  statements_compared : {tokens : List Token} {n i j : ℕ} {ss : List Statement} → AreStatements tokens n i j ss → NoElse tokens j → (k : ℕ) (ts : List Statement) →
      Rest (StatementItem tokens) i [] k ts → NoElse tokens k → Compared (StatementItem tokens) AlikeStatements j ss k ts
  statements_compared R.no_more a k ts r b = within r A.no_statements
  statements_compared {tokens} {n = n} (R.next {j = j} {k = m} {all = ss} {s = s} xs h) a k ts r b =
      let item : StatementItem tokens j m s = record { levels = n; is = h } in
      another_compared (StatementItem tokens) AlikeStatement AlikeStatements (NoElse tokens) (item_no_else tokens) (λ xs ys x y ps q. A.next_statement ps q) j m k ss ts s item
      (λ f l t y g. statement_once h f y.is g) a b (statements_compared xs (item_no_else tokens j m s item) k ts r b)

  statement_once : {tokens : List Token} {n m i j k : ℕ} {s t : Statement} → IsStatement tokens n i j s → NoElse tokens j → IsStatement tokens m i k t → NoElse tokens k →
      (j ≡ k) × AlikeStatement s t
  statement_once (R.statement x o) f (R.statement y p) g = let same = form_once x f y g in (same.0, A.statement (o ∙ sym p) same.1)

  form_once : {tokens : List Token} {n m i j k : ℕ} {f g : StatementForm} → IsForm tokens n i j f → NoElse tokens j → IsForm tokens m i k g → NoElse tokens k →
      (j ≡ k) × AlikeStatementForm f g
  form_once {tokens} {k = end} (R.act {j = a1} x s) f (R.act y t) g =
      let same = action_once x (ends_here s.kind_is refl refl refl refl) y (ends_here t.kind_is refl refl refl refl) in
      let t' : Stands tokens K.Semicolon a1 end = at (λ z. Stands tokens K.Semicolon z end) same.0 t in
      (same_end s t', A.act same.1)
  form_once {tokens} {k = end} (R.act {j = a1} x s) f (R.act_else y e o d) g =
      let same = action_once x (ends_here s.kind_is refl refl refl refl) y (ends_here (otherwise_starts o) refl refl refl refl) in
      let there : kind_at tokens a1 ≡ K.Else = at (λ z. kind_at tokens z ≡ K.Else) same.0 (otherwise_starts o) in
      differ ending there s.kind_is (omega arith)
  form_once {tokens} (R.act_else {j = a1} x e o d) f (R.act y t) g =
      let same = action_once x (ends_here (otherwise_starts o) refl refl refl refl) y (ends_here t.kind_is refl refl refl refl) in
      let there : kind_at tokens a1 ≡ K.Semicolon = at (λ z. kind_at tokens z ≡ K.Semicolon) same.0 t.kind_is in
      differ ending (otherwise_starts o) there (omega arith)
  form_once {tokens} {m = m} {k = end} (R.act_else {j = a1} x e o d) f (R.act_else {why = why} {o = p} y e2 o2 d2) g =
      let same = action_once x (ends_here (otherwise_starts o) refl refl refl refl) y (ends_here (otherwise_starts o2) refl refl refl refl) in
      let o2' : IsOtherwise tokens m a1 end why p = at (λ z. IsOtherwise tokens m z end why p) same.0 o2 in
      let other = otherwise_once o o2' in
      (other.0, elsed_once same.1 other.1 other.2 d d2)
  form_once {tokens} {m = m} {k = end} (R.try {j = a1} {k = a2} {l = a3} {m = a4} {why = x} body other s b t n c) f (R.try {k = b2} {l = b3} {m = b4} {why = y} body2 other2 s2 b' t2 n2 c') g =
      let b2' : IsBlock tokens m a1 b2 body2.items = at (λ z. IsBlock tokens m z b2 body2.items) (same_end s s2) b' in
      let first = block_once b b2' in
      let t2' : Stands tokens K.Else a2 b3 = at (λ z. Stands tokens K.Else z b3) first.0 t2 in
      let n2' : IsOptionalName tokens a3 b4 y = at (λ z. IsOptionalName tokens z b4 y) (same_end t t2') n2 in
      let named = optional_once n (ap parting (block_starts c)) n2' (ap parting (block_starts c')) in
      let c2' : IsBlock tokens m a4 end other2.items = at (λ z. IsBlock tokens m z end other2.items) named.0 c' in
      let second = block_once c c2' in
      (second.0, subst (λ z. AlikeStatementForm (S.Try x body other) (S.Try z body2 other2)) named.1 (A.try body other body2 other2 first.1 second.1))
  form_once {tokens} {k = end} (R.if {j = a1} {k = a2} body other s q b none) f (R.if {levels = m} {k = b2} {q = r} body2 other2 s2 q2 b2' none2) g =
      let q2' : IsQuestion tokens m a1 b2 r = at (λ z. IsQuestion tokens m z b2 r) (same_end s s2) q2 in
      let asked = question_once q (ends_here (block_starts b) refl refl refl refl) q2' (ends_here (block_starts b2') refl refl refl refl) in
      let c2 : IsBlock tokens m a2 end body2.items = at (λ z. IsBlock tokens m z end body2.items) asked.0 b2' in
      let first = block_once b c2 in
      (first.0, A.if body other body2 other2 asked.1 first.1 (subst₂ AlikeStatements (sym none) (sym none2) A.no_statements))
  form_once {tokens} {k = end} (R.if {j = a1} {k = a2} body other s q b none) f (R.if_else {levels = m} {k = b2} {l = b3} {q = r} body2 other2 s2 q2 b2' t o) g =
      let q2' : IsQuestion tokens m a1 b2 r = at (λ z. IsQuestion tokens m z b2 r) (same_end s s2) q2 in
      let asked = question_once q (ends_here (block_starts b) refl refl refl refl) q2' (ends_here (block_starts b2') refl refl refl refl) in
      let c2 : IsBlock tokens m a2 b3 body2.items = at (λ z. IsBlock tokens m z b3 body2.items) asked.0 b2' in
      let first = block_once b c2 in
      some_else t (subst (λ z. NoElse tokens z) first.0 f)
  form_once {tokens} {k = end} (R.if_else {j = a1} {k = a2} body other s q b t o) f (R.if {levels = m} {k = b2} {q = r} body2 other2 s2 q2 b2' none2) g =
      let q2' : IsQuestion tokens m a1 b2 r = at (λ z. IsQuestion tokens m z b2 r) (same_end s s2) q2 in
      let asked = question_once q (ends_here (block_starts b) refl refl refl refl) q2' (ends_here (block_starts b2') refl refl refl refl) in
      let c2 : IsBlock tokens m a2 end body2.items = at (λ z. IsBlock tokens m z end body2.items) asked.0 b2' in
      let first = block_once b c2 in
      some_else t (at (λ z. NoElse tokens z) first.0 g)
  form_once {tokens} {k = end} (R.if_else {j = a1} {k = a2} {l = a3} {m = a4} body other s q b t o) f (R.if_else {levels = m} {k = b2} {l = b3} {m = b4} {q = r} body2 other2 s2 q2 b2' t2 o2) g =
      let q2' : IsQuestion tokens m a1 b2 r = at (λ z. IsQuestion tokens m z b2 r) (same_end s s2) q2 in
      let asked = question_once q (ends_here (block_starts b) refl refl refl refl) q2' (ends_here (block_starts b2') refl refl refl refl) in
      let c2 : IsBlock tokens m a2 b3 body2.items = at (λ z. IsBlock tokens m z b3 body2.items) asked.0 b2' in
      let first = block_once b c2 in
      let t2' : Stands tokens K.Else a3 b4 = at (λ z. Stands tokens K.Else z b4) first.0 t2 in
      let o2' : IsOther tokens m a4 end other2.items = at (λ z. IsOther tokens m z end other2.items) (same_end t t2') o2 in
      let second = other_once o f o2' g in
      (second.0, A.if body other body2 other2 asked.1 first.1 second.1)
  form_once (R.loop x none) f (R.loop y none2) g = loop_once x y
  form_once {tokens} (R.loop x none) f (R.search {k = b2} turns found other names y o s n b e) g =
      found_begins (at (λ z. Stands tokens word_found z b2) (loop_once x y).0 s) n none
  form_once {tokens} (R.search {k = a2} turns found other names x o s n b e) f (R.loop y none) g =
      found_begins (subst (λ z. Stands tokens word_found z a2) (loop_once x y).0 s) n none
  form_once {tokens} {m = m} {k = end} (R.search {j = a1} {k = a2} {l = a3} {m = a4} turns found other names x o s n b e) f (R.search {j = b1} {k = b2} {l = b3} {m = b4} turns2 found2 other2 names2 y o2 s2 n2 b' e2) g =
      let loop = loop_once x y in
      let s2' : Stands tokens word_found a1 b2 = at (λ z. Stands tokens word_found z b2) loop.0 s2 in
      let n2' : AreFoundNames tokens a2 b3 names2.items = at (λ z. AreFoundNames tokens z b3 names2.items) (same_end s s2') n2 in
      let named = found_once n n2' in
      let b2' : IsBlock tokens m a3 b4 found2.items = at (λ z. IsBlock tokens m z b4 found2.items) named.0 b' in
      let first = block_once b b2' in
      let e2' : IsNotFound tokens m a4 end other2.items = at (λ z. IsNotFound tokens m z end other2.items) first.0 e2 in
      let second = not_found_once e e2' in
      (second.0, A.search turns found other turns2 found2 other2 named.1 (only_alike o o2 loop.1) first.1 second.1)
  form_once (R.block_alone body b) f (R.block_alone body2 c) g = let same = block_once b c in (same.0, A.block_alone body body2 same.1)
  form_once (R.act x s) f (R.while body all t (R.heads e u v m) b c) g = no_while x t e
  form_once (R.act_else x e o d) f (R.while body all t (R.heads h u v m) b c) g = no_while x t h
  form_once (R.while body all t (R.heads e u v m) b c) f (R.act x s) g = no_while x t e
  form_once (R.while body all t (R.heads h u v m) b c) f (R.act_else x e o d) g = no_while x t h
  form_once {tokens} {i = i} {k = end} (R.while {j = a1} {k = a2} body all s h b u) f (R.while {levels = m} {j = b1} {k = b2} {condition = e2} {most = most2} body2 all2 s2 h2 b' u2) g =
      let h2' : IsWhile tokens m a1 b2 e2 most2 = at (λ z. IsWhile tokens m z b2 e2 most2) (same_end s s2) h2 in
      let same = while_once h (block_starts b) h2' (block_starts b') in
      let d2 : IsBlock tokens m a2 end body2.items = at (λ z. IsBlock tokens m z end body2.items) same.0 b' in
      let first = block_once b d2 in
      let u2' : IsLooped tokens m a1 (offset_at tokens i) e2 most2 body2 all2.items = at (λ z. IsLooped tokens m z (offset_at tokens i) e2 most2 body2 all2.items) (same_end s s2) u2 in
      (first.0, A.block_alone all all2 (looped_once same.1 same.2 first.1 u u2'))
  form_once x f y g = absurd (omega (arith, form_is x, form_is y))

  not_found_once : {tokens : List Token} {n m i j k : ℕ} {ss ts : List Statement} → IsNotFound tokens n i j ss → IsNotFound tokens m i k ts → (j ≡ k) × AlikeStatements ss ts
  not_found_once (R.nothing_else none) (R.nothing_else none2) = (refl, A.no_statements)
  not_found_once (R.nothing_else none) (R.otherwise s b) = absurd (none s.kind_is)
  not_found_once (R.otherwise s b) (R.nothing_else none) = absurd (none s.kind_is)
  not_found_once {tokens} {m = m} {k = end} (R.otherwise {j = a1} s b) (R.otherwise {all = ts} s2 b') =
      let b2' : IsBlock tokens m a1 end ts = at (λ z. IsBlock tokens m z end ts) (same_end s s2) b' in
      block_once b b2'

  loop_once : {tokens : List Token} {n m i j k : ℕ} {f g : StatementForm} → IsLoop tokens n i j f → IsLoop tokens m i k g → (j ≡ k) × AlikeStatementForm f g
  loop_once {tokens} {m = m} {k = end} (R.repeat {j = a1} {k = a2} body s e b) (R.repeat {k = b2} {turns = e2} body2 s2 h2 b') =
      let h2' : IsExpression tokens m Disjunction a1 b2 e2 = at (λ z. IsExpression tokens m Disjunction z b2 e2) (same_end s s2) h2 in
      let turns = once e (ends (block_starts b) refl) m b2 e2 h2' (ends (block_starts b') refl) in
      let c2 : IsBlock tokens m a2 end body2.items = at (λ z. IsBlock tokens m z end body2.items) turns.0 b' in
      let first = block_once b c2 in
      (first.0, A.repeat body body2 turns.1 first.1)
  loop_once {tokens} {m = m} (R.repeat {j = a1} {k = a2} body s e b) (R.repeat_at_most {k = b2} {turns = e2} body2 s2 h2 t u c b') =
      let h2' : IsExpression tokens m Disjunction a1 b2 e2 = at (λ z. IsExpression tokens m Disjunction z b2 e2) (same_end s s2) h2 in
      let turns = once e (ends (block_starts b) refl) m b2 e2 h2' (ends t.kind_is refl) in
      let there : kind_at tokens a2 ≡ word_at = at (λ z. kind_at tokens z ≡ word_at) turns.0 t.kind_is in
      differ bracing there (block_starts b) (omega arith)
  loop_once {tokens} {m = m} (R.repeat_at_most {j = a1} {k = a2} body s e t u c b) (R.repeat {k = b2} {turns = e2} body2 s2 h2 b') =
      let h2' : IsExpression tokens m Disjunction a1 b2 e2 = at (λ z. IsExpression tokens m Disjunction z b2 e2) (same_end s s2) h2 in
      let turns = once e (ends t.kind_is refl) m b2 e2 h2' (ends (block_starts b') refl) in
      let there : kind_at tokens a2 ≡ K.LeftBrace = at (λ z. kind_at tokens z ≡ K.LeftBrace) turns.0 (block_starts b') in
      differ bracing t.kind_is there (omega arith)
  loop_once {tokens} {m = m} {k = end} (R.repeat_at_most {j = a1} {k = a2} {l = a3} {m = a4} {n = a5} body s e t u c b) (R.repeat_at_most {k = b2} {l = b3} {m = b4} {n = b5} {turns = e2} {most = most2} body2 s2 h2 t2 u2 c2 b') =
      let h2' : IsExpression tokens m Disjunction a1 b2 e2 = at (λ z. IsExpression tokens m Disjunction z b2 e2) (same_end s s2) h2 in
      let turns = once e (ends t.kind_is refl) m b2 e2 h2' (ends t2.kind_is refl) in
      let t2' : Stands tokens word_at a2 b3 = at (λ z. Stands tokens word_at z b3) turns.0 t2 in
      let u2' : Stands tokens word_most a3 b4 = at (λ z. Stands tokens word_most z b4) (same_end t t2') u2 in
      let c2' : IsExpression tokens m Disjunction a4 b5 most2 = at (λ z. IsExpression tokens m Disjunction z b5 most2) (same_end u u2') c2 in
      let most = once c (ends (block_starts b) refl) m b5 most2 c2' (ends (block_starts b') refl) in
      let d2 : IsBlock tokens m a5 end body2.items = at (λ z. IsBlock tokens m z end body2.items) most.0 b' in
      let first = block_once b d2 in
      (first.0, A.repeat_at_most body body2 turns.1 most.1 first.1)
  loop_once {tokens} {m = m} {k = end} (R.for_each {j = a1} {k = a2} {l = a3} {m = a4} {n = a5} {o = a6} {p = a7} {q = a8} {r = a9} {s = a10} {child = x} {parent = y} {place = z1} {most = most1}
      body s1 s2 s3 n1 i1 s4 n2 s5 s6 c b)
      (R.for_each {k = b2} {l = b3} {m = b4} {n = b5} {o = b6} {p = b7} {q = b8} {r = b9} {s = b10} {child = x2} {parent = y2} {place = z2} {most = most2} body2 t1 t2 t3 m1 i2 t4 m2 t5 t6 d b') =
      let t2' : Stands tokens word_each a1 b2 = at (λ z. Stands tokens word_each z b2) (same_end s1 t1) t2 in
      let t3' : Stands tokens K.Child a2 b3 = at (λ z. Stands tokens K.Child z b3) (same_end s2 t2') t3 in
      let m1' : IsName tokens a3 b4 x2 = at (λ z. IsName tokens z b4 x2) (same_end s3 t3') m1 in
      let i2' : IsOptionalName tokens a4 b5 z2 = at (λ z. IsOptionalName tokens z b5 z2) (same_end n1.stands m1'.stands) i2 in
      let place = optional_once i1 (ap parting s4.kind_is) i2' (ap parting t4.kind_is) in
      let t4' : Stands tokens word_of a5 b6 = at (λ z. Stands tokens word_of z b6) place.0 t4 in
      let m2' : IsName tokens a6 b7 y2 = at (λ z. IsName tokens z b7 y2) (same_end s4 t4') m2 in
      let t5' : Stands tokens word_at a7 b8 = at (λ z. Stands tokens word_at z b8) (same_end n2.stands m2'.stands) t5 in
      let t6' : Stands tokens word_most a8 b9 = at (λ z. Stands tokens word_most z b9) (same_end s5 t5') t6 in
      let d' : IsExpression tokens m Disjunction a9 b10 most2 = at (λ z. IsExpression tokens m Disjunction z b10 most2) (same_end s6 t6') d in
      let most = once c (ends (block_starts b) refl) m b10 most2 d' (ends (block_starts b') refl) in
      let b2' : IsBlock tokens m a10 end body2.items = at (λ z. IsBlock tokens m z end body2.items) most.0 b' in
      let first = block_once b b2' in
      let alike : AlikeStatementForm (S.ForEach x z1 y most1 body) (S.ForEach x z2 y most2 body2) =
      subst (λ z. AlikeStatementForm (S.ForEach x z1 y most1 body) (S.ForEach x z y most2 body2)) place.1 (A.for_each body body2 most.1 first.1) in
      (first.0, subst₂ (λ z w. AlikeStatementForm (S.ForEach x z1 y most1 body) (S.ForEach z z2 w most2 body2)) (same_name n1 m1') (same_name n2 m2') alike)
  loop_once x y = absurd (omega (arith, loop_begins x, loop_begins y))

  other_once : {tokens : List Token} {n m i j k : ℕ} {ss ts : List Statement} → IsOther tokens n i j ss → NoElse tokens j → IsOther tokens m i k ts → NoElse tokens k →
      (j ≡ k) × AlikeStatements ss ts
  other_once (R.other_block b) f (R.other_block c) g = block_once b c
  other_once (R.other_block b) f (R.other_if e s) g = differ bracing e (block_starts b) (omega arith)
  other_once (R.other_if e s) f (R.other_block c) g = differ bracing e (block_starts c) (omega arith)
  other_once (R.other_if e s) f (R.other_if e2 t) g = let same = statement_once s f t g in (same.0, A.next_statement A.no_statements same.1)

  otherwise_once : {tokens : List Token} {n m i j k : ℕ} {x y : Option Name} {o p : Otherwise} → IsOtherwise tokens n i j x o → IsOtherwise tokens m i k y p →
      (j ≡ k) × (x ≡ y) × AlikeOtherwise o p
  otherwise_once {tokens} {m = m} {k = end} (R.block_else {j = a1} {k = a2} {o = o} s w b e x) (R.block_else {k = b2} {l = b3} {why = why} {o = p} s2 w2 c e2 y) =
      let w2' : IsOptionalName tokens a1 b2 why = at (λ z. IsOptionalName tokens z b2 why) (same_end s s2) w2 in
      let named = optional_once w (ap parting (block_starts b)) w2' (ap parting (block_starts c)) in
      let c' : IsBlock tokens m a2 b3 (out-Otherwise p).body.items = at (λ z. IsBlock tokens m z b3 (out-Otherwise p).body.items) named.0 c in
      let same = block_once b c' in
      (may_end_once e (at (λ z. MayEnd tokens z end) same.0 e2), named.1, A.otherwise {o = o} {p = p} (x ∙ sym y) same.1)
  otherwise_once {tokens} (R.block_else {o = o} s w b e x) (R.leave_else {o = p} s2 l y) =
      no_leaving w b (at (λ z. starting (kind_at tokens z) ≡ 1) (same_end s s2) (leaving_starts l))
  otherwise_once {tokens} (R.leave_else {o = o} s l x) (R.block_else {o = p} s2 w b e y) =
      no_leaving w b (at (λ z. starting (kind_at tokens z) ≡ 1) (same_end s2 s) (leaving_starts l))
  otherwise_once {tokens} {m = m} {k = end} (R.leave_else {j = a1} {o = o} s l x) (R.leave_else {o = p} s2 l2 y) =
      let l2' : IsLeaving tokens m a1 end (out-Otherwise p).body.items = at (λ z. IsLeaving tokens m z end (out-Otherwise p).body.items) (same_end s s2) l2 in
      let same = leaving_once l l2' in
      (same.0, refl, A.otherwise {o = o} {p = p} (x ∙ sym y) same.1)
