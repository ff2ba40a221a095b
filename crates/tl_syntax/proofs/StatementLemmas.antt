-- The rules for pushing a statement that was read to a list, where the list is given by an equation.
use Rattle.std.proofs.Common.{◌≡◌, ◌≢◌, ℕ, ℤ, List, [], ◌∷◌, ◌++◌, Option, None, Some, true, sym, ap, subst, ◌∙◌}
use Rattle.tl_syntax.specs.declared.token.Token.{Token}
use Rattle.tl_syntax.specs.declared.token.TokenKind.TheVariants as K
use Rattle.tl_syntax.specs.declared.parsed.Expression.{Expression}
use Rattle.tl_syntax.specs.Codes.{code_of}
use Rattle.tl_syntax.specs.declared.failure.Failure.{Failure}
use Rattle.tl_syntax.specs.declared.parsed.Form.TheVariants as F
use Rattle.tl_syntax.specs.declared.parsed.Name.{Name}
use Rattle.tl_syntax.specs.declared.parsed.Write.{Write}
use Rattle.tl_syntax.specs.declared.parsed.Action.{Action}
use Rattle.tl_syntax.specs.declared.parsed.Action.TheVariants as A
use Rattle.std.specs.declared.vec.Vec.{Vec}
use Rattle.std.specs.declared.alloc.Global.{Global}
use Rattle.tl_syntax.specs.declared.parsed.Otherwise.{Otherwise, out-Otherwise}
use Rattle.tl_syntax.specs.declared.parsed.Statement.{Statement}
use Rattle.tl_syntax.specs.declared.parsed.StatementForm.{StatementForm}
use Rattle.tl_syntax.specs.declared.parsed.StatementForm.TheVariants as S
use Rattle.tl_syntax.specs.Grammar.{kind_at, offset_at, Stands, IsExpression, Disjunction}
use Rattle.tl_syntax.specs.Statements as R
use Rattle.tl_syntax.specs.Statements.{AreExpressions, IsLeaving, IsWrite, AreMoreWrites, AreGiven, IsAction, leaves_block, IsOptionalName, failure_of, IsTold, IsElsed, IsBlock, IsNotFound, IsForm, AreStatements, IsStatement, IsOnly, AreTwo, MayEnd, IsOther, IsOtherwise}

pub pushed_first : {A : Type 0} {old new : List A} {x : A} → new ≡ old ++ x ∷ [] → old ≡ [] → new ≡ x ∷ []
pushed_first {x = x} e o = e ∙ ap (λ l. l ++ x ∷ []) o

pub first_value : {tokens : List Token} {levels i j : ℕ} {e : Expression} {old new : List Expression} → new ≡ old ++ e ∷ [] → old ≡ [] →
    IsExpression tokens levels Disjunction i j e → AreExpressions tokens levels i j new
first_value {tokens} {levels} {i} {j} p o h = subst (λ es. AreExpressions tokens levels i j es) (sym (pushed_first p o)) (R.one h)

pub next_value : {tokens : List Token} {levels i j k l : ℕ} {e : Expression} {old new : List Expression} → new ≡ old ++ e ∷ [] →
    AreExpressions tokens levels i j old → Stands tokens K.Comma j k → IsExpression tokens levels Disjunction k l e → AreExpressions tokens levels i l new
next_value {tokens} {levels} {i} {l = l} p a b h = subst (λ es. AreExpressions tokens levels i l es) (sym p) (R.one_more a b h)

pub none_given : {tokens : List Token} {levels i j : ℕ} {es : List Expression} → es ≡ [] → Stands tokens K.RightParenthesis i j → AreGiven tokens levels i j es
none_given {tokens} {levels} {i} {j} e h = subst (λ es. AreGiven tokens levels i j es) (sym e) (R.none_given h)

pub no_writes : {tokens : List Token} {levels i : ℕ} {ws : List Write} → ws ≡ [] → AreMoreWrites tokens levels i i ws
no_writes {tokens} {levels} {i} e = subst (λ ws. AreMoreWrites tokens levels i i ws) (sym e) R.no_more_writes

pub next_write : {tokens : List Token} {levels i j k l : ℕ} {w : Write} {old new : List Write} → new ≡ old ++ w ∷ [] →
    AreMoreWrites tokens levels i j old → Stands tokens K.Comma j k → IsWrite tokens levels k l w → AreMoreWrites tokens levels i l new
next_write {tokens} {levels} {i} {l = l} p a b h = subst (λ ws. AreMoreWrites tokens levels i l ws) (sym p) (R.next_write a b h)

pub only_pushed : {offset : ℕ} {form : StatementForm} {s : Statement} {old new : List Statement} → new ≡ old ++ s ∷ [] → old ≡ [] → s.form ≡ form → s.offset ≡ offset →
    IsOnly offset form new
only_pushed {offset} {form} p o f g = subst (λ all. IsOnly offset form all) (sym (pushed_first p o)) (R.only f g)

pub two_pushed : {offset o : ℕ} {form other : StatementForm} {s : Statement} {old new : List Statement} → new ≡ old ++ s ∷ [] → IsOnly o form old → s.form ≡ other → o ≡ offset → s.offset ≡ o →
    AreTwo offset form other new
two_pushed {offset} {form = form} {other = other} e (R.only a b) c d f = subst (λ all. AreTwo offset form other all) (sym e) (R.two a (b ∙ d) c (f ∙ d))

pub leaving_only : {tokens : List Token} {levels i j k offset : ℕ} {a : Action} {all : List Statement} → IsOnly offset (S.Act a None) all →
    IsAction tokens levels i j a → leaves_block a ≡ true → Stands tokens K.Semicolon j k → offset ≡ offset_at tokens i → IsLeaving tokens levels i k all
leaving_only (R.only f g) h l b o = R.leaving h l b f (g ∙ o)

pub none_found : {tokens : List Token} {levels i : ℕ} {all : List Statement} → all ≡ [] → kind_at tokens i ≢ K.Else → IsNotFound tokens levels i i all
none_found {tokens} {levels} {i} e none = subst (λ all. IsNotFound tokens levels i i all) (sym e) (R.nothing_else none)

pub no_statements : {tokens : List Token} {levels i : ℕ} {all : List Statement} → all ≡ [] → AreStatements tokens levels i i all
no_statements {tokens} {levels} {i} e = subst (λ all. AreStatements tokens levels i i all) (sym e) R.no_more

pub next_statement : {tokens : List Token} {levels i j k : ℕ} {s : Statement} {old new : List Statement} → new ≡ old ++ s ∷ [] →
    AreStatements tokens levels i j old → IsStatement tokens levels j k s → AreStatements tokens levels i k new
next_statement {tokens} {levels} {i} {k = k} p a h = subst (λ all. AreStatements tokens levels i k all) (sym p) (R.next a h)

pub other_only : {tokens : List Token} {levels i j offset : ℕ} {form : StatementForm} {all : List Statement} → IsOnly offset form all →
    kind_at tokens i ≡ K.If → IsForm tokens levels i j form → offset ≡ offset_at tokens i → IsOther tokens levels i j all
other_only {tokens} {levels} {i} {j} (R.only f g) k x o = R.other_if k (R.statement (subst (λ z. IsForm tokens levels i j z) (sym f) x) (g ∙ o))

pub otherwise_block : {tokens : List Token} {levels i j k l m offset : ℕ} {why : Option Name} (o : Otherwise) (body : Vec Statement Global) → (out-Otherwise o).offset ≡ offset →
    (out-Otherwise o).body ≡ body → Stands tokens K.Else i j → IsOptionalName tokens j k why → IsBlock tokens levels k l body.items → MayEnd tokens l m → offset ≡ offset_at tokens i →
    IsOtherwise tokens levels i m why o
otherwise_block {tokens} {levels} {k = k} {l = l} o body p q a n b e f = R.block_else {o = o} a n (subst (λ v. IsBlock tokens levels k l v.items) (sym q) b) e (p ∙ f)

pub otherwise_leaving : {tokens : List Token} {levels i j k offset : ℕ} (o : Otherwise) (body : Vec Statement Global) → (out-Otherwise o).offset ≡ offset →
    (out-Otherwise o).body ≡ body → Stands tokens K.Else i j → IsLeaving tokens levels j k body.items → offset ≡ offset_at tokens i → IsOtherwise tokens levels i k None o
otherwise_leaving {tokens} {levels} {j = j} {k = k} o body p q a b f = R.leave_else {o = o} a (subst (λ v. IsLeaving tokens levels j k v.items) (sym q) b) (p ∙ f)

pub told_two : {why : Name} {failure : Failure} {body : Vec Statement Global} {e : Expression} {n : ℤ} {all : List Statement} → n ≡ code_of failure → e.form ≡ F.Number n → e.offset ≡ why.offset →
    AreTwo why.offset (S.Act (A.Let why e) None) (S.Block body) all → IsTold why failure body all
told_two c f o h = R.told (f ∙ ap F.Number c) o h

pub in_else_told : {offset : ℕ} {a : Action} {why : Name} {failure : Failure} {o : Otherwise} (p : Otherwise) (body : Vec Statement Global) → failure_of a ≡ Some failure →
    (out-Otherwise p).offset ≡ (out-Otherwise o).offset → (out-Otherwise p).body ≡ body → IsTold why failure (out-Otherwise o).body body.items → IsElsed offset a (Some why) o (S.Act a (Some p))
in_else_told {why = why} {failure = failure} {o = o} p body e place same h =
    R.in_else {o = o} {p = p} e (subst (λ v. IsTold why failure (out-Otherwise o).body v.items) (sym same) h) place
