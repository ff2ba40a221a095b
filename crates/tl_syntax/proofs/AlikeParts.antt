-- What two alike statements or declarations have in common.
use Rattle.std.proofs.Common.{◌≡◌, ℕ, List, [], ◌∷◌, ◌++◌, Option, None, Some, refl, sym, ap, subst, ◌∙◌}
use Rattle.std.specs.declared.vec.Vec.{Vec}
use Rattle.std.specs.declared.alloc.Global.{Global}
use Rattle.tl_syntax.specs.declared.parsed.Name.{Name}
use Rattle.tl_syntax.specs.declared.parsed.Expression.{Expression}
use Rattle.tl_syntax.specs.declared.parsed.Child.{Child}
use Rattle.tl_syntax.specs.declared.parsed.Place.{Place}
use Rattle.tl_syntax.specs.declared.parsed.Place.TheVariants as P
use Rattle.tl_syntax.specs.declared.parsed.Change.{Change}
use Rattle.tl_syntax.specs.declared.parsed.Leave.{Leave}
use Rattle.tl_syntax.specs.declared.parsed.Write.{Write}
use Rattle.tl_syntax.specs.declared.parsed.Action.{Action}
use Rattle.tl_syntax.specs.declared.parsed.Action.TheVariants as V
use Rattle.tl_syntax.specs.declared.parsed.Question.{Question}
use Rattle.tl_syntax.specs.declared.parsed.Question.TheVariants as Q
use Rattle.tl_syntax.specs.declared.parsed.Otherwise.{Otherwise, out-Otherwise}
use Rattle.tl_syntax.specs.declared.parsed.Statement.{Statement}
use Rattle.tl_syntax.specs.declared.parsed.StatementForm.{StatementForm, out-StatementForm, the_lemmas}
use Rattle.tl_syntax.specs.declared.parsed.StatementForm.TheOpen as Y
use Rattle.tl_syntax.specs.declared.parsed.StatementForm.TheVariants as S
use Rattle.tl_syntax.specs.declared.parsed.Procedure.{Procedure}
use Rattle.tl_syntax.specs.declared.parsed.Part.{Part}
use Rattle.tl_syntax.specs.declared.parsed.Declaration.{Declaration}
use Rattle.tl_syntax.specs.declared.parsed.Declaration.TheVariants as D
use Rattle.tl_syntax.specs.Alike as A
use Rattle.tl_syntax.specs.Alike.{Alike, AlikeForm, AreAlike, AlikeChild, AlikePlace, AlikeWrite, AlikeWrites, AlikeReason, AlikeAction, AlikeQuestion, AlikeStatements, AlikeStatement, AlikeStatementForm, AlikeOtherwise, AlikeProcedure, AlikePart, AlikeDeclaration, AlikeDeclarations}
use Rattle.tl_syntax.proofs.AlikeForms.{form_of}

-- ---- itself

pub alike_itself : (e : Expression) → Alike e e
alike_itself e = A.alike refl A.same_form

child_itself : (c : Child) → AlikeChild c c
child_itself c = record { name = refl; parent = refl; number = alike_itself c.number }

pub place_itself : (p : Place) → AlikePlace p p
place_itself (P.Node name offset number) = A.node (alike_itself number)
place_itself (P.Child c) = A.child (child_itself c)
place_itself (P.Pair c d) = A.pair (child_itself c) (child_itself d)

pub question_itself : (q : Question) → AlikeQuestion q q
question_itself (Q.Condition e) = A.condition (alike_itself e)
question_itself (Q.Lock p) = A.lock (place_itself p)

-- ---- actions

-- the number of the action's variant
abbrev pub action_rank : Action → ℕ
action_rank (V.Let name e) = 0
action_rank (V.Assign name change e) = 1
action_rank (V.Write w others) = 2
action_rank (V.Emit es) = 3
action_rank (V.Require e why) = 4
action_rank (V.Lock place) = 5
action_rank (V.Descend node e) = 6
action_rank (V.Take node from) = 7
action_rank (V.Free node) = 8
action_rank (V.Leave l) = 9
action_rank (V.Use n es) = 10
action_rank (V.Fail e) = 11
action_rank (V.BreakWith es) = 12

pub same_action_rank : {a b : Action} → AlikeAction a b → action_rank a ≡ action_rank b
same_action_rank A.same_action = refl
same_action_rank (A.lets x) = refl
same_action_rank (A.assigns x) = refl
same_action_rank (A.writes x y) = refl
same_action_rank (A.emits x) = refl
same_action_rank (A.requires x y) = refl
same_action_rank (A.locks x) = refl
same_action_rank (A.descends x) = refl
same_action_rank (A.fails_with x) = refl
same_action_rank (A.breaks_with x) = refl
same_action_rank (A.uses x) = refl

pub let_of : {n m : Name} {e f : Expression} → AlikeAction (V.Let n e) (V.Let m f) → (n ≡ m) × AlikeForm e.form f.form
let_of A.same_action = (refl, A.same_form)
let_of (A.lets x) = (refl, form_of x)

pub assign_of : {n m : Name} {c d : Change} {e f : Expression} → AlikeAction (V.Assign n c e) (V.Assign m d f) → (n ≡ m) × (c ≡ d) × AlikeForm e.form f.form
assign_of A.same_action = (refl, refl, A.same_form)
assign_of (A.assigns x) = (refl, refl, form_of x)

write_itself : (w : Write) → AlikeWrite w w
write_itself w = record { node = refl; field = refl; change = refl; value = alike_itself w.value }

writes_itself : (ws : List Write) → AlikeWrites ws ws
writes_itself [] = A.no_writes
writes_itself (w ∷ ws) = A.more_writes (write_itself w) (writes_itself ws)

pub write_of : {v w : Write} {vs ws : Vec Write Global} → AlikeAction (V.Write v vs) (V.Write w ws) → AlikeWrite v w × AlikeWrites vs.items ws.items
write_of {v} {vs = vs} A.same_action = (write_itself v, writes_itself vs.items)
write_of (A.writes x y) = (x, y)

reason_itself : (why : Option Expression) → AlikeReason why why
reason_itself None = A.no_reason
reason_itself (Some e) = A.reason (alike_itself e)

pub require_of : {e f : Expression} {x y : Option Expression} → AlikeAction (V.Require e x) (V.Require f y) → AlikeForm e.form f.form × AlikeReason x y
require_of {x = x} A.same_action = (A.same_form, reason_itself x)
require_of (A.requires x y) = (form_of x, y)

pub fail_of : {e f : Expression} → AlikeAction (V.Fail e) (V.Fail f) → AlikeForm e.form f.form
fail_of A.same_action = A.same_form
fail_of (A.fails_with x) = form_of x

pub lock_of : {p q : Place} → AlikeAction (V.Lock p) (V.Lock q) → AlikePlace p q
lock_of {p} A.same_action = place_itself p
lock_of (A.locks x) = x

pub descend_of : {n m : Name} {e f : Expression} → AlikeAction (V.Descend n e) (V.Descend m f) → (n ≡ m) × AlikeForm e.form f.form
descend_of A.same_action = (refl, A.same_form)
descend_of (A.descends x) = (refl, form_of x)

pub take_of : {n m k l : Name} → AlikeAction (V.Take n k) (V.Take m l) → (n ≡ m) × (k ≡ l)
take_of A.same_action = (refl, refl)

pub free_of : {n m : Name} → AlikeAction (V.Free n) (V.Free m) → n ≡ m
free_of A.same_action = refl

pub leave_of : {l m : Leave} → AlikeAction (V.Leave l) (V.Leave m) → l ≡ m
leave_of A.same_action = refl

-- ---- lists of numbers

alike_before : {e f : Expression} {es fs : List Expression} → Alike e f → AreAlike es fs → AreAlike (e ∷ es) (f ∷ fs)
alike_before x A.none = A.next A.none x
alike_before x (A.next h y) = A.next (alike_before x h) y

expressions_itself : (es : List Expression) → AreAlike es es
expressions_itself [] = A.none
expressions_itself (e ∷ es) = alike_before (alike_itself e) (expressions_itself es)

pub emit_of : {es fs : Vec Expression Global} → AlikeAction (V.Emit es) (V.Emit fs) → AreAlike es.items fs.items
emit_of {es} A.same_action = expressions_itself es.items
emit_of (A.emits x) = x

pub break_of : {es fs : Vec Expression Global} → AlikeAction (V.BreakWith es) (V.BreakWith fs) → AreAlike es.items fs.items
break_of {es} A.same_action = expressions_itself es.items
break_of (A.breaks_with x) = x

pub use_of : {n m : Name} {es fs : Vec Expression Global} → AlikeAction (V.Use n es) (V.Use m fs) → (n ≡ m) × AreAlike es.items fs.items
use_of {es = es} A.same_action = (refl, expressions_itself es.items)
use_of (A.uses x) = (refl, x)

-- ---- the parts of a statement

opened_act : (a : Action) (o : Option Otherwise) → out-StatementForm (S.Act a o) ≡ Y.Act a o
opened_act a o = search the_lemmas

opened_try : (why : Option Name) (xs ys : Vec Statement Global) → out-StatementForm (S.Try why xs ys) ≡ Y.Try why xs ys
opened_try why xs ys = search the_lemmas

opened_if : (q : Question) (xs ys : Vec Statement Global) → out-StatementForm (S.If q xs ys) ≡ Y.If q xs ys
opened_if q xs ys = search the_lemmas

opened_repeat : (e : Expression) (most : Option Expression) (xs : Vec Statement Global) → out-StatementForm (S.Repeat e most xs) ≡ Y.Repeat e most xs
opened_repeat e most xs = search the_lemmas

opened_for_each : (child : Name) (place : Option Name) (parent : Name) (most : Expression) (xs : Vec Statement Global) →
    out-StatementForm (S.ForEach child place parent most xs) ≡ Y.ForEach child place parent most xs
opened_for_each child place parent most xs = search the_lemmas

opened_block : (xs : Vec Statement Global) → out-StatementForm (S.Block xs) ≡ Y.Block xs
opened_block xs = search the_lemmas

opened_search : (turns : Vec Statement Global) (names : Vec Name Global) (found other : Vec Statement Global) → out-StatementForm (S.Search turns names found other) ≡ Y.Search turns names found other
opened_search turns names found other = search the_lemmas

same_act : {a b : Action} (o p : Option Otherwise) → S.Act a o ≡ S.Act b p → (a ≡ b) × (o ≡ p)
same_act {a} {b} o p e = let same = sym (opened_act a o) ∙ ap out-StatementForm e ∙ opened_act b p in (cc, cc)

same_only : {a b : Action} → S.Act a None ≡ S.Act b None → a ≡ b
same_only e = (same_act None None e).0

same_with : {a b : Action} {o p : Otherwise} → S.Act a (Some o) ≡ S.Act b (Some p) → (a ≡ b) × (o ≡ p)
same_with {o = o} {p = p} e = let same = (same_act (Some o) (Some p) e).1 in ((same_act (Some o) (Some p) e).0, cc)

only_or_with : {a b : Action} {o : Otherwise} → S.Act a None ≡ S.Act b (Some o) → ⊥
only_or_with {o = o} e = let no = (same_act None (Some o) e).1 in cc

same_try : {x y : Option Name} {xs ys vs ws : Vec Statement Global} → S.Try x xs ys ≡ S.Try y vs ws → (x ≡ y) × (xs ≡ vs) × (ys ≡ ws)
same_try {x} {y} {xs} {ys} {vs} {ws} e = let same = sym (opened_try x xs ys) ∙ ap out-StatementForm e ∙ opened_try y vs ws in (cc, cc, cc)

same_if : {q r : Question} {xs ys vs ws : Vec Statement Global} → S.If q xs ys ≡ S.If r vs ws → (q ≡ r) × (xs ≡ vs) × (ys ≡ ws)
same_if {q} {r} {xs} {ys} {vs} {ws} e = let same = sym (opened_if q xs ys) ∙ ap out-StatementForm e ∙ opened_if r vs ws in (cc, cc, cc)

same_repeat : {e f : Expression} {most least : Option Expression} {xs vs : Vec Statement Global} → S.Repeat e most xs ≡ S.Repeat f least vs → (e ≡ f) × (most ≡ least) × (xs ≡ vs)
same_repeat {e} {f} {most} {least} {xs} {vs} g = let same = sym (opened_repeat e most xs) ∙ ap out-StatementForm g ∙ opened_repeat f least vs in (cc, cc, cc)

same_for_each : {child child' parent parent' : Name} {place place' : Option Name} {most most' : Expression} {xs vs : Vec Statement Global} →
    S.ForEach child place parent most xs ≡ S.ForEach child' place' parent' most' vs →
    (child ≡ child') × (place ≡ place') × (parent ≡ parent') × (most ≡ most') × (xs ≡ vs)
same_for_each {child} {child'} {parent} {parent'} {place} {place'} {most} {most'} {xs} {vs} e =
    let same = sym (opened_for_each child place parent most xs) ∙ ap out-StatementForm e ∙ opened_for_each child' place' parent' most' vs in (cc, cc, cc, cc, cc)

same_block : {xs vs : Vec Statement Global} → S.Block xs ≡ S.Block vs → xs ≡ vs
same_block {xs} {vs} e = let same = sym (opened_block xs) ∙ ap out-StatementForm e ∙ opened_block vs in cc

same_search : {names names' : Vec Name Global} {turns found other turns' found' other' : Vec Statement Global} → S.Search turns names found other ≡ S.Search turns' names' found' other' →
    (names ≡ names') × (turns ≡ turns') × (found ≡ found') × (other ≡ other')
same_search {names} {names'} {turns} {found} {other} {turns'} {found'} {other'} e =
    let same = sym (opened_search turns names found other) ∙ ap out-StatementForm e ∙ opened_search turns' names' found' other' in (cc, cc, cc, cc)

-- ---- statements

-- the number of the form's variant
abbrev pub statement_rank : StatementForm → ℕ
statement_rank (S.Act' a o) = 0
statement_rank (S.Try' why p xs q ys) = 1
statement_rank (S.If' r p xs q ys) = 2
statement_rank (S.Repeat' e most p xs) = 3
statement_rank (S.ForEach' c i d e p xs) = 4
statement_rank (S.Block' p xs) = 5
statement_rank (S.Search' p turns names q found r other) = 6

pub same_statement_rank : {f g : StatementForm} → AlikeStatementForm f g → statement_rank f ≡ statement_rank g
same_statement_rank (A.act x) = refl
same_statement_rank (A.act_else x o) = refl
same_statement_rank (A.try a b c d x y) = refl
same_statement_rank (A.if a b c d q x y) = refl
same_statement_rank (A.repeat a b x y) = refl
same_statement_rank (A.repeat_at_most a b x m y) = refl
same_statement_rank (A.for_each a b x y) = refl
same_statement_rank (A.block_alone a b x) = refl
same_statement_rank (A.search a b c d e f n x y z) = refl

blocks_of : {xs ys vs ws : Vec Statement Global} → xs ≡ ys → vs ≡ ws → AlikeStatements xs.items vs.items → AlikeStatements ys.items ws.items
blocks_of {ys = ys} {vs = vs} e f h =
    subst (λ (z : Vec Statement Global). AlikeStatements ys.items z.items) f (subst (λ (z : Vec Statement Global). AlikeStatements z.items vs.items) e h)

-- alike statements are of the same variant, and their parts are alike
pub act_of : {f g : StatementForm} {a b : Action} → AlikeStatementForm f g → f ≡ S.Act a None → g ≡ S.Act b None → AlikeAction a b
act_of {a = a} (A.act {a = c} {b = d} x) e f = subst (AlikeAction a) (same_only f) (subst (λ z. AlikeAction z d) (same_only e) x)
act_of (A.act_else x o) e f = absurd (only_or_with (sym e))
act_of x e f = cc

pub else_needed : {f g : StatementForm} {a b : Action} {o : Otherwise} → AlikeStatementForm f g → f ≡ S.Act a (Some o) → g ≡ S.Act b None → ⊥
else_needed (A.act x) e f = only_or_with e
else_needed (A.act_else x o) e f = only_or_with (sym f)
else_needed x e f = cc

pub no_else_needed : {f g : StatementForm} {a b : Action} {o : Otherwise} → AlikeStatementForm f g → f ≡ S.Act a None → g ≡ S.Act b (Some o) → ⊥
no_else_needed (A.act x) e f = only_or_with f
no_else_needed (A.act_else x o) e f = only_or_with (sym e)
no_else_needed x e f = cc

otherwise_of : {o p : Otherwise} → AlikeOtherwise o p → AlikeStatements (out-Otherwise o).body.items (out-Otherwise p).body.items
otherwise_of (A.otherwise x h) = h

pub act_else_of : {f g : StatementForm} {a b : Action} {o p : Otherwise} → AlikeStatementForm f g → f ≡ S.Act a (Some o) → g ≡ S.Act b (Some p) →
    AlikeAction a b × AlikeStatements (out-Otherwise o).body.items (out-Otherwise p).body.items
act_else_of (A.act x) e f = absurd (only_or_with e)
act_else_of {a = a} {o = o} (A.act_else {a = c} {b = d} {o = q} {p = r} x h) e f =
    let first = same_with e in
    let second = same_with f in (
      subst (AlikeAction a) second.0 (subst (λ z. AlikeAction z d) first.0 x),
      otherwise_of (subst (AlikeOtherwise o) second.1 (subst (λ z. AlikeOtherwise z r) first.1 h)),
    )
act_else_of x e f = cc

pub try_of : {f g : StatementForm} {n m : Option Name} (xs ys vs ws : Vec Statement Global) → AlikeStatementForm f g → f ≡ S.Try n xs ys → g ≡ S.Try m vs ws →
    (n ≡ m) × AlikeStatements xs.items vs.items × AlikeStatements ys.items ws.items
try_of xs ys vs ws (A.try a b c d x y) e f = (sym (same_try e).0 ∙ (same_try f).0, blocks_of (same_try e).1 (same_try f).1 x, blocks_of (same_try e).2 (same_try f).2 y)
try_of xs ys vs ws x e f = cc

pub if_of : {f g : StatementForm} {q r : Question} (xs ys vs ws : Vec Statement Global) → AlikeStatementForm f g → f ≡ S.If q xs ys → g ≡ S.If r vs ws →
    AlikeQuestion q r × AlikeStatements xs.items vs.items × AlikeStatements ys.items ws.items
if_of {q = q} xs ys vs ws (A.if {r = t} a b c d h x y) e f =
    (subst (AlikeQuestion q) (same_if f).0 (subst (λ z. AlikeQuestion z t) (same_if e).0 h), blocks_of (same_if e).1 (same_if f).1 x, blocks_of (same_if e).2 (same_if f).2 y)
if_of xs ys vs ws x e f = cc

alike_by : {e f g h : Expression} → e ≡ g → f ≡ h → Alike e f → AlikeForm g.form h.form
alike_by {f = f} {g = g} x y a = form_of (subst (Alike g) y (subst (λ z. Alike z f) x a))

pub repeat_of : {f g : StatementForm} {d e : Expression} (xs vs : Vec Statement Global) → AlikeStatementForm f g → f ≡ S.Repeat d None xs → g ≡ S.Repeat e None vs →
    AlikeForm d.form e.form × AlikeStatements xs.items vs.items
repeat_of xs vs (A.repeat a b x y) e f = (alike_by (same_repeat e).0 (same_repeat f).0 x, blocks_of (same_repeat e).2 (same_repeat f).2 y)
repeat_of xs vs (A.repeat_at_most a b x m y) e f = let no = (same_repeat e).1 in cc
repeat_of xs vs x e f = cc

pub repeat_at_most_of : {f g : StatementForm} {d e m n : Expression} (xs vs : Vec Statement Global) → AlikeStatementForm f g → f ≡ S.Repeat d (Some m) xs → g ≡ S.Repeat e (Some n) vs →
    AlikeForm d.form e.form × AlikeForm m.form n.form × AlikeStatements xs.items vs.items
repeat_at_most_of xs vs (A.repeat a b x y) e f = let no = (same_repeat e).1 in cc
repeat_at_most_of {m = m} {n = n} xs vs (A.repeat_at_most {most = k} {most' = l} a b x h y) e f =
    let first : k ≡ m = let same = (same_repeat e).1 in cc in let second : l ≡ n = let same = (same_repeat f).1 in cc in
    (alike_by (same_repeat e).0 (same_repeat f).0 x, alike_by first second h, blocks_of (same_repeat e).2 (same_repeat f).2 y)
repeat_at_most_of xs vs x e f = cc

pub most_needed : {f g : StatementForm} {d e m : Expression} (xs vs : Vec Statement Global) → AlikeStatementForm f g → f ≡ S.Repeat d (Some m) xs → g ≡ S.Repeat e None vs → ⊥
most_needed xs vs (A.repeat a b x y) e f = let no = (same_repeat e).1 in cc
most_needed xs vs (A.repeat_at_most a b x m y) e f = let no = (same_repeat f).1 in cc
most_needed xs vs x e f = cc

pub no_most_needed : {f g : StatementForm} {d e m : Expression} (xs vs : Vec Statement Global) → AlikeStatementForm f g → f ≡ S.Repeat d None xs → g ≡ S.Repeat e (Some m) vs → ⊥
no_most_needed xs vs (A.repeat a b x y) e f = let no = (same_repeat f).1 in cc
no_most_needed xs vs (A.repeat_at_most a b x m y) e f = let no = (same_repeat e).1 in cc
no_most_needed xs vs x e f = cc

pub for_each_of : {f g : StatementForm} {child child' parent parent' : Name} {place place' : Option Name} {most most' : Expression} (xs vs : Vec Statement Global) → AlikeStatementForm f g →
    f ≡ S.ForEach child place parent most xs → g ≡ S.ForEach child' place' parent' most' vs →
    (child ≡ child') × (place ≡ place') × (parent ≡ parent') × AlikeForm most.form most'.form × AlikeStatements xs.items vs.items
for_each_of xs vs (A.for_each a b x y) e f =
    let first = same_for_each e in let second = same_for_each f in
    (sym first.0 ∙ second.0, sym first.1 ∙ second.1, sym first.2 ∙ second.2, alike_by first.3 second.3 x, blocks_of first.4 second.4 y)
for_each_of xs vs x e f = cc

pub block_of : {f g : StatementForm} (xs vs : Vec Statement Global) → AlikeStatementForm f g → f ≡ S.Block xs → g ≡ S.Block vs → AlikeStatements xs.items vs.items
block_of xs vs (A.block_alone a b x) e f = blocks_of (same_block e) (same_block f) x
block_of xs vs x e f = cc

pub search_of : {f g : StatementForm} {names names' : Vec Name Global} (turns found other turns' found' other' : Vec Statement Global) → AlikeStatementForm f g → f ≡ S.Search turns names found other →
    g ≡ S.Search turns' names' found' other' → (names.items ≡ names'.items) × AlikeStatements turns.items turns'.items × AlikeStatements found.items found'.items × AlikeStatements other.items other'.items
search_of turns found other turns' found' other' (A.search a b c d h i n x y z) e f =
    let first = same_search e in let second = same_search f in
    (ap (λ (v : Vec Name Global). v.items) (sym first.0) ∙ n ∙ ap (λ (v : Vec Name Global). v.items) second.0, blocks_of first.1 second.1 x, blocks_of first.2 second.2 y, blocks_of first.3 second.3 z)
search_of turns found other turns' found' other' x e f = cc

-- ---- lists, from the first item on

pub data Paired : List Statement → List Statement → Type 0 where
  paired_none : Paired [] []
  paired_more : {s t : Statement} {ss ts : List Statement} → s.offset ≡ t.offset → AlikeStatementForm s.form t.form → Paired ss ts → Paired (s ∷ ss) (t ∷ ts)

push_paired : {s t : Statement} {ss ts : List Statement} → AlikeStatement s t → Paired ss ts → Paired (ss ++ s ∷ []) (ts ++ t ∷ [])
push_paired (A.statement o x) paired_none = paired_more o x paired_none
push_paired x (paired_more o y h) = paired_more o y (push_paired x h)

pub paired : {ss ts : List Statement} → AlikeStatements ss ts → Paired ss ts
paired A.no_statements = paired_none
paired (A.next_statement h x) = push_paired x (paired h)

pub statement_before : {s t : Statement} {ss ts : List Statement} → AlikeStatement s t → AlikeStatements ss ts → AlikeStatements (s ∷ ss) (t ∷ ts)
statement_before x A.no_statements = A.next_statement A.no_statements x
statement_before x (A.next_statement h y) = A.next_statement (statement_before x h) y

pub data PairedDeclarations : List Declaration → List Declaration → Type 0 where
  paired_nothing : PairedDeclarations [] []
  paired_declaration : {d e : Declaration} {ds es : List Declaration} → AlikeDeclaration d e → PairedDeclarations ds es → PairedDeclarations (d ∷ ds) (e ∷ es)

pub push_declaration : {d e : Declaration} {ds es : List Declaration} → AlikeDeclaration d e → PairedDeclarations ds es → PairedDeclarations (ds ++ d ∷ []) (es ++ e ∷ [])
push_declaration x paired_nothing = paired_declaration x paired_nothing
push_declaration x (paired_declaration y h) = paired_declaration y (push_declaration x h)

pub paired_declarations : {ds es : List Declaration} → AlikeDeclarations ds es → PairedDeclarations ds es
paired_declarations A.no_declarations = paired_nothing
paired_declarations (A.next_declaration h x) = push_declaration x (paired_declarations h)

-- ---- declarations

-- the number of the declaration's variant
abbrev pub declaration_rank : Declaration → ℕ
declaration_rank (D.Field name number) = 0
declaration_rank (D.Constant name value) = 1
declaration_rank (D.Procedure p) = 2
declaration_rank (D.Part p) = 3

pub same_declaration_rank : {d e : Declaration} → AlikeDeclaration d e → declaration_rank d ≡ declaration_rank e
same_declaration_rank A.same_declaration = refl
same_declaration_rank (A.fields x) = refl
same_declaration_rank (A.constants x) = refl
same_declaration_rank (A.procedures x) = refl
same_declaration_rank (A.parts x) = refl

pub field_of : {n m : Name} {e f : Expression} → AlikeDeclaration (D.Field n e) (D.Field m f) → (n ≡ m) × AlikeForm e.form f.form
field_of A.same_declaration = (refl, A.same_form)
field_of (A.fields x) = (refl, form_of x)

pub constant_of : {n m : Name} {e f : Expression} → AlikeDeclaration (D.Constant n e) (D.Constant m f) → (n ≡ m) × AlikeForm e.form f.form
constant_of A.same_declaration = (refl, A.same_form)
constant_of (A.constants x) = (refl, form_of x)

pub procedure_of : {p q : Procedure} → AlikeProcedure p p → AlikeDeclaration (D.Procedure p) (D.Procedure q) → AlikeProcedure p q
procedure_of itself A.same_declaration = itself
procedure_of itself (A.procedures x) = x

pub part_of : {p q : Part} → AlikePart p p → AlikeDeclaration (D.Part p) (D.Part q) → AlikePart p q
part_of itself A.same_declaration = itself
part_of itself (A.parts x) = x

pub part_name : {p q : Part} → AlikeDeclaration (D.Part p) (D.Part q) → p.name ≡ q.name
part_name A.same_declaration = refl
part_name (A.parts x) = x.name
