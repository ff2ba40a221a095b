-- Alike blocks have the same core form, except for the memory that its parts occupy.
use Rattle.std.proofs.Common.{◌≡◌, ◌∙◌, ℕ, zero, suc, ◌+◌, ◌<◌, List, [], ◌∷◌, ◌++◌, length, take, pos, true, false, true≢false, Option, Some, refl, sym, ap, subst, arith}
use Rattle.std.specs.Prelude.{slice_get}
use Rattle.tl_syntax.specs.declared.parsed.Name.{Name}
use Rattle.tl_syntax.specs.declared.parsed.Expression.{Expression as TextExpression}
use Rattle.tl_syntax.specs.declared.parsed.Place.{Place as TextPlace}
use Rattle.tl_syntax.specs.declared.parsed.Action.{Action}
use Rattle.tl_syntax.specs.declared.parsed.Action.TheVariants as A
use Rattle.tl_syntax.specs.declared.parsed.Question.TheVariants as Q
use Rattle.tl_syntax.specs.declared.parsed.Statement.{Statement as TextStatement}
use Rattle.tl_syntax.specs.declared.parsed.StatementForm.{StatementForm}
use Rattle.tl_syntax.specs.declared.parsed.Form.TheVariants as F
use Rattle.tl_syntax.specs.declared.parsed.Parameter.{Parameter}
use Rattle.tl_syntax.specs.declared.parsed.Part.{Part}
use Rattle.tl_syntax.specs.declared.parsed.Declaration.{Declaration}
use Rattle.tl_syntax.specs.declared.parsed.Declaration.TheVariants as D
use Rattle.tl_syntax.specs.Alike as T
use Rattle.tl_syntax.specs.Alike.{AreAlike, AlikePart, AlikeAction, AlikeForm, AlikePlace, AlikeQuestion, AlikeStatements, AlikeStatementForm}
use Rattle.tl_syntax.proofs.AlikeForms.{form_of, same_plain}
use Rattle.tl_syntax.proofs.AlikeParts.{alike_itself, question_itself, same_action_rank, let_of, lock_of, use_of, require_of, fail_of, break_of, act_of, else_needed, no_else_needed, act_else_of, try_of, if_of, repeat_of, repeat_at_most_of, most_needed, no_most_needed, for_each_of, block_of, search_of, same_statement_rank, Paired, paired_none, paired_more, paired, statement_before}
use Rattle.tl_lowering.specs.declared.program.Statement.{Statement}
use Rattle.tl_lowering.specs.declared.program.Statement.TheVariants as S
use Rattle.tl_lowering.specs.declared.program.Expression.TheVariants as E
use Rattle.tl_lowering.specs.Alike.{same_constant, same_value, same_children, same_operation, same_child, same_equal, SameStatement, same_sequence, same_assign, same_break, same_fail, same_if, same_let, same_let_else, same_lock, same_try, same_repeat, same_repeat_up_to, same_at, AllSame, none_same, more_same}
use Rattle.tl_lowering.specs.declared.loops.Repetition.{Repetition}
use Rattle.tl_lowering.specs.declared.loops.Repetition.TheVariants as R
use Rattle.tl_lowering.specs.Choosing.{IsKept, IsTurnBody}
use Rattle.tl_lowering.specs.Drafts.{opens}
use Rattle.tl_lowering.specs.Giving.{IsNodeGiven, IsVariableGiven, IsValueGiven}
use Rattle.tl_syntax.specs.Codes.{code_of}
use Rattle.tl_syntax.specs.declared.parsed.Form.{Form}
use Rattle.tl_syntax.specs.declared.parsed.Leave.TheVariants as L
use Rattle.tl_lowering.specs.declared.program.Expression.{Expression}
use Rattle.tl_lowering.specs.declared.readers.Finding.{Finding}
use Rattle.tl_lowering.specs.declared.readers.Readers.{Readers}
use Rattle.tl_lowering.specs.Failing.{searching, in_part, number_failure, is_told}
use Rattle.tl_lowering.specs.Outcomes.{may_fail}
use Rattle.tl_lowering.proofs.FailureLemmas.{same_may_fail, same_place_failure, alike_failure, alike_marked, alike_renewed, alike_required}
use Rattle.tl_lowering.specs.Names.{Names, stands_for, index_of, inside, with_alias, with_variable, with_room, with_variables, in_loop, with_index, with_value, with_node}
use Rattle.tl_lowering.specs.Naming.{calculated, IsAction, assigns, writes, emits, descends, takes, frees, breaks, returns, IsThen, then, declares, IsNumber}
use Rattle.tl_lowering.specs.Reading.{IsAtOffset, at, IsTried, tried, IsVisiting, visiting, IsBlock, block, AreStatements, no_more, next, let_rest, let_told, let_else, lock_rest, lock_else, IsStatement, IsActed, plain, requires, fails, fails_with, used, IsGiven, all_given, node_given, variable_given, value_given, act, act_else, try, try_told, if, if_lock, repeat, repeat_up_to, for_each, block_alone, search as searched, breaks_with, AreLeft, none_left, next_left, AreNothing, none_more, one_more, finding_at, was_found}
use Rattle.tl_lowering.proofs.AlikeLemmas.{alike_number, alike_condition, alike_count, alike_place, same_names, alike_halved, alike_action}

-- ---- a text that has a core form is like itself

mutual
  pub block_itself : {before : List Declaration} {readers : Readers} {names : Names} {ss : List TextStatement} {a : Statement} → IsBlock before readers names ss a → AlikeStatements ss ss
  block_itself (block g i) = statements_itself g

  statements_itself : {before : List Declaration} {readers : Readers} {names : Names} {ss : List TextStatement} {xs : List Statement} → AreStatements before readers names ss xs → AlikeStatements ss ss
  statements_itself no_more = T.no_statements
  statements_itself (next s k i r m) = statement_before (T.statement refl (form_itself s)) (statements_itself r)
  statements_itself (let_told f b c n d t o e g) = statement_before (T.statement refl (subst (λ z. AlikeStatementForm z z) (sym f) (T.act T.same_action))) (block_itself e)
  statements_itself (let_rest f b c n d t e g) = statement_before (T.statement refl (subst (λ z. AlikeStatementForm z z) (sym f) (T.act T.same_action))) (block_itself e)
  statements_itself (let_else {o = o} f b c n d h l e g) =
      statement_before (T.statement refl (subst (λ z. AlikeStatementForm z z) (sym f) (T.act_else T.same_action (T.otherwise {o = o} {p = o} refl (block_itself h))))) (block_itself e)
  statements_itself (lock_rest f p o e g) = statement_before (T.statement refl (subst (λ z. AlikeStatementForm z z) (sym f) (T.act T.same_action))) (block_itself e)
  statements_itself (lock_else {o = o} f p h l e g) =
      statement_before (T.statement refl (subst (λ z. AlikeStatementForm z z) (sym f) (T.act_else T.same_action (T.otherwise {o = o} {p = o} refl (block_itself h))))) (block_itself e)

  form_itself : {before : List Declaration} {readers : Readers} {names : Names} {form : StatementForm} {a : Statement} → IsStatement before readers names form a → AlikeStatementForm form form
  form_itself (act x) = T.act T.same_action
  form_itself (act_else {o = o} x h t) = T.act_else T.same_action (T.otherwise {o = o} {p = o} refl (block_itself h))
  form_itself (try xs ys a b t) = T.try xs ys xs ys (block_itself a) (block_itself b)
  form_itself (try_told xs ys new room a b t) = T.try xs ys xs ys (block_itself a) (block_itself b)
  form_itself (if xs ys c a b) = T.if xs ys xs ys (question_itself _) (block_itself a) (block_itself b)
  form_itself (if_lock xs ys p a b) = T.if xs ys xs ys (question_itself _) (block_itself a) (block_itself b)
  form_itself (repeat xs deep c a) = T.repeat xs xs (alike_itself _) (block_itself a)
  form_itself (repeat_up_to xs deep n has turn c a) = T.repeat_at_most xs xs (alike_itself _) (alike_itself _) (block_itself a)
  form_itself (for_each xs deep new room has e c a k v) = T.for_each xs xs (alike_itself _) (block_itself a)
  form_itself (block_alone xs a) = T.block_alone xs xs (block_itself a)
  form_itself (searched turns found other ns deep room x new y z then nothing) = T.search turns found other turns found other refl (block_itself x) (block_itself y) (block_itself z)

given_itself : {before : List Declaration} {readers : Readers} {outer names : Names} {ps : List Parameter} {args : List TextExpression} {body : List TextStatement} {a : Statement} → IsGiven before readers outer names ps args body a
    → AlikeStatements body body
given_itself (all_given b) = block_itself b
given_itself (node_given argument g rest) = given_itself rest
given_itself (variable_given argument g rest) = given_itself rest
given_itself (value_given argument g rest) = given_itself rest

-- ---- parts

-- the parts of two texts, one by one, where the first one's part is like itself
abbrev pub AlikeBefore : List Declaration → List Declaration → Type 0
AlikeBefore ds es = (k : ℕ) (p q : Part) → slice_get ds k ≡ Some (D.Part p) → slice_get es k ≡ Some (D.Part q) → AlikePart p p → AlikePart p q

pub before_itself : (ds : List Declaration) → AlikeBefore ds ds
before_itself ds k p q e f itself = let both = sym e ∙ f in let same : p ≡ q = cc in subst (AlikePart p) same itself

get_taken : (ds : List Declaration) (n k : ℕ) (d : Declaration) → slice_get (take n ds) k ≡ Some d → slice_get ds k ≡ Some d
get_taken [] zero k d e = e
get_taken [] (suc n) k d e = e
get_taken (x ∷ ds) zero zero d e = cc
get_taken (x ∷ ds) zero (suc k) d e = cc
get_taken (x ∷ ds) (suc n) zero d e = e
get_taken (x ∷ ds) (suc n) (suc k) d e = get_taken ds n k d e

taken_alike : (ds es : List Declaration) (n : ℕ) → AlikeBefore ds es → AlikeBefore (take n ds) (take n es)
taken_alike ds es n parts k p q e f itself = parts k p q (get_taken ds n k (D.Part p) e) (get_taken es n k (D.Part q) f) itself

-- numbers from the first one on
data PairedValues : List TextExpression → List TextExpression → Type 0 where
  no_values : PairedValues [] []
  more_values : {es fs : List TextExpression} {e f : TextExpression} → AlikeForm e.form f.form → PairedValues es fs → PairedValues (e ∷ es) (f ∷ fs)

push_value : {es fs : List TextExpression} (e f : TextExpression) → AlikeForm e.form f.form → PairedValues es fs → PairedValues (es ++ e ∷ []) (fs ++ f ∷ [])
push_value e f x no_values = more_values {e = e} {f = f} x no_values
push_value e f x (more_values {e = a} {f = b} y h) = more_values {e = a} {f = b} y (push_value e f x h)

paired_values : {es fs : List TextExpression} → AreAlike es fs → PairedValues es fs
paired_values T.none = no_values
paired_values (T.next h x) = push_value _ _ (form_of x) (paired_values h)

-- a node that is given is the same
same_given : {outer names a b : Names} {name : Name} {e f : TextExpression} → AlikeForm e.form f.form → IsNodeGiven outer names name e a → IsNodeGiven outer names name f b → a ≡ b
same_given {outer} {names} {name = name} {e = e} {f = f} s g h =
    let forms : AlikeForm (F.Named g.called) (F.Named h.called) = subst (AlikeForm (F.Named g.called)) h.form_is (subst (λ z. AlikeForm z f.form) g.form_is s) in
    let same = same_plain (omega arith) forms in
    let called : g.called ≡ h.called = cc in
    let meanings = sym g.node_is ∙ ap (stands_for outer) called ∙ h.node_is in
    let registers : g.register ≡ h.register = cc in
    g.later_is ∙ ap (with_alias names name) registers ∙ sym h.later_is

-- a value that is given is the same
same_variable : {outer names a b : Names} {name : Name} {e f : TextExpression} → AlikeForm e.form f.form → IsVariableGiven outer names name e a → IsVariableGiven outer names name f b → a ≡ b
same_variable {outer} {names} {name = name} {e = e} {f = f} s g h =
    let forms : AlikeForm (F.Named g.called) (F.Named h.called) = subst (AlikeForm (F.Named g.called)) h.form_is (subst (λ z. AlikeForm z f.form) g.form_is s) in
    let same = same_plain (omega arith) forms in
    let called : g.called ≡ h.called = cc in
    let meanings = sym g.value_is ∙ ap (stands_for outer) called ∙ h.value_is in
    let registers : g.register ≡ h.register = cc in
    g.later_is ∙ ap (with_variable names name) registers ∙ sym h.later_is

-- ---- parts of blocks

at_of : {i j : ℕ} {a b c d : Statement} → i ≡ j → SameStatement a c → IsAtOffset i a b → IsAtOffset j c d → SameStatement b d
at_of e x at at = same_at e x

pub tried_of : {a b c d e f : Statement} → SameStatement a c → SameStatement b d → IsTried a b e → IsTried c d f → SameStatement e f
tried_of x y tried tried = same_try x y

visiting_of : {i k m n w v : ℕ} {a b e f : Statement} → m ≡ n → w ≡ v → SameStatement a b → IsVisiting i k m w a e → IsVisiting i k n v b f → SameStatement e f
visiting_of same turns x (visiting calculated then) (visiting calculated then) =
    same_let refl (same_constant refl)
    (same_repeat_up_to (same_children same) turns
    (same_sequence (same_assign refl (same_operation refl (same_value refl) (same_constant refl))) (same_lock (same_child refl same (same_value refl)) x same_fail)))

no_action : {names : Names} {action : Action} {a : Statement} → IsAction names action a → declares action ≡ true → ⊥
no_action (assigns g n c has) e = cc
no_action (writes w) e = cc
no_action (emits h) e = cc
no_action (descends a g n has) e = cc
no_action (takes g i) e = cc
no_action (frees g) e = cc
no_action (breaks a) e = cc
no_action returns e = cc

-- the actions whose failure has a code, and the use of a part
abbrev special : Action → ℕ
special (A.Require e why) = 1
special (A.Leave L.Fail) = 2
special (A.Fail e) = 3
special (A.Use name arguments) = 4
special (A.BreakWith values) = 5
special action = 0

same_special : {a b : Action} → AlikeAction a b → special a ≡ special b
same_special T.same_action = refl
same_special (T.lets x) = refl
same_special (T.assigns x) = refl
same_special (T.writes x h) = refl
same_special (T.emits x) = refl
same_special (T.requires x y) = refl
same_special (T.locks x) = refl
same_special (T.descends x) = refl
same_special (T.fails_with x) = refl
same_special (T.breaks_with x) = refl
same_special (T.uses x) = refl

plain_special : {names : Names} {action : Action} {a : Statement} → IsAction names action a → special action ≡ 0
plain_special (assigns g n c has) = refl
plain_special (writes w) = refl
plain_special (emits h) = refl
plain_special (descends a g n has) = refl
plain_special (takes g i) = refl
plain_special (frees g) = refl
plain_special (breaks a) = refl
plain_special returns = refl

abbrev acted_rank : {before : List Declaration} {readers : Readers} {names : Names} {action : Action} {a : Statement} → IsActed before readers names action a → ℕ
acted_rank (plain x) = 0
acted_rank (requires r) = 1
acted_rank (fails f) = 2
acted_rank (fails_with c f) = 3
acted_rank (used args i p g d) = 4
acted_rank (breaks_with f d n t a) = 5

acted_is : {before : List Declaration} {readers : Readers} {names : Names} {action : Action} {a : Statement} (x : IsActed before readers names action a) → special action ≡ acted_rank x
acted_is (plain x) = plain_special x
acted_is (requires r) = refl
acted_is (fails f) = refl
acted_is (fails_with c f) = refl
acted_is (used args i p g d) = refl
acted_is (breaks_with f d n t a) = refl

no_opening : {before : List Declaration} {readers : Readers} {names : Names} {action : Action} {a : Statement} → IsActed before readers names action a → declares action ≡ true → ⊥
no_opening (plain x) e = no_action x e
no_opening (requires r) e = cc
no_opening (fails f) e = cc
no_opening (fails_with c f) e = cc
no_opening (used args i p g d) e = cc
no_opening (breaks_with f d n t a) e = cc

no_statement : {before : List Declaration} {readers : Readers} {names : Names} {form : StatementForm} {a : Statement} → IsStatement before readers names form a → opens form ≡ true → ⊥
no_statement (act x) e = no_opening x e
no_statement (act_else x h t) e = no_opening x e
no_statement (try xs ys a b t) e = cc
no_statement (try_told xs ys new room a b t) e = cc
no_statement (if xs ys c a b) e = cc
no_statement (if_lock xs ys place a b) e = cc
no_statement (repeat xs deep c a) e = cc
no_statement (repeat_up_to xs deep n has turn c a) e = cc
no_statement (for_each xs deep new room has e c a k v) f = cc
no_statement (block_alone xs a) e = cc
no_statement (searched turns found other ns deep room x new y z then nothing) e = cc

same_declares : {a b : Action} → AlikeAction a b → declares a ≡ declares b
same_declares T.same_action = refl
same_declares (T.lets x) = refl
same_declares (T.assigns x) = refl
same_declares (T.writes x h) = refl
same_declares (T.emits x) = refl
same_declares (T.requires x y) = refl
same_declares (T.locks x) = refl
same_declares (T.descends x) = refl
same_declares (T.fails_with x) = refl
same_declares (T.breaks_with x) = refl
same_declares (T.uses x) = refl

same_opens : {f g : StatementForm} → AlikeStatementForm f g → opens f ≡ opens g
same_opens (T.act x) = same_declares x
same_opens (T.act_else x o) = same_declares x
same_opens (T.try a b c d x y) = refl
same_opens (T.if a b c d q x y) = refl
same_opens (T.repeat a b x y) = refl
same_opens (T.repeat_at_most a b x m y) = refl
same_opens (T.for_each a b x y) = refl
same_opens (T.block_alone a b x) = refl
same_opens (T.search a b c d e f n x y z) = refl

-- a statement that declares names for the rest of its block isn't like one that doesn't
left_opens : {before : List Declaration} {readers : Readers} {names : Names} {f g form : StatementForm} {a : Statement} → AlikeStatementForm f g → f ≡ form → opens form ≡ true → IsStatement before readers names g a → ⊥
left_opens x e o s = no_statement s (sym (same_opens x) ∙ ap opens e ∙ o)

right_opens : {before : List Declaration} {readers : Readers} {names : Names} {f g form : StatementForm} {a : Statement} → AlikeStatementForm f g → g ≡ form → opens form ≡ true → IsStatement before readers names f a → ⊥
right_opens x e o s = no_statement s (same_opens x ∙ ap opens e ∙ o)

let_or_lock : {a : Name} {x : TextExpression} {b : TextPlace} → AlikeAction (A.Let a x) (A.Lock b) → ⊥
let_or_lock s = omega (arith, same_action_rank s)

lock_or_let : {a : Name} {x : TextExpression} {b : TextPlace} → AlikeAction (A.Lock b) (A.Let a x) → ⊥
lock_or_let s = omega (arith, same_action_rank s)

asks_condition : {e f : TextExpression} → AlikeQuestion (Q.Condition e) (Q.Condition f) → AlikeForm e.form f.form
asks_condition (T.condition x) = form_of x

asks_lock : {p q : TextPlace} → AlikeQuestion (Q.Lock p) (Q.Lock q) → AlikePlace p q
asks_lock (T.lock x) = x

condition_or_lock : {e : TextExpression} {p : TextPlace} → AlikeQuestion (Q.Condition e) (Q.Lock p) → ⊥
condition_or_lock x = elim x [ ]

lock_or_condition : {e : TextExpression} {p : TextPlace} → AlikeQuestion (Q.Lock p) (Q.Condition e) → ⊥
lock_or_condition x = elim x [ ]

rest_of : {ss ts : List TextStatement} → Paired ss ts → AlikeStatements ss ts
rest_of paired_none = T.no_statements
rest_of (paired_more o x h) = statement_before (T.statement o x) (rest_of h)

alone : {a b : Statement} → SameStatement a b → AllSame (a ∷ []) (b ∷ [])
alone x = more_same x none_same

-- numbers that are alike may fail both or not at all
told_or_not : {names : Names} {x y : Form} {e f : Expression} (c : Option ℕ) {A : Type 0} → AlikeForm x y → IsNumber names x e → IsNumber names y f → is_told c (number_failure (may_fail e)) ≡ false →
    is_told c (number_failure (may_fail f)) ≡ true → A
told_or_not c s n m a b = absurd (true≢false (sym b ∙ ap (λ z. is_told c (number_failure z)) (sym (same_may_fail (alike_number s n m))) ∙ a))

not_or_told : {names : Names} {x y : Form} {e f : Expression} (c : Option ℕ) {A : Type 0} → AlikeForm x y → IsNumber names x e → IsNumber names y f → is_told c (number_failure (may_fail e)) ≡ true →
    is_told c (number_failure (may_fail f)) ≡ false → A
not_or_told c s n m a b = absurd (true≢false (sym a ∙ ap (λ z. is_told c (number_failure z)) (same_may_fail (alike_number s n m)) ∙ b))

-- numbers that a loop is left with
alike_left : {names : Names} {way other : Statement} {i : ℕ} {es fs : List TextExpression} {x y : Statement} → PairedValues es fs → SameStatement way other → AreLeft names way i es x → AreLeft names other i fs y → SameStatement x y
alike_left no_values s none_left none_left = s
alike_left {i = i} (more_values x k) s (next_left a n fits rest then) (next_left b m has more then) = same_sequence (same_assign refl (alike_number x n m)) (alike_left {i = i + 1} k s rest more)

alike_way : {i : ℕ} {w : _} {x y : Statement} → IsThen (S.Assign i (E.Constant w)) S.Break x → IsThen (S.Assign i (E.Constant w)) S.Break y → SameStatement x y
alike_way then then = same_sequence (same_assign refl (same_constant refl)) same_break

alike_nothing : {i n : ℕ} {a b x y : Statement} → SameStatement a b → AreNothing i n a x → AreNothing i n b y → SameStatement x y
alike_nothing s none_more none_more = s
alike_nothing s (one_more rest) (one_more more) = alike_nothing (same_let refl (same_constant refl) s) rest more

alike_search : (f : Finding) {a b c d x y v w : Statement} {p q u r : _} → SameStatement a x → SameStatement b y → SameStatement c v → IsThen a (S.If' (was_found f) p b q c) d → IsThen x (S.If' (was_found f) u y r v) w → SameStatement d w
alike_search f s t u then then = same_sequence s (same_if (same_equal (same_value refl) (same_constant refl)) t u)

-- ---- blocks

mutual
  pub alike_block : {before later : List Declaration} {readers : Readers} {names : Names} {ss ts : List TextStatement} {a b : Statement} → AlikeBefore before later → AlikeStatements ss ts → IsBlock before readers names ss a → IsBlock later readers names ts b → SameStatement a b
  alike_block parts s (block g i) (block h j) = alike_halved (alike_statements parts (paired s) g h) i j

  alike_statements : {before later : List Declaration} {readers : Readers} {names : Names} {ss ts : List TextStatement} {xs ys : List Statement} → AlikeBefore before later → Paired ss ts → AreStatements before readers names ss xs → AreStatements later readers names ts ys → AllSame xs ys
  alike_statements parts paired_none no_more no_more = none_same
  alike_statements parts (paired_more o x k) (next s v i r m) (next t w j q n) = more_same (at_of o (alike_marked (alike_statement parts x s t) v w) i j) (alike_statements parts k r q)
  alike_statements parts (paired_more o x k) (next s v i r m) (let_rest f b c n d told e g) = absurd (right_opens x f refl s)
  alike_statements parts (paired_more o x k) (next s v i r m) (let_else f b c n d e l h g) = absurd (right_opens x f refl s)
  alike_statements parts (paired_more o x k) (next s v i r m) (lock_rest f p out e g) = absurd (right_opens x f refl s)
  alike_statements parts (paired_more o x k) (next s v i r m) (lock_else f p e l h g) = absurd (right_opens x f refl s)
  alike_statements parts (paired_more o x k) (let_rest f b c n d told e g) (next t w j q m) = absurd (left_opens x f refl t)
  alike_statements parts (paired_more o x k) (let_else f b c n d e l h g) (next t w j q m) = absurd (left_opens x f refl t)
  alike_statements parts (paired_more o x k) (lock_rest f p out e g) (next t w j q m) = absurd (left_opens x f refl t)
  alike_statements parts (paired_more o x k) (lock_else f p e l h g) (next t w j q m) = absurd (left_opens x f refl t)
  alike_statements {before} {later} {readers} {names} parts (paired_more {ts = rest} o s k) (let_rest f b c n d told e g) (let_rest {body = body} h u v m w told2 x y) =
      let same = let_of (act_of s f h) in
      alone (at_of o (same_let refl (alike_number same.1 n m) (alike_block parts (rest_of k) e (subst (λ z. IsBlock later readers (with_value names z) rest body) (sym same.0) x))) g y)
  alike_statements {readers = readers} parts (paired_more o s k) (let_rest f b c n d told e g) (let_told h u v m w told2 x l y) = told_or_not readers.code (let_of (act_of s f h)).1 n m told told2
  alike_statements {readers = readers} parts (paired_more o s k) (let_told h u v m w told2 x l y) (let_rest f b c n d told e g) = not_or_told readers.code (let_of (act_of s h f)).1 m n told2 told
  alike_statements {before} {later} {readers} {names} parts (paired_more {ts = rest} o s k) (let_told f b c n d told out e g) (let_told {body = body} h u v m w told2 out2 x y) =
      let same = let_of (act_of s f h) in
      alone (at_of o (same_let_else refl (alike_number same.1 n m) (alike_block parts (rest_of k) e (subst (λ z. IsBlock later readers (with_value names z) rest body) (sym same.0) x))
      (alike_failure (same_constant refl) out out2)) g y)
  alike_statements parts (paired_more o s k) (let_told f b c n d told out e g) (let_else h u v m w x l i y) = absurd (no_else_needed s f h)
  alike_statements parts (paired_more o s k) (let_else f b c n d e l i g) (let_told h u v m w told2 out x y) = absurd (else_needed s f h)
  alike_statements parts (paired_more o s k) (let_told f b c n d told out e g) (lock_rest h p out2 x y) = absurd (let_or_lock (act_of s f h))
  alike_statements parts (paired_more o s k) (let_told f b c n d told out e g) (lock_else h p x l i y) = absurd (no_else_needed s f h)
  alike_statements parts (paired_more o s k) (lock_rest f p out x y) (let_told h b c n d told out2 e g) = absurd (lock_or_let (act_of s f h))
  alike_statements parts (paired_more o s k) (lock_else f p x i j y) (let_told h b c n d told out e g) = absurd (else_needed s f h)
  alike_statements parts (paired_more o x k) (next s v i r m) (let_told f b c n d told out e g) = absurd (right_opens x f refl s)
  alike_statements parts (paired_more o x k) (let_told f b c n d told out e g) (next t w j q m) = absurd (left_opens x f refl t)
  alike_statements parts (paired_more o s k) (let_rest f b c n d told e g) (let_else h u v m w x l i y) = absurd (no_else_needed s f h)
  alike_statements parts (paired_more o s k) (let_else f b c n d e l i g) (let_rest h u v m w told2 x y) = absurd (else_needed s f h)
  alike_statements {before} {later} {readers} {names} parts (paired_more {ts = rest} o s k) (let_else f b c n d e l h g) (let_else {body = body} i u v m w x q j y) =
      let both = act_else_of s f i in
      let same = let_of both.0 in
      alone (at_of o (same_let_else refl (alike_number same.1 n m) (alike_block parts (rest_of k) h (subst (λ z. IsBlock later readers (with_value names z) rest body) (sym same.0) j))
      (alike_block parts both.1 e x)) g y)
  alike_statements parts (paired_more o s k) (let_rest f b c n d told e g) (lock_rest h p out x y) = absurd (let_or_lock (act_of s f h))
  alike_statements parts (paired_more o s k) (let_rest f b c n d told e g) (lock_else h p x l i y) = absurd (no_else_needed s f h)
  alike_statements parts (paired_more o s k) (let_else f b c n d e l h g) (lock_rest i p out x y) = absurd (else_needed s f i)
  alike_statements parts (paired_more o s k) (let_else f b c n d e l h g) (lock_else i p x q j y) = absurd (let_or_lock (act_else_of s f i).0)
  alike_statements parts (paired_more o s k) (lock_rest f p out x y) (let_rest h b c n d told e g) = absurd (lock_or_let (act_of s f h))
  alike_statements parts (paired_more o s k) (lock_rest f p out x y) (let_else i b c n d e l h g) = absurd (no_else_needed s f i)
  alike_statements parts (paired_more o s k) (lock_else f p x i j y) (let_rest h b c n d told e g) = absurd (else_needed s f h)
  alike_statements parts (paired_more o s k) (lock_else f p x i j y) (let_else q b c n d e l h g) = absurd (lock_or_let (act_else_of s f q).0)
  alike_statements {before} {later} {readers} {names} parts (paired_more {ts = rest} o s k) (lock_rest f p out e g) (lock_rest {body = body} h q out2 x y) =
      let same = lock_of (act_of s f h) in
      alone (at_of o (same_lock (alike_place same p q) (alike_block parts (rest_of k) e (subst (λ z. IsBlock later readers z rest body) (sym (same_names names same)) x)) (alike_failure (same_constant (ap code_of (same_place_failure (alike_place same p q)))) out out2)) g y)
  alike_statements parts (paired_more o s k) (lock_rest f p out e g) (lock_else h q x l i y) = absurd (no_else_needed s f h)
  alike_statements parts (paired_more o s k) (lock_else f p e l h g) (lock_rest i q out x y) = absurd (else_needed s f i)
  alike_statements {before} {later} {readers} {names} parts (paired_more {ts = rest} o s k) (lock_else f p e l h g) (lock_else {body = body} i q x m j y) =
      let both = act_else_of s f i in
      let same = lock_of both.0 in
      alone (at_of o (same_lock (alike_place same p q) (alike_block parts (rest_of k) h (subst (λ z. IsBlock later readers z rest body) (sym (same_names names same)) j)) (alike_block parts both.1 e x)) g y)

  alike_statement : {before later : List Declaration} {readers : Readers} {names : Names} {form other : StatementForm} {a b : Statement} → AlikeBefore before later → AlikeStatementForm form other → IsStatement before readers names form a → IsStatement later readers names other b → SameStatement a b
  alike_statement parts s (act x) (act y) = alike_acted parts (act_of s refl refl) x y
  alike_statement parts s (act_else x g i) (act_else y h j) = let same = act_else_of s refl refl in tried_of (alike_acted parts same.0 x y) (alike_block parts same.1 g h) i j
  alike_statement parts s (act x) (act_else y h j) = absurd (no_else_needed s refl refl)
  alike_statement parts s (act_else x g i) (act y) = absurd (else_needed s refl refl)
  alike_statement parts s (try xs ys a b t) (try vs ws c d u) =
      let same = try_of xs ys vs ws s refl refl in tried_of (alike_block parts same.1 a c) (alike_block parts same.2 b d) t u
  alike_statement parts s (try xs ys a b t) (try_told vs ws new room c d u) = let same = (try_of xs ys vs ws s refl refl).0 in cc
  alike_statement parts s (try_told xs ys new room a b t) (try vs ws c d u) = let same = (try_of xs ys vs ws s refl refl).0 in cc
  alike_statement {before} {later} {readers} {names} parts s (try_told {why = why} xs ys new room a b t) (try_told {why = why'} vs ws {handler = handler} new' room' c d u) =
      let same = try_of xs ys vs ws s refl refl in
      let called : why ≡ why' = let both = same.0 in cc in
      let d' : IsBlock later readers (with_value names why) ws.items handler = subst (λ z. IsBlock later readers (with_value names z) ws.items handler) (sym called) d in
      same_let refl (same_constant refl) (tried_of (alike_block parts same.1 a c) (alike_block parts same.2 b d') t u)
  alike_statement parts s (if xs ys c a b) (if vs ws d x y) =
      let same = if_of xs ys vs ws s refl refl in same_if (alike_condition (asks_condition same.0) c d) (alike_block parts same.1 a x) (alike_block parts same.2 b y)
  alike_statement parts s (if xs ys c a b) (if_lock vs ws p x y) = absurd (condition_or_lock (if_of xs ys vs ws s refl refl).0)
  alike_statement parts s (if_lock xs ys p a b) (if vs ws d x y) = absurd (lock_or_condition (if_of xs ys vs ws s refl refl).0)
  alike_statement {before} {later} {readers} {names} parts s (if_lock xs ys p a b) (if_lock vs ws {a = c} q x y) =
      let same = if_of xs ys vs ws s refl refl in
      let place = asks_lock same.0 in
      same_lock (alike_place place p q) (alike_block parts same.1 a (subst (λ z. IsBlock later readers z vs.items c) (sym (same_names names place)) x)) (alike_block parts same.2 b y)
  alike_statement parts s (repeat xs deep c a) (repeat vs deeper d b) =
      let same = repeat_of xs vs s refl refl in same_repeat (alike_count same.0 c d) (alike_block parts same.1 a b)
  alike_statement parts s (repeat_up_to xs deep n has turn c a) (repeat_up_to vs deeper m its turns d b) =
      let same = repeat_at_most_of xs vs s refl refl in same_repeat_up_to (alike_number same.0 n m) (alike_count same.1 c d) (alike_block parts same.2 a b)
  alike_statement parts s (repeat xs deep c a) (repeat_up_to vs deeper m its turns d b) = absurd (no_most_needed xs vs s refl refl)
  alike_statement parts s (repeat_up_to xs deep n has turn c a) (repeat vs deeper d b) = absurd (most_needed xs vs s refl refl)
  alike_statement {before} {later} {readers} {names} parts s (for_each {child = name} {index = place} xs deep new room has e c a k v) (for_each {child = name'} {index = place'} vs {a = body} deeper fresh space its f d b l w) =
      let same = for_each_of xs vs s refl refl in
      let node = sym e ∙ ap (stands_for names) same.2 ∙ f in
      let called : IsBlock later readers (with_node (with_index (in_loop names) place') name) vs.items body = subst (λ z. IsBlock later readers (with_node (with_index (in_loop names) place') z) vs.items body) (sym same.0) b in
      visiting_of (cc) (alike_count same.3 c d)
      (alike_renewed (alike_block parts same.4 a (subst (λ z. IsBlock later readers (with_node (with_index (in_loop names) z) name) vs.items body) (sym same.1) called)) k l) v w
  alike_statement parts s (block_alone xs a) (block_alone vs b) = alike_block parts (block_of xs vs s refl refl) a b
  alike_statement {before} {later} {readers} {names} parts s (searched turns found other ns deep room x new y z t nothing)
      (searched turns2 found2 other2 ns2 {a = a2} {b = b2} {c = c2} {both = both2} {whole = whole2} deep2 room2 x2 new2 y2 z2 t2 nothing2) =
      let same = search_of turns found other turns2 found2 other2 s refl refl in
      let back = sym same.0 in
      let turns_are : IsBlock later (searching readers (finding_at names (length ns.items))) (with_room names (length ns.items + 1)) turns2.items a2 =
      subst (λ z. IsBlock later (searching readers (finding_at names (length z))) (with_room names (length z + 1)) turns2.items a2) back x2 in
      let found_are : IsBlock later readers (with_variables (with_room names (length ns.items + 1)) (names.values + 1) ns.items) found2.items b2 =
      subst (λ z. IsBlock later readers (with_variables (with_room names (length z + 1)) (names.values + 1) z) found2.items b2) back y2 in
      let other_are : IsBlock later readers (with_room names (length ns.items + 1)) other2.items c2 = subst (λ z. IsBlock later readers (with_room names (length z + 1)) other2.items c2) back z2 in
      let nothing_is : AreNothing names.values (length ns.items + 1) both2 whole2 = subst (λ z. AreNothing names.values (length z + 1) both2 whole2) back nothing2 in
      alike_nothing (alike_search (finding_at names (length ns.items)) (alike_block parts same.1 x turns_are) (alike_block parts same.2 y found_are) (alike_block parts same.3 z other_are) t t2) nothing nothing_is
  alike_statement parts s x y = absurd (omega (arith, same_statement_rank s))

  alike_acted : {before later : List Declaration} {readers : Readers} {names : Names} {a b : Action} {x y : Statement} → AlikeBefore before later → AlikeAction a b → IsActed before readers names a x → IsActed later readers names b y →
      SameStatement x y
  alike_acted parts s (plain x) (plain y) = alike_action s x y
  alike_acted parts s (requires r) (requires q) = let same = require_of s in alike_required same.0 same.1 r q
  alike_acted parts s (fails f) (fails g) = alike_failure (same_constant refl) f g
  alike_acted parts s (fails_with c f) (fails_with d g) = alike_failure (alike_number (fail_of s) c.number_is d.number_is) f g
  alike_acted {before} {later} {readers} {names} {y = y} parts s (used args {k = k} {p = p} i e g d) (used bs {k = l} {p = q} j f h c) =
      let same = use_of s in
      let indices = sym i ∙ ap (index_of names) same.0 ∙ j in
      let index : k ≡ l = cc in
      let there : slice_get later k ≡ Some (D.Part q) = subst (λ z. slice_get later z ≡ Some (D.Part q)) (sym index) f in
      let part : AlikePart p q = parts k p q e there (record { name = refl; parameters = refl; body = given_itself g; size = refl }) in
      let first : IsGiven (take k later) (in_part readers) names (inside k names) q.parameters.items bs.items q.body.items y =
      subst (λ z. IsGiven (take z later) (in_part readers) names (inside z names) q.parameters.items bs.items q.body.items y) (sym index) h in
      let second : IsGiven (take k later) (in_part readers) names (inside k names) p.parameters.items bs.items q.body.items y =
      subst (λ z. IsGiven (take k later) (in_part readers) names (inside k names) z bs.items q.body.items y) (sym part.parameters) first in
      alike_given (taken_alike before later k parts) (paired_values same.1) part.body g second
  alike_acted {readers = readers} {names = names} {x = x} {y = y} parts s (breaks_with {f = f} {way = way} e d n t a) (breaks_with {values = bs} {f = g} {way = way2} e2 d2 n2 t2 a2) =
      let both = sym e ∙ e2 in
      let same : f ≡ g = cc in
      let way_is : IsThen (S.Assign f.flag (E.Constant (pos 1))) S.Break way2 = subst (λ (z : Finding). IsThen (S.Assign z.flag (E.Constant (pos 1))) S.Break way2) (sym same) t2 in
      let left_is : AreLeft names way2 (f.flag + 1) bs.items y = subst (λ (z : Finding). AreLeft names way2 (z.flag + 1) bs.items y) (sym same) a2 in
      alike_left (paired_values (break_of s)) (alike_way t way_is) a left_is
  alike_acted parts s x y = absurd (omega (arith, same_special s, acted_is x, acted_is y))

  alike_given : {before later : List Declaration} {readers : Readers} {outer names : Names} {ps : List Parameter} {args bs : List TextExpression} {body other : List TextStatement} {a b : Statement} → AlikeBefore before later →
      PairedValues args bs → AlikeStatements body other → IsGiven before readers outer names ps args body a → IsGiven later readers outer names ps bs other b → SameStatement a b
  alike_given parts no_values s (all_given g) (all_given h) = alike_block parts s g h
  alike_given {later = after} {readers} {outer} parts (more_values x k) s (node_given {later = m} {parameters = ps} {a = a} argument g rest) (node_given {later = n} {arguments = bs} {body = body} {a = b} argument2 h more) =
      let same : IsGiven after readers outer m ps bs body b = subst (λ z. IsGiven after readers outer z ps bs body b) (sym (same_given x g h)) more in
      alike_given parts k s rest same
  alike_given {later = after} {readers} {outer} parts (more_values x k) s (variable_given {later = m} {parameters = ps} {a = a} argument g rest) (variable_given {later = n} {arguments = bs} {body = body} {a = b} argument2 h more) =
      let same : IsGiven after readers outer m ps bs body b = subst (λ z. IsGiven after readers outer z ps bs body b) (sym (same_variable x g h)) more in
      alike_given parts k s rest same
  alike_given {later = after} {readers} {outer} parts (more_values x k) s (value_given {later = m} {parameters = ps} argument g rest) (value_given {later = n} {arguments = bs} {body = body} {a = b} argument2 h more) =
      let same : IsGiven after readers outer m ps bs body b = subst (λ z. IsGiven after readers outer z ps bs body b) (sym (g.later_is ∙ sym h.later_is)) more in
      same_let refl (alike_number x g.number_is h.number_is) (alike_given parts k s rest same)

-- blocks of one text have one core form
pub block_once : {before : List Declaration} {readers : Readers} {names : Names} {ss : List TextStatement} {a b : Statement} → IsBlock before readers names ss a → IsBlock before readers names ss b → SameStatement a b
block_once {before} {readers} g h = alike_block (before_itself before) (block_itself g) g h

kept_once : (readers : Readers) (r : Repetition) {a b c d : Statement} → SameStatement a b → IsKept readers r a c → IsKept readers r b d → SameStatement c d
kept_once readers (R.Times w) {a = a} {d = d} s e f = subst (λ z. SameStatement z d) (sym e) (subst (λ z. SameStatement a z) (sym f) s)
kept_once readers (R.UpTo n w) {a = a} {d = d} s e f = subst (λ z. SameStatement z d) (sym e) (subst (λ z. SameStatement a z) (sym f) s)
kept_once readers (R.Children v) s e f = alike_renewed s e f

pub turn_once : {before : List Declaration} {readers : Readers} {names : Names} {r : Repetition} {ss : List TextStatement} {a b : Statement} → IsTurnBody before readers names r ss a → IsTurnBody before readers names r ss b → SameStatement a b
turn_once {readers = readers} {r = r} s t = kept_once readers r (block_once s.read_is t.read_is) s.kept_is t.kept_is
