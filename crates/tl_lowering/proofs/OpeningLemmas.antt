-- What a `let` or a `lock` opens, and the choice between two blocks.
use Rattle.std.proofs.Common.{◌≡◌, ◌∙◌, ℕ, pos, List, [], ◌∷◌, Bool, true, false, Option, None, Some, sym, ap, subst}
use Rattle.std.specs.Prelude.{neg_ℤ}
use Rattle.tl_syntax.specs.declared.parsed.Name.{Name}
use Rattle.tl_syntax.specs.declared.parsed.Declaration.{Declaration}
use Rattle.tl_syntax.specs.declared.parsed.Statement.{Statement as TextStatement}
use Rattle.tl_syntax.specs.declared.parsed.StatementForm.{StatementForm}
use Rattle.tl_syntax.specs.declared.parsed.StatementForm.TheVariants as T
use Rattle.tl_lowering.specs.declared.lowering.Binding.{Binding}
use Rattle.tl_lowering.specs.declared.lowering.Binding.TheVariants as B
use Rattle.tl_lowering.specs.declared.lowering.Entrance.TheVariants as N
use Rattle.tl_lowering.specs.declared.program.Expression.TheVariants as E
use Rattle.tl_lowering.specs.declared.lowering.Head.TheVariants as H
use Rattle.tl_lowering.specs.declared.loops.Repetition.TheVariants as R
use Rattle.tl_lowering.specs.declared.program.Place.TheVariants as P
use Rattle.tl_syntax.specs.declared.operator.Operator.TheVariants as O
use Rattle.tl_lowering.specs.declared.naming.Locking.{Locking}
use Rattle.tl_lowering.specs.declared.paths.Flow.{Flow}
use Rattle.tl_lowering.specs.declared.program.Condition.{Condition}
use Rattle.tl_lowering.specs.declared.program.Expression.{Expression}
use Rattle.tl_lowering.specs.declared.program.Statement.{Statement}
use Rattle.tl_lowering.specs.declared.program.Statement.TheVariants as S
use Rattle.tl_lowering.specs.Names.{Names, with_value, with_place}
use Rattle.tl_lowering.specs.Naming.{IsCalculated, IsThen, with_locking}
use Rattle.tl_lowering.specs.Reading.{Leaves, IsVisiting, visiting, IsAtOffset, IsBlock, AreStatements, let_rest, let_told, let_else, lock_rest, lock_else}
use Rattle.tl_lowering.specs.Drafts.{IsOpening, opening_value, opening_nodes, IsElse, no_else, missing_else, one_else, other_of, Opens, opens_value, opens_value_told, opens_value_else, opens_nodes, opens_nodes_else, Binds, binds_value, binds_value_else, binds_nodes}
use Rattle.tl_syntax.specs.Codes.{code_of}
use Rattle.tl_syntax.specs.declared.failure.Failure.{Failure}
use Rattle.tl_syntax.specs.declared.failure.Failure.TheVariants as F
use Rattle.tl_lowering.specs.declared.readers.Readers.{Readers}
use Rattle.tl_lowering.specs.Failing.{number_failure, place_failure, is_told, IsFailure, bare}
use Rattle.tl_lowering.specs.Outcomes.{may_fail}
use Rattle.tl_lowering.specs.Choosing.{IsChosen, chosen_if, chosen_lock, IsTurning, turning_times, turning_up_to}
use Rattle.tl_lowering.proofs.JoinLemmas.{same_else}

-- ---- the choice between two statements

pub chooses_if : {p q : _} {c : Condition} {a b first second : Statement} → a ≡ first → b ≡ second → IsChosen first second (N.Condition c) (S.If' c p a q b)
chooses_if {p} {q} {c} {a} {b} {first} {second} e f =
    subst (λ z. IsChosen z second (N.Condition c) (S.If' c p a q b)) e (subst (λ z. IsChosen a z (N.Condition c) (S.If' c p a q b)) f chosen_if)

pub chooses_lock : {p q : _} (l : Locking) {a b first second : Statement} → a ≡ first → b ≡ second → IsChosen first second (N.Lock l) (S.Lock' l.place p a q b)
chooses_lock {p} {q} l {a} {b} {first} {second} e f =
    subst (λ z. IsChosen z second (N.Lock l) (S.Lock' l.place p a q b)) e (subst (λ z. IsChosen a z (N.Lock l) (S.Lock' l.place p a q b)) f chosen_lock)

-- ---- a declaration with its `else`

number_only : (b : Bool) (f : Failure) → number_failure b ≡ Some f → f ≡ F.Number
number_only true f e = cc
number_only false f e = cc

-- a failure that leaves no code
untold : (c : Option ℕ) (f : Failure) (e : Expression) → is_told c (Some f) ≡ false → IsFailure c e S.Fail
untold None f e h = bare
untold (Some r) f e h = cc

pub value_opens : {before : List Declaration} {readers : Readers} {names later : Names} {form : StatementForm} {name : Name} {x : ℕ} {e : Expression} → later ≡ with_value names name
    → IsOpening names form (H.Value name x e) → IsElse before readers names form (H.Value name x e) None → Opens before readers names form (B.Value x e) later
value_opens {before} {readers} {names} {form = form} {x = x} {e = e} l (opening_value o f g new room n has) (no_else h told) =
    subst (Opens before readers names form (B.Value x e)) (sym l) (opens_value (f ∙ ap (T.Act _) (same_else _ _ o None (sym f ∙ h))) g new room n has told)

pub value_else_opens : {before : List Declaration} {readers : Readers} {names later : Names} {form : StatementForm} {name : Name} {x : ℕ} {e : Expression} {a : Statement} {flow : Flow} → later ≡ with_value names name → Leaves a
    → IsOpening names form (H.Value name x e) → IsElse before readers names form (H.Value name x e) (Some (a, flow)) → Opens before readers names form (B.ValueElse x e a) later
value_else_opens {before} {readers} {names} {form = form} {x = x} {e = e} {a = a} l leaves (opening_value o f g new room n has) (one_else {o = other} h b) =
    subst (Opens before readers names form (B.ValueElse x e a)) (sym l) (opens_value_else (f ∙ ap (T.Act _) (same_else _ _ o (Some other) (sym f ∙ h))) g new room n has b leaves)
value_else_opens {before} {readers} {names} {form = form} {x = x} {e = e} {a = a} l leaves (opening_value o f g new room n has) (missing_else h m) =
    let failure : m.failure ≡ F.Number = number_only (may_fail e) m.failure m.failure_is in
    subst (Opens before readers names form (B.ValueElse x e a)) (sym l)
    (opens_value_told (f ∙ ap (T.Act _) (same_else _ _ o None (sym f ∙ h))) g new room n has m.told (subst (λ z. IsFailure readers.code (E.Constant (code_of z)) a) failure m.leaves_code))

pub nodes_opens : {before : List Declaration} {readers : Readers} {names later : Names} {form : StatementForm} {l : Locking} {a : Statement} (other : Option (Statement × Flow)) → later ≡ with_locking names l
    → a ≡ other_of other → Leaves a → IsOpening names form (H.Nodes l) → IsElse before readers names form (H.Nodes l) other → Opens before readers names form (B.Nodes l.place a) later
nodes_opens {before} {readers} {names} {later} {form} {l} {a} None e g leaves (opening_nodes o {text = w} f k) (no_else h told) =
    subst (Opens before readers names form (B.Nodes l.place a)) (sym (e ∙ k.names_are))
    (subst (λ z. Opens before readers names form (B.Nodes l.place z) (with_place names w)) (sym g)
    (opens_nodes (f ∙ ap (T.Act _) (same_else _ _ o None (sym f ∙ h))) k.place_is (untold readers.code (place_failure l.place) (E.Constant (code_of (place_failure l.place))) told)))
nodes_opens {before} {readers} {names} {later} {form} {l} {a} (Some (s, flow)) e g leaves (opening_nodes o {text = w} f k) (missing_else h m) =
    let failure : m.failure ≡ place_failure l.place = let is = m.failure_is in cc in
    subst (Opens before readers names form (B.Nodes l.place a)) (sym (e ∙ k.names_are))
    (subst (λ z. Opens before readers names form (B.Nodes l.place z) (with_place names w)) (sym g)
    (opens_nodes (f ∙ ap (T.Act _) (same_else _ _ o None (sym f ∙ h))) k.place_is (subst (λ z. IsFailure readers.code (E.Constant (code_of z)) s) failure m.leaves_code)))
nodes_opens {before} {readers} {names} {later} {form} {l} {a} (Some (s, flow)) e g leaves (opening_nodes o {text = w} f k) (one_else {o = other} h b) =
    subst (Opens before readers names form (B.Nodes l.place a)) (sym (e ∙ k.names_are))
    (subst (λ z. Opens before readers names form (B.Nodes l.place z) (with_place names w)) (sym g) (opens_nodes_else (f ∙ ap (T.Act _) (same_else _ _ o (Some other) (sym f ∙ h))) k.place_is b (subst Leaves g leaves)))

-- ---- and with the rest of its block

pub opens_rest : {before : List Declaration} {readers : Readers} {names inner : Names} {s : TextStatement} {rest : List TextStatement} {b : Binding} {body bound at_offset : Statement} → Opens before readers names s.form b inner
    → IsBlock before readers inner rest body → Binds b body bound → IsAtOffset s.offset bound at_offset → AreStatements before readers names (s ∷ rest) (at_offset ∷ [])
opens_rest {s = s} {body = body} {at_offset = at_offset} (opens_value {e = e} f g new room n has told) k (binds_value {p = p}) a =
    let_rest f new room n has told k (subst (λ z. IsAtOffset s.offset (S.Let' z e p body) at_offset) g a)
opens_rest {s = s} {body = body} {at_offset = at_offset} (opens_value_else {e = e} {other = other} f g new room n has o leaves) k (binds_value_else {p = p} {q = q}) a =
    let_else f new room n has o leaves k (subst (λ z. IsAtOffset s.offset (S.LetElse' z e p body q other) at_offset) g a)
opens_rest {s = s} {body = body} {at_offset = at_offset} (opens_value_told {e = e} {other = other} f g new room n has told o) k (binds_value_else {p = p} {q = q}) a =
    let_told f new room n has told o k (subst (λ z. IsAtOffset s.offset (S.LetElse' z e p body q other) at_offset) g a)
opens_rest (opens_nodes f h o) k binds_nodes a = lock_rest f h o k a
opens_rest (opens_nodes_else f h o leaves) k binds_nodes a = lock_else f h o leaves k a

-- ---- a loop over children

pub visits_of : {p q r s : _} {index child parent turns : ℕ} {body b out turn boxed loop : Statement} {next : Expression}
    → b ≡ body → out ≡ S.Fail → boxed ≡ turn → loop ≡ S.RepeatUpTo' (E.Children parent) turns s boxed
    → IsCalculated O.Add (E.Value index) (E.Constant (pos 1)) next
    → IsThen (S.Assign index next) (S.Lock' (P.Child child parent (E.Value index)) p b q out) turn
    → IsVisiting index child parent turns body (S.Let' index (E.Constant (neg_ℤ (pos 1))) r loop)
visits_of {p} {q} {r} {s} {index} {child} {parent} {turns} {body} {b} {out} {turn} {boxed} {loop} {next} e1 e2 e3 e4 c i =
    subst (λ z. IsVisiting index child parent turns body (S.Let' index (E.Constant (neg_ℤ (pos 1))) r z)) (sym (e4 ∙ ap (S.RepeatUpTo' (E.Children parent) turns s) e3))
    (visiting c
    (subst (λ z. IsThen (S.Assign index next) (S.Lock' (P.Child child parent (E.Value index)) p z q S.Fail) turn) e1
    (subst (λ z. IsThen (S.Assign index next) (S.Lock' (P.Child child parent (E.Value index)) p b q z) turn) e2 i)))

pub turns_times : {p : _} {w : ℕ} {a body : Statement} → a ≡ body → IsTurning body (R.Times w) (S.Repeat' w p a)
turns_times {p} {w} {a} e = subst (λ z. IsTurning z (R.Times w) (S.Repeat' w p a)) e turning_times

pub turns_up_to : {p : _} {x : Expression} {w : ℕ} {a body : Statement} → a ≡ body → IsTurning body (R.UpTo x w) (S.RepeatUpTo' x w p a)
turns_up_to {p} {x} {w} {a} e = subst (λ z. IsTurning z (R.UpTo x w) (S.RepeatUpTo' x w p a)) e turning_up_to
