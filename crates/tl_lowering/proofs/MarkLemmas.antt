-- A statement with a mark of its failure is well-formed and has the same paths, and so has a body with a mark behind it. A failure with a code has the paths of one without.
use Rattle.std.proofs.Common.{◌≡◌, ◌∙◌, ℕ, ℤ, ◌<◌, [], ◌∷◌, ◌++◌, Bool, true, false, Option, None, Some, refl, sym, ap, ap₂, subst, arith}
use Rattle.std.specs.Prelude.{IfSome, is_some}
use Rattle.tl_syntax.specs.declared.failure.Failure.{Failure}
use Rattle.tl_lowering.specs.declared.loops.Repetition.{Repetition}
use Rattle.tl_lowering.specs.declared.loops.Repetition.TheVariants as R
use Rattle.tl_lowering.specs.declared.paths.Flow.{Flow}
use Rattle.tl_lowering.specs.declared.paths.Held.{Held}
use Rattle.tl_lowering.specs.declared.program.Condition.{Condition}
use Rattle.tl_lowering.specs.declared.program.Expression.{Expression}
use Rattle.tl_lowering.specs.declared.program.Expression.TheVariants as E
use Rattle.tl_lowering.specs.declared.program.Statement.{Statement}
use Rattle.tl_lowering.specs.declared.program.Statement.TheVariants as S
use Rattle.tl_syntax.specs.declared.parsed.Expression.{Expression as TextExpression}
use Rattle.tl_syntax.specs.declared.parsed.Form.{Form}
use Rattle.tl_lowering.specs.Entering.{entered_of, IsEntering}
use Rattle.tl_lowering.specs.Choosing.{IsKept}
use Rattle.tl_lowering.specs.declared.readers.Readers.{Readers}
use Rattle.tl_lowering.specs.Failing.{is_told, IsFailure, bare, coded, IsRenewed, not_renewed}
use Rattle.tl_lowering.specs.Lowering.{IsRefusal}
use Rattle.tl_lowering.specs.Names.{Names}
use Rattle.tl_lowering.specs.Naming.{IsCondition, IsThen, then}
use Rattle.tl_lowering.specs.Outcomes.{may_fail, condition_may_fail, here_if, after}
use Rattle.tl_lowering.specs.Passing.{Before, then_by, failing_entered, on_entered, nowhere_entered, either_entered, entered, EntersOnce}
use Rattle.tl_lowering.specs.Paths.{Paths, nodes_of, on, nowhere, failing, keeping, outcomes, paths_of}
use Rattle.tl_lowering.specs.Reading.{IsReason, IsRequired, required}
use Rattle.tl_lowering.specs.Repeating.{IsTurn, begun, more_in}
use Rattle.tl_lowering.specs.Scopes.{View, IsLowered, is_in_loop}
use Rattle.tl_lowering.specs.Sets.{Nodes, all_of}
use Rattle.tl_lowering.specs.Sound.{IsReadable, IsTestable, IsWellFormed}
use Rattle.tl_lowering.proofs.EnterLemmas.{next_on, require_entering}
use Rattle.tl_lowering.proofs.NamingLemmas.{lowered_require}
use Rattle.tl_lowering.proofs.PathLemmas.{sequence_outcomes, then_on}

if_always : {A : Type 0} {P : A → Type 0} (o : Option A) → ((x : A) → P x) → IfSome o P
if_always None f = tt
if_always (Some x) f = f x

-- ---- a mark before a statement

pub marked_lowered : {scope : View} {held : Held} {r : ℕ} {k : ℤ} {a whole : Statement} {flow : Flow} → r < scope.values → IsThen (S.Assign r (E.Constant k)) a whole → IsLowered scope held a flow →
    IsLowered scope held whole flow
marked_lowered lt then x = record { sound = ((lt, tt), x.sound); paths = x.paths }

pub marked_entering : {e : Before} {r : ℕ} {k : ℤ} {a whole : Statement} {flow : Flow} → IsThen (S.Assign r (E.Constant k)) a whole → IsEntering e a flow → IsEntering e whole flow
marked_entering then x = record { once = (tt, x.once); paths = x.paths }

-- ---- a mark behind a body

renewed_outcomes : (p q : _) (r : ℕ) (k : ℤ) (a : Statement) (held : Nodes) → outcomes (S.Sequence' p a q (S.Assign r (E.Constant k))) held ≡ outcomes a held
renewed_outcomes p q r k a held = sequence_outcomes p q a (S.Assign r (E.Constant k)) held ∙ then_on (outcomes a held)

pub renewed_entering : {e : Before} {r : ℕ} {k : ℤ} {a whole : Statement} {flow : Flow} → IsThen a (S.Assign r (E.Constant k)) whole → IsEntering e a flow → IsEntering e whole flow
renewed_entering {e} {a = a} then x = record { once = (x.once, if_always (entered a e).after (λ f. tt)); paths = x.paths ∙ sym (next_on (entered a e)) }

in_body : {r d : ℕ} (repetition : Repetition) → r < d → r < more_in repetition d
in_body (R.Times w) lt = lt
in_body (R.UpTo e w) lt = lt
in_body (R.Children v) lt = omega (arith, lt)

pub renewed_turn : {d m : ℕ} {held : Nodes} {repetition : Repetition} {r : ℕ} {k : ℤ} {a whole : Statement} {flow : Flow} → r < d → IsThen a (S.Assign r (E.Constant k)) whole →
    IsTurn d m held repetition a flow → IsTurn d m held repetition whole flow
renewed_turn {d} {m} {held} {repetition} {r} {k} {a} {flow = flow} lt (then {p} {q}) x =
    let same = renewed_outcomes p q r k a (begun repetition held) in
    record {
      turn = record {
        sound = (x.turn.sound, if_always (after a (begun repetition held)) (λ h. (in_body repetition lt, tt)));
        kept = subst (λ (z : Paths). IfSome (keeping held z.after) (λ h. h ≡ held)) (sym same) x.turn.kept;
      };
      paths = x.paths ∙ ap (λ (z : Paths). record z { after = keeping held z.after }) (sym same);
    }

-- ---- a failure with a code

coded_outcomes : (p q : _) (r : ℕ) (x : Expression) (h : Nodes) → may_fail x ≡ false → outcomes (S.Sequence' p (S.Assign r x) q S.Fail) h ≡ outcomes S.Fail h
coded_outcomes p q r x h short = ap (λ m. record { after = None; fails = all_of (here_if m h ++ h ∷ []); breaks = None }) short

coded_entered : (p q : _) (r : ℕ) (x : Expression) (e : Before) → may_fail x ≡ false → entered (S.Sequence' p (S.Assign r x) q S.Fail) e ≡ entered S.Fail e
coded_entered p q r x e short = ap (λ m. then_by (Some e) (failing_entered m e (on_entered e)) (entered S.Fail)) short

failure_entered : {c : Option ℕ} {x : Expression} {s : Statement} → may_fail x ≡ false → IsFailure c x s → (e : Before) → entered s e ≡ entered S.Fail e
failure_entered short bare e = refl
failure_entered {x = x} short (coded {r} (then {p} {q})) e = coded_entered p q r x e short

failure_once : {c : Option ℕ} {x : Expression} {s : Statement} → IsFailure c x s → (e : Before) → EntersOnce s e
failure_once bare e = tt
failure_once (coded then) e = (tt, tt)

pub coded_refusal : {scope : View} {held : Held} {r : ℕ} {x : Expression} {whole : Statement} {flow : Flow} → r < scope.values → IsReadable scope.values (nodes_of held) x → may_fail x ≡ false → IsThen (S.Assign r x) S.Fail whole →
    paths_of flow ≡ failing nowhere (nodes_of held) → IsRefusal scope held whole flow
coded_refusal {held = held} {r} {x} lt readable short (then {p} {q}) f = record {
  lowered = record { sound = ((lt, readable), tt); paths = f ∙ sym (coded_outcomes p q r x (nodes_of held) short) };
  ends = ap (λ (p : Paths). p.after) f;
}

pub coded_entering : {e : Before} {r : ℕ} {x : Expression} {whole : Statement} {flow : Flow} → may_fail x ≡ false → IsThen (S.Assign r x) S.Fail whole → entered_of flow ≡ failing_entered true e nowhere_entered → IsEntering e whole flow
coded_entering {e} {r} {x} short (then {p} {q}) f = record { once = (tt, tt); paths = f ∙ sym (coded_entered p q r x e short) }

pub failure_lowered : {scope : View} {held : Held} {a : Statement} {flow : Flow} → IsRefusal scope held a flow → IsLowered scope held a flow
failure_lowered r = r.lowered

-- ---- whether a failure leaves its code

pub told_where_read : {c : Option ℕ} {o : Option Failure} {r : ℕ} {f : Failure} → c ≡ Some r → o ≡ Some f → is_told c o ≡ true
told_where_read e g = ap₂ is_told e g

pub untold_where_unread : {c : Option ℕ} (o : Option Failure) → c ≡ None → is_told c o ≡ false
untold_where_unread o e = ap (λ z. is_told z o) e

pub untold_where_sure : (c : Option ℕ) {o : Option Failure} → o ≡ None → is_told c o ≡ false
untold_where_sure None g = refl
untold_where_sure (Some r) g = ap is_some g

pub not_kept : (readers : Readers) (r : Repetition) (a : Statement) → readers.code ≡ None → IsKept readers r a a
not_kept readers (R.Times w) a e = refl
not_kept readers (R.UpTo n w) a e = refl
not_kept readers (R.Children v) a e = subst (λ z. IsRenewed z a a) (sym e) not_renewed

-- ---- a condition that is required

required_outcomes : (p q : _) (c : Condition) {o : Option ℕ} {x : Expression} {b : Statement} → may_fail x ≡ false → IsFailure o x b → (h : Nodes) → outcomes (S.If' c p S.Skip q S.Fail) h ≡ outcomes (S.If' c p S.Skip q b) h
required_outcomes p q c short bare h = refl
required_outcomes p q c short (coded then) h = ap (λ m. record { after = Some h; fails = all_of (here_if (condition_may_fail c) h ++ (here_if m h ++ h ∷ [])); breaks = None }) (sym short)

pub required_lowered : {scope : View} {held : Held} {p q : _} {o : Option ℕ} {x : Expression} (c : Condition) {a b other : Statement} (start : Flow) {refusal flow : Flow} → a ≡ S.Skip → b ≡ other → IsFailure o x other → may_fail x ≡ false →
    IsRefusal scope held other refusal → IsTestable scope.values (nodes_of held) c → paths_of start ≡ on (nodes_of held) → paths_of flow ≡ failing (paths_of start) (nodes_of held) → IsLowered scope held (S.If' c p a q b) flow
required_lowered {scope} {held} {p} {q} c {b = b} {other = other} start {flow = flow} skip same w short r t s e =
    subst (λ z. IsLowered scope held (S.If' c p z q b) flow) (sym skip) (subst (λ z. IsLowered scope held (S.If' c p S.Skip q z) flow) (sym same) (record {
      sound = (t, tt, r.lowered.sound);
      paths = (lowered_require scope held {p = p} {q = q} c S.Skip S.Fail start flow refl refl t s e).paths ∙ required_outcomes p q c short w (nodes_of held);
    }))

pub required_entering : {p q : _} {o : Option ℕ} {x : Expression} (e : Before) (c : Condition) {a b other : Statement} {flow : Flow} → a ≡ S.Skip → b ≡ other → IsFailure o x other → may_fail x ≡ false →
    entered_of flow ≡ failing_entered true e (on_entered e) → IsEntering e (S.If' c p a q b) flow
required_entering {p} {q} e c {b = b} {flow = flow} skip same w short f =
    subst (λ z. IsEntering e (S.If' c p z q b) flow) (sym skip) (subst (λ z. IsEntering e (S.If' c p S.Skip q z) flow) (sym same) (record {
      once = (tt, failure_once w e);
      paths = (require_entering {p = p} {q = q} e c S.Skip S.Fail refl refl f).paths ∙ ap (λ z. failing_entered (condition_may_fail c) e (either_entered (on_entered e) z)) (sym (failure_entered short w e));
    }))

pub required_of : {p q : _} {readers : Readers} {names : Names} {form : Form} {why : Option TextExpression} {c : Condition} {x : Expression} {a b other : Statement} → a ≡ S.Skip → b ≡ other → IsCondition names form c →
    IsReason names why x → IsFailure readers.code x other → IsRequired readers names form why (S.If' c p a q b)
required_of {p} {q} {readers} {names} {form} {why} {c} {a = a} {other = other} skip same condition code failure =
    subst (λ z. IsRequired readers names form why (S.If' c p a q z)) (sym same) (subst (λ z. IsRequired readers names form why (S.If' c p z q other)) (sym skip) (required condition code failure))
