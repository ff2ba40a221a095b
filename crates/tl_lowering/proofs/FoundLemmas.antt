-- Loops that are left with numbers: the values that are found, and what is done behind the loop.
use Rattle.std.proofs.Common.{◌≡◌, ◌∙◌, ℕ, suc, ◌+◌, ◌<◌, List, [], ◌∷◌, ◌++◌, length, pos, Bool, true, false, Option, None, Some, refl, sym, ap, subst, arith}
use Rattle.std.specs.Prelude.{IfSome}
use Rattle.tl_syntax.specs.declared.parsed.Name.{Name}
use Rattle.tl_syntax.specs.declared.parsed.Expression.{Expression as TextExpression}
use Rattle.tl_lowering.specs.declared.lowering.Binding.TheVariants as B
use Rattle.tl_lowering.specs.declared.paths.Flow.{Flow}
use Rattle.tl_lowering.specs.declared.paths.Held.{Held}
use Rattle.tl_lowering.specs.declared.program.Expression.{Expression}
use Rattle.tl_lowering.specs.declared.program.Expression.TheVariants as E
use Rattle.tl_lowering.specs.declared.program.Statement.{Statement}
use Rattle.tl_lowering.specs.declared.program.Statement.TheVariants as S
use Rattle.tl_lowering.specs.Blocks.{then_of}
use Rattle.tl_lowering.specs.Drafts.{Binds, binds_value}
use Rattle.tl_lowering.specs.Entering.{entered_at, entered_of, IsEntering}
use Rattle.tl_lowering.specs.Names.{Names, IsNew, with_variable, with_variables, AreFound}
use Rattle.tl_lowering.specs.Naming.{IsNumber, IsThen, then}
use Rattle.tl_lowering.specs.Outcomes.{may_fail, here_if, after, fails, breaks}
use Rattle.tl_lowering.specs.Passing.{Before, Entered, or_of, some_if, then_by, failing_entered, entered, EntersOnce}
use Rattle.tl_lowering.specs.Paths.{Paths, nodes_of, known, paths_of, failing_if, outcomes}
use Rattle.tl_lowering.specs.Reading.{AreNothing, none_more, one_more, AreLeft, none_left, next_left}
use Rattle.tl_lowering.specs.Registers.{HasTemporaries}
use Rattle.tl_lowering.specs.Scopes.{View, IsLowered, is_in_loop}
use Rattle.tl_lowering.specs.Sets.{Nodes, both_of, all_of}
use Rattle.tl_lowering.specs.Sound.{IsReadable, IsWellFormed}
use Rattle.tl_lowering.proofs.BodyLemmas.{then_flow}
use Rattle.tl_lowering.proofs.DraftLemmas.{then_at}
use Rattle.tl_lowering.proofs.EnterLemmas.{next_at, then_entered, or_none}
use Rattle.tl_lowering.proofs.PathLemmas.{sequence_outcomes}
use Rattle.tl_lowering.proofs.SetLemmas.{both_of_comm}

-- ---- names for what is found

pub none_named : {names : Names} (x : ℕ) (ns : List Name) → length ns ≡ 0 → names ≡ with_variables names x ns
none_named x [] e = refl
none_named x (n ∷ ns) e = absurd (omega (arith, e))

pub none_fresh : (names : Names) (x : ℕ) (ns : List Name) → length ns ≡ 0 → AreFound names x ns
none_fresh names x [] e = tt
none_fresh names x (n ∷ ns) e = absurd (omega (arith, e))

pub more_named : (names : Names) (x : ℕ) (n : Name) {here later : Names} {r : ℕ} {ns others : List Name} → ns ≡ n ∷ others → r ≡ x → here ≡ with_variable names n r → later ≡ with_variables here (r + 1) others
    → later ≡ with_variables names x ns
more_named names x n {r = r} {others = others} is same h l =
    l ∙ ap (λ z. with_variables z (r + 1) others) h ∙ ap (λ z. with_variables (with_variable names n z) (z + 1) others) same ∙ sym (ap (with_variables names x) is)

pub more_fresh : (names : Names) (x : ℕ) (n : Name) {here : Names} {r : ℕ} {ns others : List Name} → ns ≡ n ∷ others → r ≡ x → here ≡ with_variable names n r → IsNew names n → AreFound here (r + 1) others
    → AreFound names x ns
more_fresh names x n {r = r} {others = others} is same h new f =
    let there : AreFound (with_variable names n x) (x + 1) others =
    subst (λ z. AreFound (with_variable names n z) (z + 1) others) same (subst (λ z. AreFound z (r + 1) others) h f) in
    subst (AreFound names x) (sym is) (new, there)

-- ---- values that are 0 before a statement

pub no_zeros : {x n : ℕ} {a : Statement} → n ≡ 0 → AreNothing x n a a
no_zeros {x} {a = a} e = subst (λ n. AreNothing x n a a) (sym e) none_more

zero_before : {x n : ℕ} {a b whole : Statement} → Binds (B.Value (x + n) (E.Constant (pos 0))) a b → AreNothing x n b whole → AreNothing x (suc n) a whole
zero_before binds_value h = one_more h

pub more_zeros : {x n m r : ℕ} {a b whole : Statement} → m ≡ n + 1 → r ≡ x + n → Binds (B.Value r (E.Constant (pos 0))) a b → AreNothing x n b whole → AreNothing x m a whole
more_zeros {x} {n} {m} {a = a} {b = b} {whole = whole} more same h rest =
    let count : suc n ≡ m = omega (arith, more) in
    subst (λ z. AreNothing x z a whole) count (zero_before (subst (λ z. Binds (B.Value z (E.Constant (pos 0))) a b) same h) rest)

-- ---- numbers that a loop is left with

pub nothing_left : {names : Names} {way : Statement} (x : ℕ) (es : List TextExpression) → length es ≡ 0 → AreLeft names way x es way
nothing_left x [] e = none_left
nothing_left x (a ∷ es) e = absurd (omega (arith, e))

pub more_left : {names : Names} {way rest whole : Statement} {x r : ℕ} {e : Expression} {es others : List TextExpression} {a : TextExpression} → es ≡ a ∷ others → r ≡ x → IsNumber names a.form e → HasTemporaries e names.values
    → AreLeft names way (r + 1) others rest → IsThen (S.Assign r e) rest whole → AreLeft names way x es whole
more_left {names} {way} {whole = whole} {x} {others = others} {a = a} is same n fits more t =
    subst (λ z. AreLeft names way x z whole) (sym is) (subst (λ z. AreLeft names way z (a ∷ others) whole) same (next_left a n fits more t))

-- a number is put into a register, and then something is done
pub assigned_lowered : {scope : View} {held : Held} {r : ℕ} {e : Expression} {a whole : Statement} {flow next : Flow} → r < scope.values → IsReadable scope.values (nodes_of held) e → IsThen (S.Assign r e) a whole
    → IsLowered scope held a flow → paths_of next ≡ failing_if (may_fail e) (paths_of flow) (nodes_of held) → IsLowered scope held whole next
assigned_lowered {scope} {held} {r} {e} {a} {flow = flow} {next = next} lt readable then l f = record {
  sound = ((lt, readable), l.sound);
  paths = f ∙ ap (λ q. failing_if (may_fail e) q h) l.paths ∙ by (may_fail e);
}
  where
    h : Nodes
    h = nodes_of held

    by : (c : Bool) → failing_if c (outcomes a h) h ≡ record { after = after a h; fails = all_of (here_if c h ++ fails a h); breaks = all_of (breaks a h) }
    by true = ap (λ z. record { after = after a h; fails = z; breaks = all_of (breaks a h) }) (both_of_comm (all_of (fails a h)) (Some h))
    by false = refl

pub assigned_entering : {b : Before} {r : ℕ} {e : Expression} {a whole : Statement} {flow next : Flow} → IsThen (S.Assign r e) a whole → IsEntering b a flow → entered_of next ≡ failing_entered (may_fail e) b (entered_of flow)
    → IsEntering b whole next
assigned_entering {b} {e = e} {a = a} then l f = record {
  once = (tt, l.once);
  paths =
      f ∙ ap (failing_entered (may_fail e) b) l.paths
      ∙ ap (λ z. record { after = (entered a b).after; fails = or_of z (entered a b).fails; breaks = (entered a b).breaks }) (sym (or_none (some_if (may_fail e) b)));
}

-- ---- one statement and then another one

pub pair_lowered : {scope : View} {held behind : Held} {a b whole : Statement} {flow next both : Flow} → IsLowered scope held a flow → flow.after ≡ Some behind → IsLowered scope behind b next → IsThen a b whole
    → paths_of both ≡ record { after = known next.after; fails = both_of (known flow.fails) (known next.fails); breaks = both_of (known flow.breaks) (known next.breaks) } → IsLowered scope held whole both
pair_lowered {scope} {held} {behind} {a} {b} {flow = flow} {next = next} {both = both} l goes m (then {p} {q}) f =
    let here : known flow.after ≡ Some (nodes_of behind) = ap known goes in
    let there : after a (nodes_of held) ≡ Some (nodes_of behind) = sym (ap (λ (z : Paths). z.after) l.paths) ∙ here in
    record {
      sound = (l.sound, subst (λ o. IfSome o (λ k. IsWellFormed b scope.values scope.nodes k (is_in_loop scope))) (sym there) m.sound);
      paths =
          then_flow (outcomes a (nodes_of held)) (nodes_of behind) flow next both l.paths here f
          ∙ ap (λ z. then_of (outcomes a (nodes_of held)) (λ k. z)) m.paths ∙ sym (then_at (outcomes a (nodes_of held)) (outcomes b) (nodes_of behind) there) ∙ sym (sequence_outcomes p q a b (nodes_of held));
    }

pub pair_entering : {e c : Before} {a b whole : Statement} {flow next both : Flow} → IsEntering e a flow → entered_at flow.after ≡ Some c → IsEntering c b next → IsThen a b whole
    → entered_of both ≡ record { after = entered_at next.after; fails = or_of (entered_at flow.fails) (entered_at next.fails); breaks = or_of (entered_at flow.breaks) (entered_at next.breaks) } → IsEntering e whole both
pair_entering {e} {c} {a} {b} {flow = flow} {next = next} {both = both} x goes y then f = record {
  once = (x.once, subst (λ (z : Entered). IfSome z.after (EntersOnce b)) x.paths (subst (λ o. IfSome o (EntersOnce b)) (sym goes) y.once));
  paths =
      sym (then_entered (entered_of flow) (entered_of both) (entered_of next) c goes f) ∙ ap (λ z. then_by (entered_of flow).after (entered_of flow) (λ k. z)) y.paths
      ∙ sym (next_at (entered_of flow) (entered b) c goes) ∙ ap (λ (z : Entered). then_by z.after z (entered b)) x.paths;
}
