-- Writes whose numbers are computed first.
use Rattle.std.proofs.Common.{◌≡◌, ℕ, ◌+◌, ◌<◌, ◌≤◌, List, [], ◌∷◌, ◌++◌, length, Bool, true, false, Some, None, refl, sym, ap, ap₂, ◌∙◌, subst, arith}
use Rattle.std.specs.Prelude.{IfSome}
use Rattle.tl_instr.specs.declared.operand.TheConstants.{VALUE_REGISTERS}
use Rattle.std.specs.declared.vec.Vec.{Vec}
use Rattle.std.specs.declared.alloc.Global.{Global}
use Rattle.tl_syntax.specs.declared.parsed.Write.{Write}
use Rattle.tl_syntax.specs.declared.parsed.Action.TheVariants as A
use Rattle.tl_lowering.specs.declared.paths.Flow.{Flow}
use Rattle.tl_lowering.specs.declared.paths.Held.{Held}
use Rattle.tl_lowering.specs.declared.program.Expression.{Expression}
use Rattle.tl_lowering.specs.declared.program.Expression.TheVariants as E
use Rattle.tl_lowering.specs.declared.program.Statement.{Statement}
use Rattle.tl_lowering.specs.declared.program.Statement.TheVariants as S
use Rattle.tl_lowering.specs.Blocks.{IsPair, then_of}
use Rattle.tl_lowering.specs.declared.lowering.Binding.TheVariants as B
use Rattle.tl_lowering.specs.Computing.{CannotFail, IsComputed}
use Rattle.tl_lowering.specs.Drafts.{Binds, binds_value}
use Rattle.tl_lowering.specs.Entering.{before_of, entered_of, IsEntering}
use Rattle.tl_lowering.specs.Passing.{Before, Entered, then_by, failing_entered, on_entered, entered, EntersOnce}
use Rattle.tl_lowering.specs.Names.{Names}
use Rattle.tl_lowering.specs.Naming.{IsThen, then, IsUpdate, AreWritten, all_computed, next_computed, IsWritten, several_writes, IsAction, writes}
use Rattle.tl_lowering.specs.Outcomes.{may_fail, here_if, after, fails, breaks}
use Rattle.tl_lowering.specs.Paths.{Paths, nodes_of, paths_of, on, failing_if, outcomes}
use Rattle.tl_lowering.specs.Registers.{HasTemporaries}
use Rattle.tl_lowering.specs.Scopes.{View, IsLowered, is_in_loop}
use Rattle.tl_lowering.specs.Sets.{Nodes, holds, all_of}
use Rattle.tl_lowering.specs.Sound.{IsReadable, IsWellFormed}
use Rattle.tl_lowering.proofs.SetLemmas.{both_of_comm}

-- what can be read where some values have registers can be read where more have
pub readable_more : (e : Expression) (t d : ℕ) (held : Nodes) → t ≤ d → IsReadable t held e → IsReadable d held e
readable_more (E.Constant w) t d held le r = tt
readable_more (E.Value x) t d held le r = omega (arith, le, r)
readable_more (E.Field n f) t d held le r = r
readable_more (E.Children n) t d held le r = r
readable_more (E.Calculated' o p a q b) t d held le r = (readable_more a t d held le r.0, readable_more b t d held le r.1)

-- ---- what is done once all numbers are computed

pub nothing_done : (t : ℕ) (scope : View) (held : Held) → CannotFail t scope held S.Skip
nothing_done t scope held = record { sound = λ d le. tt; paths = refl; once = tt; entered = refl }

-- and then a write of the value that was computed last
pub one_more_done : {t x n k : ℕ} {scope : View} {held : Held} {done more : Statement} → x ≡ t → holds (nodes_of held) n ≡ true → CannotFail t scope held done
    → IsThen done (S.Write n k (E.Value x)) more → IsPair more done (S.Write n k (E.Value x)) → CannotFail (t + 1) scope held more
one_more_done {t} {x} {n} {k} {scope} {held} {done} e h c then pair = record {
  sound = λ d le.
      pair.sound d scope.nodes (nodes_of held) (is_in_loop scope) (c.sound d (omega (arith, le)))
      (subst (λ o. IfSome o (λ g. IsWellFormed (S.Write n k (E.Value x)) d scope.nodes g (is_in_loop scope))) (sym (ap (λ (p : Paths). p.after) c.paths)) (h, omega (arith, le, e)));
  paths = pair.paths (nodes_of held) ∙ ap (λ p. then_of p (outcomes (S.Write n k (E.Value x)))) c.paths;
  once = (c.once, subst (λ (y : Entered). IfSome y.after (λ b. EntersOnce (S.Write n k (E.Value x)) b)) (sym c.entered) tt);
  entered = ap (λ (y : Entered). then_by y.after y (entered (S.Write n k (E.Value x)))) c.entered;
}

-- with nothing left to compute, this is all
pub all_done : {t : ℕ} {scope : View} {held : Held} {done : Statement} {flow : Flow} → CannotFail t scope held done → paths_of flow ≡ on (nodes_of held)
    → IsLowered (record scope { values = t }) held done flow
all_done {t} c f = record { sound = c.sound t (omega arith); paths = f ∙ sym c.paths }

pub all_entered : {t : ℕ} {scope : View} {held : Held} {done : Statement} {flow : Flow} → CannotFail t scope held done → entered_of flow ≡ on_entered (before_of held)
    → IsEntering (before_of held) done flow
all_entered c f = record { once = c.once; paths = f ∙ sym c.entered }

-- ---- the writes of a text

pub nothing_more : {names : Names} {t : ℕ} {ws : List Write} {done : Statement} → length ws ≡ 0 → AreWritten names t ws done done
nothing_more {ws = []} e = all_computed
nothing_more {ws = w ∷ ws} e = absurd (omega (arith, e))

pub only_one : {names : Names} {w : Write} {ws : List Write} {whole : Statement} → length ws ≡ 0 → IsWritten names w [] whole → IsWritten names w ws whole
only_one {ws = []} e h = h
only_one {ws = w ∷ ws} e h = absurd (omega (arith, e))

pub more_than_one : {names : Names} {v w : Write} {vs ws : List Write} {whole : Statement} → vs ≡ w ∷ ws → AreWritten names names.values (v ∷ vs) S.Skip whole → IsWritten names v vs whole
more_than_one {names} {v} {whole = whole} e h = subst (λ z. IsWritten names v z whole) (sym e) (several_writes (subst (λ z. AreWritten names names.values (v ∷ z) S.Skip whole) e h))

pub writes_at : {names : Names} {w : Write} (ws : Vec Write Global) {slice : List Write} {whole : Statement} → slice ≡ ws.items → IsWritten names w slice whole → IsAction names (A.Write w ws) whole
writes_at {names} {w} ws {whole = whole} e h = writes (subst (λ z. IsWritten names w z whole) e h)

-- ---- one number, and what follows

-- the register x is t
in_register : {t x : ℕ} {e : Expression} {body whole : Statement} → x ≡ t → Binds (B.Value x e) body whole → Binds (B.Value t e) body whole
in_register {e = e} {body = body} {whole = whole} same b = subst (λ z. Binds (B.Value z e) body whole) same b

first_of : {names : Names} {t : ℕ} {w : Write} {ws : List Write} {e : Expression} {done more body whole : Statement} → IsComputed names t w e done more
    → AreWritten names (t + 1) ws more body → Binds (B.Value t e) body whole → AreWritten names t (w ∷ ws) done whole
first_of c rest binds_value = next_computed c.update c.apart c.room c.temporaries c.behind rest

pub writes_more : {names : Names} {t x : ℕ} {w : Write} {ws vs : List Write} {e : Expression} {done more body whole : Statement} → x ≡ t → vs ≡ w ∷ ws → IsComputed names t w e done more
    → AreWritten names (t + 1) ws more body → Binds (B.Value x e) body whole → AreWritten names t vs done whole
writes_more {names} {t} {done = done} {whole = whole} same f c rest b = subst (λ z. AreWritten names t z done whole) (sym f) (first_of c rest (in_register same b))

binding_lowered : (t : ℕ) (scope : View) (held : Held) {e : Expression} {body whole : Statement} {flow next : Flow} → Binds (B.Value t e) body whole → IsReadable scope.values (nodes_of held) e
    → scope.values ≤ t → IsLowered (record scope { values = t + 1 }) held body flow → paths_of next ≡ failing_if (may_fail e) (paths_of flow) (nodes_of held)
    → IsLowered (record scope { values = t }) held whole next
binding_lowered t scope held {e} {body} {flow = flow} {next = next} binds_value r le l f = record {
  sound = (refl, readable_more e scope.values t h le r, l.sound);
  paths = f ∙ ap (λ q. failing_if (may_fail e) q h) l.paths ∙ by (may_fail e);
}
  where
    h : Nodes
    h = nodes_of held

    by : (c : Bool) → failing_if c (outcomes body h) h ≡ record { after = after body h; fails = all_of (here_if c h ++ fails body h); breaks = all_of (breaks body h) }
    by true = ap (λ z. record { after = after body h; fails = z; breaks = all_of (breaks body h) }) (both_of_comm (all_of (fails body h)) (Some h))
    by false = refl

pub computed_lowered : (t x : ℕ) (scope : View) (held : Held) {e : Expression} {body whole : Statement} {flow next : Flow} → x ≡ t → Binds (B.Value x e) body whole → IsReadable scope.values (nodes_of held) e
    → scope.values ≤ t → IsLowered (record scope { values = t + 1 }) held body flow → paths_of next ≡ failing_if (may_fail e) (paths_of flow) (nodes_of held)
    → IsLowered (record scope { values = t }) held whole next
computed_lowered t x scope held same b r le l f = binding_lowered t scope held (in_register same b) r le l f

pub computed_entering : {t : ℕ} {a : Before} {e : Expression} {body whole : Statement} {flow next : Flow} → Binds (B.Value t e) body whole → IsEntering a body flow
    → entered_of next ≡ failing_entered (may_fail e) a (entered_of flow) → IsEntering a whole next
computed_entering {a = a} {e = e} binds_value l f = record { once = l.once; paths = f ∙ ap (failing_entered (may_fail e) a) l.paths }
