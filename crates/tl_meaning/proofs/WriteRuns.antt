-- Several writes in one statement that fail have done nothing.
use Rattle.std.proofs.Common.{◌≡◌, ℕ, zero, suc, ◌<◌, List, [], ◌∷◌, Bool, true, false, Option, Some, None, refl, sym, ap, ◌∙◌, subst}
use Rattle.std.specs.Prelude.{ℤ, IfSome, is_some, map, get_or}
use Rattle.tl_instr.specs.declared.operand.TheConstants.{NODE_REGISTERS}
use Rattle.tl_syntax.specs.declared.parsed.Write.{Write}
use Rattle.tl_machine.specs.Runs.{Held, State}
use Rattle.tl_machine.specs.Alone.{value, node, with_value}
use Rattle.tl_lowering.specs.declared.program.Expression.TheVariants as E
use Rattle.tl_lowering.specs.declared.program.Statement.{Statement}
use Rattle.tl_lowering.specs.declared.program.Statement.TheVariants as S
use Rattle.tl_lowering.specs.Names.{Names}
use Rattle.tl_lowering.specs.Naming.{then, AreWritten, all_computed, next_computed}
use Rattle.tl_lowering.specs.Outcomes.{next, after}
use Rattle.tl_lowering.specs.Sets.{Nodes, holds}
use Rattle.tl_lowering.specs.Sound.{IsWellFormed}
use Rattle.tl_meaning.specs.Meaning.{Ending, On, Breaks, Fails, Returns, Done, given, and_then, held_at, leave_to, leaving, write, number, behaviour}
use Rattle.tl_meaning.proofs.ReleaseRuns.{leave_on}

-- it goes on, and holds what it held
record GoesOn (d : Done) (s : State) : Type 0 where
  on : d.outcome ≡ On
  nodes : d.state.nodes ≡ s.nodes

then_out : (d : Done) (f : State → Done) → d.outcome ≡ On → (and_then d f).outcome ≡ (f d.state).outcome
then_out d f e = rw e refl

then_goes : (d : Done) (more : State → Done) (s : State) → GoesOn d s → GoesOn (more d.state) d.state → GoesOn (and_then d more) s
then_goes d more s g h = record { on = rw g.on h.on; nodes = rw g.on (h.nodes ∙ g.nodes) }

-- ---- writes of values

write_goes : (f : ℕ) (x : ℤ) (o : Option Held) (s : State) → is_some o ≡ true → GoesOn (write f x o s) s
write_goes f x None s e = cc
write_goes f x (Some h) s e = record { on = refl; nodes = refl }

holding : (l : List (Option Held)) (n : ℕ) → get_or (map is_some l) n false ≡ true → is_some (get_or l n None) ≡ true
holding [] n e = cc
holding (o ∷ l) zero e = e
holding (o ∷ l) (suc n) e = holding l n e

-- what is done behind the numbers
data OnlyWrites : Statement → Type 0 where
  nothing : OnlyWrites S.Skip
  one_more : {p q : _} {a : Statement} {n k x : ℕ} → OnlyWrites a → OnlyWrites (S.Sequence' p a q (S.Write n k (E.Value x)))

writes_go : (parents : List ℕ) {a : Statement} → OnlyWrites a → (d m : ℕ) (held : Nodes) (in_loop : Bool) (s : State) → held_at s ≡ held → IsWellFormed a d m held in_loop
    → GoesOn (behaviour parents a s) s × (after a held ≡ Some held)
writes_go parents nothing d m held in_loop s e sound = (record { on = refl; nodes = refl }, refl)
writes_go parents (one_more {a = a} {n = n} {k = k} {x = x} w) d m held in_loop s e sound =
    let first = writes_go parents w d m held in_loop s e sound.0 in
    let u : State = (behaviour parents a s).state in
    let here : (holds held n ≡ true) × (x < d) = subst (λ o. IfSome o (λ h. (holds h n ≡ true) × (x < d))) first.1 sound.1 in
    let there : holds (held_at u) n ≡ true = ap (λ l. holds (map is_some l) n) first.0.nodes ∙ ap (λ h. holds h n) e ∙ here.0 in (
      then_goes (behaviour parents a s) (behaviour parents (S.Write n k (E.Value x))) s first.0 (write_goes k (value u x) (node u n) u (holding u.nodes n there)),
      ap (λ o. next o (after (S.Write n k (E.Value x)))) first.1,
    )

-- ---- the numbers

left_goes : (kept : Option Nodes) (s : State) → (leave_to kept s).outcome ≡ On
left_goes None s = refl
left_goes (Some kept) s = leave_on NODE_REGISTERS kept s

-- what fails where its block is left has failed before
left : (kept : Option Nodes) (d : Done) → (leaving kept d).outcome ≡ Fails → (d.outcome ≡ Fails) × ((leaving kept d).events ≡ d.events)
left kept d e = by d.outcome refl
  where
    by : (o : Ending) → d.outcome ≡ o → (d.outcome ≡ Fails) × ((leaving kept d).events ≡ d.events)
    by On is = let on = sym (then_out d (leave_to kept) is ∙ left_goes kept d.state) ∙ e in cc
    by Breaks is = let out : d.outcome ≡ Fails = sym (rw is refl) ∙ e in (out, rw is refl)
    by Fails is = (is, rw is refl)
    by Returns is = let out : d.outcome ≡ Fails = sym (rw is refl) ∙ e in (out, rw is refl)

failed_writes : (parents : List ℕ) {names : Names} {t : ℕ} {ws : List Write} {done whole : Statement} → AreWritten names t ws done whole → OnlyWrites done → (m : ℕ) (in_loop : Bool) (s : State)
    → IsWellFormed whole t m (held_at s) in_loop → (behaviour parents whole s).outcome ≡ Fails → (behaviour parents whole s).events ≡ []
failed_writes parents {t = t} all_computed w m in_loop s sound e = let on = sym (writes_go parents w t m (held_at s) in_loop s refl sound).0.on ∙ e in cc
failed_writes parents (next_computed {t = t} {e = x} {body = body} u apart lt has then rest) w m in_loop s sound e =
    let before = left _ (given (number parents x s) s (λ v. behaviour parents body (with_value s t v))) e in
    before.1 ∙ by (number parents x s) (λ v f. failed_writes parents rest (one_more w) m in_loop (with_value s t v) sound.2 f) before.0
  where
    by : (o : Option ℤ) → ((v : ℤ) → (behaviour parents body (with_value s t v)).outcome ≡ Fails → (behaviour parents body (with_value s t v)).events ≡ [])
        → (given o s (λ v. behaviour parents body (with_value s t v))).outcome ≡ Fails → (given o s (λ v. behaviour parents body (with_value s t v))).events ≡ []
    by None more f = refl
    by (Some v) more f = more v f

pub several_fail : (names : Names) (t : ℕ) (ws : List Write) (whole : Statement) (m : ℕ) (in_loop : Bool) (parents : List ℕ) (s : State) → AreWritten names t ws S.Skip whole
    → IsWellFormed whole t m (held_at s) in_loop → (behaviour parents whole s).outcome ≡ Fails → (behaviour parents whole s).events ≡ []
several_fail names t ws whole m in_loop parents s a sound e = failed_writes parents a nothing m in_loop s sound e
