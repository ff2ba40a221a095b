-- Statements without blocks are well-formed and have the paths of their flow.
use Rattle.std.proofs.Common.{◌≡◌, ℕ, ◌<◌, List, [], ◌∷◌, ◌++◌, Bool, true, false, Option, Some, None, refl, sym, ap, ap₂, ◌∙◌, subst, arith}
use Rattle.std.specs.Prelude.{IfSome}
use Rattle.tl_lowering.specs.declared.paths.Flow.{Flow}
use Rattle.tl_lowering.specs.declared.paths.Held.{Held}
use Rattle.tl_lowering.specs.declared.program.Condition.{Condition}
use Rattle.tl_lowering.specs.declared.program.Expression.{Expression}
use Rattle.tl_lowering.specs.declared.program.Place.{Place}
use Rattle.tl_lowering.specs.declared.program.Place.TheVariants as P
use Rattle.tl_lowering.specs.declared.program.Statement.{Statement}
use Rattle.tl_lowering.specs.declared.program.Statement.TheVariants as S
use Rattle.tl_lowering.specs.Blocks.{followed, then_of, outcomes_all, AreWellFormed, IsNext, nodes_more, AreFree}
use Rattle.tl_lowering.specs.Outcomes.{may_fail, condition_may_fail, here_if, locked}
use Rattle.tl_lowering.specs.Paths.{Paths, nodes_of, paths_of, on, nowhere, failing, failing_if}
use Rattle.tl_lowering.specs.Scopes.{View, IsLowered, is_in_loop}
use Rattle.tl_lowering.specs.Sets.{Nodes, holds, with_node, both_of, all_of}
use Rattle.tl_lowering.specs.Sound.{IsReadable, IsTestable}
use Rattle.tl_lowering.proofs.SetLemmas.{both_self, holds_other}
use Rattle.tl_lowering.proofs.PathLemmas.{outcomes_append, sound_append}

failing_paths : (b : Bool) (h : Nodes) → failing_if b (on h) h ≡ record { after = Some h; fails = all_of (here_if b h); breaks = None }
failing_paths true h = refl
failing_paths false h = refl

require_paths : (b : Bool) (h : Nodes) → failing (on h) h ≡ record { after = Some h; fails = all_of (here_if b h ++ h ∷ []); breaks = None }
require_paths true h = ap (λ z. record { after = Some h; fails = Some z; breaks = None }) (sym (both_self h))
require_paths false h = refl

-- how a flow that goes on and may fail is computed
same_failing : (b : Bool) (e : Expression) (p : Paths) (h : Nodes) (start flow : Flow) → b ≡ may_fail e → paths_of start ≡ on h → paths_of flow ≡ failing_if b (paths_of start) h
    → paths_of flow ≡ record { after = Some h; fails = all_of (here_if (may_fail e) h); breaks = None }
same_failing b e p h start flow f s t = t ∙ ap₂ (λ x y. failing_if x y h) f s ∙ failing_paths (may_fail e) h

module _ (scope : View) (held : Held) where
  pub lowered_assign : (x : ℕ) (e : Expression) (b : Bool) (start flow : Flow) → x < scope.values → IsReadable scope.values (nodes_of held) e
      → b ≡ may_fail e → paths_of start ≡ on (nodes_of held) → paths_of flow ≡ failing_if b (paths_of start) (nodes_of held) → IsLowered scope held (S.Assign x e) flow
  lowered_assign x e b start flow lt r f s t = record { sound = (lt, r); paths = same_failing b e nowhere (nodes_of held) start flow f s t }

  pub lowered_write : (n f : ℕ) (e : Expression) (b : Bool) (start flow : Flow) → holds (nodes_of held) n ≡ true → IsReadable scope.values (nodes_of held) e
      → b ≡ may_fail e → paths_of start ≡ on (nodes_of held) → paths_of flow ≡ failing_if b (paths_of start) (nodes_of held) → IsLowered scope held (S.Write n f e) flow
  lowered_write n f e b start flow h r g s t = record { sound = (h, r); paths = same_failing b e nowhere (nodes_of held) start flow g s t }

  pub lowered_require : {p : _} {q : _} (c : Condition) (a b : Statement) (start flow : Flow) → a ≡ S.Skip → b ≡ S.Fail → IsTestable scope.values (nodes_of held) c
      → paths_of start ≡ on (nodes_of held) → paths_of flow ≡ failing (paths_of start) (nodes_of held) → IsLowered scope held (S.If' c p a q b) flow
  lowered_require {p} {q} c a b start flow f g t s e =
      subst (λ z. IsLowered scope held (S.If' c p z q b) flow) (sym f) (subst (λ z. IsLowered scope held (S.If' c p S.Skip q z) flow) (sym g)
      (record { sound = (t, tt, tt); paths = e ∙ ap (λ z. failing z (nodes_of held)) s ∙ require_paths (condition_may_fail c) (nodes_of held) }))

-- ---- several values to emit

emit_more : (p : Paths) (h : Nodes) (e : Expression) → p.after ≡ Some h → failing_if (may_fail e) p h ≡ then_of p (outcomes_all (S.Emit e ∷ []))
emit_more p h e a = by p.after p.fails p.breaks (may_fail e) a
  where
    none : (o : Option Nodes) → both_of o None ≡ o
    none None = refl
    none (Some x) = refl

    by : (o f b : Option Nodes) (c : Bool) → o ≡ Some h → failing_if c (record { after = o; fails = f; breaks = b }) h
        ≡ followed o (record { after = o; fails = f; breaks = b }) (λ k. followed (Some k) (record { after = Some k; fails = all_of (here_if c k); breaks = None }) on)
    by None f b c e = cc
    by (Some k) f b true e = let g : h ≡ k = cc in ap₂ (λ x y. record { after = Some k; fails = both_of f (Some x); breaks = y }) g (sym (none b))
    by (Some k) f b false e = ap₂ (λ x y. record { after = Some k; fails = x; breaks = y }) (sym (none f)) (sym (none b))

-- the emit statements so far, and their paths
pub record AreEmitted (scope : View) (held : Held) (emits : List Statement) (flow : Flow) : Type 0 where
  pub sound : AreWellFormed emits scope.values scope.nodes (nodes_of held) (is_in_loop scope)
  pub after : (paths_of flow).after ≡ Some (nodes_of held)
  pub paths : paths_of flow ≡ outcomes_all emits (nodes_of held)

pub more_emitted : (scope : View) (held : Held) (emits : List Statement) (flow next : Flow) (e : Expression) (b : Bool) → AreEmitted scope held emits flow
    → IsReadable scope.values (nodes_of held) e → b ≡ may_fail e → paths_of next ≡ failing_if b (paths_of flow) (nodes_of held) → AreEmitted scope held (emits ++ S.Emit e ∷ []) next
more_emitted scope held emits flow next e b a r f p = record {
  sound =
      sound_append emits (S.Emit e ∷ []) scope.values scope.nodes (nodes_of held) (is_in_loop scope) a.sound
      (subst (λ o. IfSome o (λ h. AreWellFormed (S.Emit e ∷ []) scope.values scope.nodes h (is_in_loop scope))) (sym (sym (ap (λ (q : Paths). q.after) a.paths) ∙ a.after)) (r, tt));
  after = ap (λ (q : Paths). q.after) p ∙ same b (paths_of flow) ∙ a.after;
  paths =
      p ∙ ap (λ c. failing_if c (paths_of flow) (nodes_of held)) f ∙ emit_more (paths_of flow) (nodes_of held) e a.after
      ∙ ap (λ q. then_of q (outcomes_all (S.Emit e ∷ []))) a.paths ∙ sym (outcomes_append emits (S.Emit e ∷ []) (nodes_of held));
}
  where
    same : (c : Bool) (q : Paths) → (failing_if c q (nodes_of held)).after ≡ q.after
    same true q = refl
    same false q = refl

-- ---- what is locked

pub free_locked : (place : Place) (m : ℕ) (h : Nodes) → IsNext place m → AreFree m h → AreFree (nodes_more place m) (locked place h)
free_locked (P.Node n e) m h s f i le = holds_other h n i (λ e. absurd (omega arith)) ∙ f i (omega arith)
free_locked (P.Child n p e) m h s f i le = holds_other h n i (λ e. absurd (omega arith)) ∙ f i (omega arith)
free_locked (P.Pair n k p a b) m h s f i le =
    holds_other (with_node h n) k i (λ e. absurd (omega arith)) ∙ holds_other h n i (λ e. absurd (omega arith)) ∙ f i (omega arith)
