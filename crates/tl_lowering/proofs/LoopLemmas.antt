-- Loops are well-formed and have the paths of their flow.
use Rattle.std.proofs.Common.{◌≡◌, ℕ, ◌+◌, ◌<◌, [], ◌∷◌, ◌++◌, Bool, true, false, Option, Some, None, is_some, append-nil, refl, sym, ap, ap₂, ◌∙◌, subst, arith}
use Rattle.std.specs.Prelude.{IfSome, option_map, if◌then◌else◌}
use Rattle.tl_lowering.specs.declared.loops.Repetition.TheVariants as R
use Rattle.tl_lowering.specs.declared.loops.Visit.{Visit}
use Rattle.tl_lowering.specs.declared.paths.Flow.{Flow}
use Rattle.tl_lowering.specs.declared.paths.Held.{Held}
use Rattle.tl_lowering.specs.declared.program.Expression.{Expression}
use Rattle.tl_lowering.specs.declared.program.Expression.TheVariants as E
use Rattle.tl_lowering.specs.declared.program.Place.TheVariants as P
use Rattle.tl_lowering.specs.declared.program.Statement.{Statement}
use Rattle.tl_lowering.specs.declared.program.Statement.TheVariants as S
use Rattle.tl_lowering.specs.Blocks.{IsPair}
use Rattle.tl_lowering.specs.Outcomes.{may_fail, here_if, after, fails, breaks}
use Rattle.tl_lowering.specs.Paths.{Paths, nodes_of, known, paths_of, outcomes, keeping}
use Rattle.tl_lowering.specs.Repeating.{IsTurn, IsWalk}
use Rattle.tl_lowering.specs.Scopes.{View, IsLowered, is_in_loop}
use Rattle.tl_lowering.specs.Sets.{Nodes, holds, with_node, without_node, both, both_of, all_of}
use Rattle.tl_lowering.specs.Sound.{IsReadable, IsWellFormed, KeepsHeld}
use Rattle.tl_lowering.proofs.SetLemmas.{both_without, without_with, both_of_self, both_of_comm, both_of_assoc, all_of_append}
use Rattle.tl_lowering.proofs.PathLemmas.{keeping_after}

-- ---- what is left of the ways behind a loop

-- the end of a turn, if it is reached, holds what the loop began with
ended : (h : Nodes) (o : Option Nodes) → IfSome o (λ k. k ≡ h) → o ≡ (if is_some o then Some h else None)
ended h None e = refl
ended h (Some k) e = ap Some e

-- if the loop may end before its first turn, the end of a turn makes no difference
may_leave : (h : Nodes) (o b : Option Nodes) → IfSome o (λ k. k ≡ h) → both_of (Some h) (both_of o b) ≡ both_of (Some h) b
may_leave h None b e = refl
may_leave h (Some k) b e =
    ap (λ z. both_of (Some h) (both_of (Some z) b)) e ∙ sym (both_of_assoc (Some h) (Some h) b) ∙ ap (λ z. both_of z b) (both_of_self (Some h))

module _ (scope : View) (held : Held) where
  module _ (body : Statement) (flow left : Flow) (turned : Option Nodes) where
    -- `turned` is what is held after the turns
    pub lowered_repeat : {p : _} (w : ℕ) → IsTurn scope.values scope.nodes (nodes_of held) (R.Times w) body flow
        → turned ≡ both_of (known flow.after) (known flow.breaks)
        → paths_of left ≡ record { after = keeping (nodes_of held) turned; fails = known flow.fails; breaks = None }
        → IsLowered scope held (S.Repeat' w p body) left
    lowered_repeat w t e l =
        let h : Nodes = nodes_of held in
        let same : after body h ≡ keeping h (after body h) = sym (keeping_after body h) in
        let kept : IfSome (after body h) (λ k. k ≡ h) = subst (λ o. IfSome o (λ k. k ≡ h)) (sym same) t.turn.kept in
        record {
          sound = (kept, t.turn.sound);
          paths =
              l ∙ ap (λ z. record { after = keeping h z; fails = known flow.fails; breaks = None }) e
              ∙ ap (λ (q : Paths). record { after = keeping h (both_of q.after q.breaks); fails = q.fails; breaks = None }) t.paths
              ∙ ap (λ z. record { after = keeping h (both_of z (all_of (breaks body h))); fails = all_of (fails body h); breaks = None }) (sym same ∙ ended h (after body h) kept);
        }

    pub lowered_up_to : {p : _} (e : Expression) (w : ℕ) → IsReadable scope.values (nodes_of held) e → IsTurn scope.values scope.nodes (nodes_of held) (R.UpTo e w) body flow
        → turned ≡ both_of (Some (nodes_of held)) (both_of (known flow.after) (known flow.breaks))
        → paths_of left ≡ record { after = keeping (nodes_of held) turned; fails = both_of (Some (nodes_of held)) (known flow.fails); breaks = None }
        → IsLowered scope held (S.RepeatUpTo' e w p body) left
    lowered_up_to x w r t e l =
        let h : Nodes = nodes_of held in
        let same : after body h ≡ keeping h (after body h) = sym (keeping_after body h) in
        let kept : IfSome (after body h) (λ k. k ≡ h) = subst (λ o. IfSome o (λ k. k ≡ h)) (sym same) t.turn.kept in
        record {
          sound = (r, kept, t.turn.sound);
          paths =
              l ∙ ap (λ z. record { after = keeping h z; fails = both_of (Some h) (known flow.fails); breaks = None }) e
              ∙ ap (λ (q : Paths). record { after = keeping h (both_of (Some h) (both_of q.after q.breaks)); fails = both_of (Some h) q.fails; breaks = None }) t.paths
              ∙ ap (λ z. record { after = keeping h z; fails = both_of (Some h) (all_of (fails body h)); breaks = None })
              (may_leave h (keeping h (after body h)) (all_of (breaks body h)) t.turn.kept);
        }

    pub lowered_walk : (v : Visit) (whole : Statement) → IsWalk scope.values scope.nodes (nodes_of held) (is_in_loop scope) v.child body whole
        → IsTurn scope.values scope.nodes (nodes_of held) (R.Children v) body flow
        → turned ≡ both_of (Some (nodes_of held)) (both_of (known flow.after) (known flow.breaks))
        → paths_of left ≡ record { after = keeping (nodes_of held) turned; fails = both_of (Some (nodes_of held)) (known flow.fails); breaks = None }
        → IsLowered scope held whole left
    lowered_walk v whole k t e l =
        let h : Nodes = nodes_of held in
        let inside : Nodes = with_node h v.child in
        record {
          sound = k.sound;
          paths =
              l ∙ ap (λ z. record { after = keeping h z; fails = both_of (Some h) (known flow.fails); breaks = None }) e
              ∙ ap (λ (q : Paths). record { after = keeping h (both_of (Some h) (both_of q.after q.breaks)); fails = both_of (Some h) q.fails; breaks = None }) t.paths
              ∙ ap (λ z. record { after = keeping h z; fails = both_of (Some h) (all_of (fails body inside)); breaks = None })
              (may_leave h (keeping h (after body inside)) (all_of (breaks body inside)) t.turn.kept)
              ∙ sym k.paths;
        }

-- ---- all children one after another

-- a child's register is empty again after the body
given_up : (h : Nodes) (n : ℕ) (o : Option Nodes) → keeping (with_node h n) o ≡ o → holds h n ≡ false → IfSome (keeping h o) (λ k. k ≡ h)
    → KeepsHeld (option_map (λ a. without_node a n) (both_of o None)) h
given_up h n None e f k = tt
given_up h n (Some a) e f k =
    let w : both a (with_node h n) ≡ a = cc in sym (without_with a h n w) ∙ both_without a h n f ∙ k

walk_fails : (h : Nodes) (f : Option Nodes) → both_of (Some h) (both_of (Some h) (both_of f (Some h))) ≡ both_of (Some h) f
walk_fails h f = ap (λ z. both_of (Some h) (both_of (Some h) z)) (both_of_comm f (Some h)) ∙ ap (both_of (Some h)) (twice f) ∙ twice f
  where
    twice : (f : Option Nodes) → both_of (Some h) (both_of (Some h) f) ≡ both_of (Some h) f
    twice f = sym (both_of_assoc (Some h) (Some h) f) ∙ ap (λ z. both_of z f) (both_of_self (Some h))

pub walk : (p1 p2 p3 p4 : _) (c : _) (w : ℕ) (d m : ℕ) (h : Nodes) (in_loop : Bool) (x n parent : ℕ) (next : Expression) (body turn : Statement)
    → IsPair turn (S.Assign x next) (S.Lock' (P.Child n parent (E.Value x)) p3 body p4 S.Fail)
    → x ≡ d → n ≡ m → holds h n ≡ false → holds h parent ≡ true → IsReadable (d + 1) h next → may_fail next ≡ true
    → IsWellFormed body (d + 1) (m + 1) (with_node h n) true → IfSome (keeping h (after body (with_node h n))) (λ k. k ≡ h)
    → IsWalk d m h in_loop n body (S.Let' x (E.Constant c) p1 (S.RepeatUpTo' (E.Children parent) w p2 turn))
walk p1 p2 p3 p4 c w d m h in_loop x n parent next body turn tp xd nm empty has readable unsure sound kept = record {
  sound = (xd, tt, (has, subst (λ o. KeepsHeld o h) (sym turn_after) (given_up h n (after body inside) (keeping_after body inside) empty kept), turn_sound));
  paths = whole_paths;
}
  where
    inside : Nodes
    inside = with_node h n

    turn_paths : outcomes turn h ≡ record {
      after = option_map (λ a. without_node a n) (both_of (after body inside) None);
      fails = both_of (all_of (here_if (may_fail next) h)) (all_of (fails body inside ++ h ∷ []));
      breaks = all_of (breaks body inside ++ []);
    }
    turn_paths = tp.paths h

    turn_after : after turn h ≡ option_map (λ a. without_node a n) (both_of (after body inside) None)
    turn_after = ap (λ (q : Paths). q.after) turn_paths

    turn_sound : IsWellFormed turn (d + 1) m h true
    turn_sound = tp.sound (d + 1) m h true (below, readable) ((empty, has, below), subst (λ k. IsWellFormed body (d + 1) k inside true) (omega arith) sound, tt)
      where
        below : x < d + 1
        below = omega arith

    turn_fails : all_of (fails turn h) ≡ both_of (Some h) (both_of (all_of (fails body inside)) (Some h))
    turn_fails = ap (λ (q : Paths). q.fails) turn_paths ∙ ap₂ (λ b f. both_of (all_of (here_if b h)) f) unsure (all_of_append (fails body inside) (h ∷ []))

    turn_breaks : all_of (breaks turn h) ≡ all_of (breaks body inside)
    turn_breaks = ap (λ (q : Paths). q.breaks) turn_paths ∙ ap all_of (append-nil (breaks body inside))

    whole_paths : outcomes (S.Let' x (E.Constant c) p1 (S.RepeatUpTo' (E.Children parent) w p2 turn)) h
        ≡ record { after = keeping h (both_of (Some h) (all_of (breaks body inside))); fails = both_of (Some h) (all_of (fails body inside)); breaks = None }
    whole_paths =
        ap₂ (λ b f. record { after = keeping h (both_of (Some h) b); fails = both_of (Some h) f; breaks = None }) turn_breaks turn_fails
        ∙ ap (λ f. record { after = keeping h (both_of (Some h) (all_of (breaks body inside))); fails = f; breaks = None }) (walk_fails h (all_of (fails body inside)))

-- ---- the same of what lies in boxes

pub repeat_of : {p : _} (scope : View) (held : Held) (body : Statement) (flow left : Flow) (turned : Option Nodes) (w : ℕ) (a : Statement) → a ≡ body → IsTurn scope.values scope.nodes (nodes_of held) (R.Times w) body flow
    → turned ≡ both_of (known flow.after) (known flow.breaks)
    → paths_of left ≡ record { after = keeping (nodes_of held) turned; fails = known flow.fails; breaks = None } → IsLowered scope held (S.Repeat' w p a) left
repeat_of {p} scope held body flow left turned w a e t f l = subst (λ z. IsLowered scope held (S.Repeat' w p z) left) (sym e) (lowered_repeat scope held body flow left turned w t f l)

pub up_to_of : {p : _} (scope : View) (held : Held) (body : Statement) (flow left : Flow) (turned : Option Nodes) (x : Expression) (w : ℕ) (a : Statement) → a ≡ body → IsReadable scope.values (nodes_of held) x
    → IsTurn scope.values scope.nodes (nodes_of held) (R.UpTo x w) body flow → turned ≡ both_of (Some (nodes_of held)) (both_of (known flow.after) (known flow.breaks))
    → paths_of left ≡ record { after = keeping (nodes_of held) turned; fails = both_of (Some (nodes_of held)) (known flow.fails); breaks = None } → IsLowered scope held (S.RepeatUpTo' x w p a) left
up_to_of {p} scope held body flow left turned x w a e r t f l = subst (λ z. IsLowered scope held (S.RepeatUpTo' x w p z) left) (sym e) (lowered_up_to scope held body flow left turned x w r t f l)

pub walk_of : (p1 p2 p3 p4 : _) (c : _) (w : ℕ) (d m : ℕ) (h : Nodes) (in_loop : Bool) (x n parent : ℕ) (next : Expression) (body turn turns inner bodied out : Statement)
    → IsPair turn (S.Assign x next) (S.Lock' (P.Child n parent (E.Value x)) p3 bodied p4 out)
    → turns ≡ S.RepeatUpTo' (E.Children parent) w p2 inner → inner ≡ turn → bodied ≡ body → out ≡ S.Fail
    → x ≡ d → n ≡ m → holds h n ≡ false → holds h parent ≡ true → IsReadable (d + 1) h next → may_fail next ≡ true
    → IsWellFormed body (d + 1) (m + 1) (with_node h n) true → IfSome (keeping h (after body (with_node h n))) (λ k. k ≡ h)
    → IsWalk d m h in_loop n body (S.Let' x (E.Constant c) p1 turns)
walk_of p1 p2 p3 p4 c w d m h in_loop x n parent next body turn turns inner bodied out tp e1 e2 e3 e4 xd nm empty has readable unsure sound kept =
    subst (λ z. IsWalk d m h in_loop n body (S.Let' x (E.Constant c) p1 z)) (sym (e1 ∙ ap (λ t. S.RepeatUpTo' (E.Children parent) w p2 t) e2))
    (walk p1 p2 p3 p4 c w d m h in_loop x n parent next body turn
    (subst (λ z. IsPair turn (S.Assign x next) z) (ap₂ (λ a b. S.Lock' (P.Child n parent (E.Value x)) p3 a p4 b) e3 e4) tp)
    xd nm empty has readable unsure sound kept)
