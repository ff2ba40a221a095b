-- Statements with blocks are well-formed and have the paths of their flow.
use Rattle.std.proofs.Common.{◌≡◌, ℕ, ◌+◌, List, ◌++◌, length, take, drop, Bool, true, false, Option, Some, None, refl, sym, ap, ap₂, ◌∙◌, subst, arith}
use Rattle.std.specs.Prelude.{IfSome, option_map}
use Rattle.std.proofs.Math.Seq.{take-length, drop-length}
use Rattle.tl_lowering.specs.declared.lowering.Binding.TheVariants as B
use Rattle.tl_lowering.specs.declared.paths.Flow.{Flow}
use Rattle.tl_lowering.specs.declared.paths.Held.{Held}
use Rattle.tl_lowering.specs.declared.program.Condition.{Condition}
use Rattle.tl_lowering.specs.declared.program.Expression.{Expression}
use Rattle.tl_lowering.specs.declared.program.Place.{Place}
use Rattle.tl_lowering.specs.declared.program.Statement.{Statement}
use Rattle.tl_lowering.specs.declared.program.Statement.TheVariants as S
use Rattle.tl_syntax.specs.declared.token.Symbol.{Symbol}
use Rattle.tl_instr.specs.declared.operand.Field.{Field}
use Rattle.tl_lowering.specs.declared.scope.Meaning.{Meaning}
use Rattle.tl_lowering.specs.Blocks.{IsAttempt, binding_paths, IsNext, nodes_more, AreFree}
use Rattle.tl_lowering.specs.Lowering.{IsRefusal}
use Rattle.tl_lowering.specs.Outcomes.{may_fail, condition_may_fail, here_if, locked, unlocked, handled_by, after, fails, breaks}
use Rattle.tl_lowering.specs.Paths.{Paths, nodes_of, known, paths_of, outcomes, on, nowhere, failing, failing_if, either, with_handler, keeping}
use Rattle.tl_lowering.specs.Scopes.{View, IsInUse, IsAt, IsLowered, Extends, is_in_loop, forget}
use Rattle.tl_lowering.specs.Sets.{Nodes, holds, with_node, both, both_of, all_of}
use Rattle.tl_lowering.specs.Sound.{IsTestable, IsLockable, IsWellFormed}
use Rattle.tl_lowering.proofs.BlockLemmas.{keeping_unlocked, next_nodes}
use Rattle.tl_lowering.proofs.NamingLemmas.{free_locked}
use Rattle.tl_lowering.proofs.PathLemmas.{keeping_after}
use Rattle.tl_lowering.proofs.SetLemmas.{holds_other, within_falls, both_within, both_of_assoc, all_of_append, keeping_both}

-- ---- what holds at a place

-- fewer nodes are held
pub at_fewer : (scope : View) (held : Held) (h : Nodes) (o : Option Held) → IsInUse scope → AreFree scope.nodes h → keeping h (known o) ≡ known o → IfSome o (IsAt scope)
at_fewer scope held h None names free e = tt
at_fewer scope held h (Some k) names free e = let w : both (nodes_of k) h ≡ nodes_of k = cc in record { names = names; nodes = λ n le. within_falls (nodes_of k) h n w (free n le) }

-- after a statement
pub at_behind : (scope : View) (held : Held) (s : Statement) (flow : Flow) → IsAt scope held → IsLowered scope held s flow → IfSome flow.after (IsAt scope)
at_behind scope held s flow a l =
    let e : known flow.after ≡ after s (nodes_of held) = ap (λ (p : Paths). p.after) l.paths in
    at_fewer scope held (nodes_of held) flow.after a.names a.nodes (ap (keeping (nodes_of held)) e ∙ keeping_after s (nodes_of held) ∙ sym e)

-- exactly these nodes are held
pub at_exactly : (scope : View) (h : Nodes) (o : Option Held) → IsInUse scope → AreFree scope.nodes h → known o ≡ Some h → IfSome o (IsAt scope)
at_exactly scope h None names free e = tt
at_exactly scope h (Some k) names free e = let w : nodes_of k ≡ h = cc in record { names = names; nodes = λ n le. rw w (free n le) }

-- at the start of a handler
pub at_handler : (scope : View) (held start : Held) (o : Option Nodes) → IsAt scope held → nodes_of start ≡ handled_by (nodes_of held) o → IsAt scope start
at_handler scope held start o a e = record { names = a.names; nodes = λ n le. rw e (by o n (a.nodes n le)) }
  where
    by : (o : Option Nodes) (n : ℕ) → holds (nodes_of held) n ≡ false → holds (handled_by (nodes_of held) o) n ≡ false
    by None n f = f
    by (Some k) n f = within_falls (both k (nodes_of held)) (nodes_of held) n (both_within k (nodes_of held)) f

-- ---- a declaration

pub value_paths : (x : ℕ) (e : Expression) (b : Bool) (held : Held) (start flow : Flow) → b ≡ may_fail e → paths_of start ≡ on (nodes_of held) → paths_of flow ≡ failing_if b (paths_of start) (nodes_of held)
    → paths_of flow ≡ binding_paths (B.Value x e) (nodes_of held)
value_paths x e b held start flow f s p = p ∙ ap₂ (λ c q. failing_if c q (nodes_of held)) f s

value_after : (b : Bool) (h : Nodes) → (failing_if b (on h) h).after ≡ Some h
value_after true h = refl
value_after false h = refl

pub value_behind : (x : ℕ) (e : Expression) (h : Nodes) (flow : Flow) → paths_of flow ≡ binding_paths (B.Value x e) h → known flow.after ≡ Some h
value_behind x e h flow p = ap (λ (q : Paths). q.after) p ∙ value_after (may_fail e) h

-- a missing `else` fails
pub fail_refuses : (scope : View) (held : Held) (start flow : Flow) → paths_of start ≡ nowhere → paths_of flow ≡ failing (paths_of start) (nodes_of held) → IsRefusal scope held S.Fail flow
fail_refuses scope held start flow s p =
    let e : paths_of flow ≡ record { after = None; fails = Some (nodes_of held); breaks = None } = p ∙ ap (λ q. failing q (nodes_of held)) s in
    record { lowered = record { sound = tt; paths = e }; ends = ap (λ (q : Paths). q.after) e }

pub refusal_ends : (scope : View) (held : Held) (s : Statement) (flow : Flow) → IsRefusal scope held s flow → after s (nodes_of held) ≡ None
refusal_ends scope held s flow r = sym (ap (λ (q : Paths). q.after) r.lowered.paths) ∙ r.ends

-- ---- a choice

choice_fails : (b : Bool) (h : Nodes) (x y : List Nodes) → both_of (both_of (failing_if b nowhere h).fails (all_of x)) (all_of y) ≡ all_of (here_if b h ++ (x ++ y))
choice_fails true h x y = both_of_assoc (Some h) (all_of x) (all_of y) ∙ ap (both_of (Some h)) (sym (all_of_append x y))
choice_fails false h x y = sym (all_of_append x y)

choice_others : (b : Bool) (h : Nodes) → (failing_if b nowhere h).after ≡ None
choice_others true h = refl
choice_others false h = refl

choice_breaks : (b : Bool) (h : Nodes) → (failing_if b nowhere h).breaks ≡ None
choice_breaks true h = refl
choice_breaks false h = refl

module _ (scope : View) (held : Held) (first second : Statement) (one other : Flow) where
  pub chosen_if : {p : _} {q : _} (c : Condition) (tested middle flow : Flow) → IsTestable scope.values (nodes_of held) c → IsLowered scope held first one → IsLowered scope held second other
      → paths_of tested ≡ failing_if (condition_may_fail c) nowhere (nodes_of held) → paths_of middle ≡ either (paths_of tested) (paths_of one) → paths_of flow ≡ either (paths_of middle) (paths_of other)
      → IsLowered scope held (S.If' c p first q second) flow
  chosen_if c tested middle flow t l m e f g =
      let h : Nodes = nodes_of held in let b : Bool = condition_may_fail c in
      record {
        sound = (t, l.sound, m.sound);
        paths =
            g ∙ ap₂ either (f ∙ ap₂ either e l.paths) m.paths
            ∙ ap₂ (λ x y. record { after = both_of (both_of x (after first h)) (after second h); fails = both_of (both_of (failing_if b nowhere h).fails (all_of (fails first h))) (all_of (fails second h)); breaks = both_of (both_of y (all_of (breaks first h))) (all_of (breaks second h)) })
            (choice_others b h) (choice_breaks b h)
            ∙ ap₂ (λ x y. record { after = both_of (after first h) (after second h); fails = x; breaks = y }) (choice_fails b h (fails first h) (fails second h)) (sym (all_of_append (breaks first h) (breaks second h)));
      }

  pub chosen_lock : {p : _} {q : _} (place : Place) (kept flow : Flow) → IsAt scope held → IsLockable place scope.values (nodes_of held) → IsNext place scope.nodes
      → IsWellFormed first scope.values (nodes_more place scope.nodes) (locked place (nodes_of held)) (is_in_loop scope) → paths_of one ≡ outcomes first (locked place (nodes_of held)) → IsLowered scope held second other
      → paths_of kept ≡ record (paths_of one) { after = keeping (nodes_of held) (paths_of one).after } → paths_of flow ≡ either (paths_of kept) (paths_of other)
      → IsLowered scope held (S.Lock' place p first q second) flow
  chosen_lock {p} {q} place kept flow a lockable next s l m k f =
      let h : Nodes = nodes_of held in let inside : Nodes = locked place h in
      let behind : both_of (keeping h (after first inside)) (after second h) ≡ option_map (unlocked place) (both_of (after first inside) (after second h)) =
      ap (both_of (keeping h (after first inside))) (sym (keeping_after second h)) ∙ sym (keeping_both h (after first inside) (after second h))
      ∙ sym (keeping_unlocked place scope.nodes h (both_of (after first inside) (after second h)) next a.nodes) ∙ keeping_after (S.Lock' place p first q second) h in
      record {
        sound = (lockable, subst (λ n. IsWellFormed first scope.values n inside (is_in_loop scope)) (next_nodes place scope.nodes next) s, m.sound);
        paths =
            f ∙ ap₂ either (k ∙ ap (λ (z : Paths). record z { after = keeping h z.after }) l) m.paths
            ∙ ap (λ z. record { after = z; fails = both_of (all_of (fails first inside)) (all_of (fails second h)); breaks = both_of (all_of (breaks first inside)) (all_of (breaks second h)) }) behind
            ∙ ap₂ (λ x y. record { after = option_map (unlocked place) (both_of (after first inside) (after second h)); fails = x; breaks = y }) (sym (all_of_append (fails first inside) (fails second h))) (sym (all_of_append (breaks first inside) (breaks second h)));
      }

-- ---- a handler

pub handled_lowered : (scope : View) (held start : Held) (body handler whole : Statement) (flow other both : Flow) → IsLowered scope held body flow → nodes_of start ≡ handled_by (nodes_of held) (known flow.fails)
    → IsLowered scope start handler other → IsAttempt whole body handler → paths_of both ≡ with_handler (paths_of flow) (paths_of other) → IsLowered scope held whole both
handled_lowered scope held start body handler whole flow other both l e m w p =
    let h : Nodes = nodes_of held in
    let s : nodes_of start ≡ handled_by h (all_of (fails body h)) = e ∙ ap (λ (q : Paths). handled_by h q.fails) l.paths in
    record {
      sound = w.sound scope.values scope.nodes h (is_in_loop scope) l.sound (subst (λ k. IsWellFormed handler scope.values scope.nodes k (is_in_loop scope)) s m.sound);
      paths = p ∙ ap₂ with_handler l.paths (m.paths ∙ ap (outcomes handler) s) ∙ sym (w.paths h);
    }

-- ---- names

same_view : (a b : List Meaning) (f g : List (Option (Field × ℕ))) (r s : List (Option ℕ)) (c d : List Symbol) (t u m k x y : ℕ) → a ≡ b → f ≡ g → r ≡ s → c ≡ d → t ≡ u → m ≡ k → x ≡ y
    → ◌≡◌ {A = View} (record { meanings = a; fields = f; procedures = r; local = c; values = t; nodes = m; loops = x })
    (record { meanings = b; fields = g; procedures = s; local = d; values = u; nodes = k; loops = y })
same_view a b f g r s c d t u m k x y e i h j l o p = cc

-- the names declared since then lose their meanings
pub returned : (old inner new : View) → Extends old inner → new.meanings ≡ forget (drop (length old.local) inner.local) inner.meanings → new.fields ≡ inner.fields
    → new.procedures ≡ inner.procedures → new.local ≡ take (length old.local) inner.local → new.values ≡ old.values → new.nodes ≡ old.nodes → new.loops ≡ old.loops → new ≡ old
returned old inner new e m f r l v n o = same_view _ _ _ _ _ _ _ _ _ _ _ _ _ _ (m ∙ e.meanings) (f ∙ e.fields) (r ∙ e.procedures) (l ∙ e.local) v n o

pub extends_self : (s : View) → Extends s s
extends_self s = record {
  meanings = ap (λ l. forget l s.meanings) (drop-length s.local);
  local = take-length s.local;
  fields = refl;
  procedures = refl;
}

pub extends_same : (outer old new : View) → Extends outer old → new.meanings ≡ old.meanings → new.local ≡ old.local → new.fields ≡ old.fields → new.procedures ≡ old.procedures → Extends outer new
extends_same outer old new e m l f r = record {
  meanings = ap₂ (λ x y. forget (drop (length outer.local) x) y) l m ∙ e.meanings;
  local = ap (take (length outer.local)) l ∙ e.local;
  fields = f ∙ e.fields;
  procedures = r ∙ e.procedures;
}

-- ---- what holds behind a declaration

pub free_with : (m n : ℕ) (h : Nodes) → n ≡ m → AreFree m h → AreFree (m + 1) (with_node h n)
free_with m n h e f i le = holds_other h n i (λ g. absurd (omega arith)) ∙ f i (omega arith)

pub at_same : (old new : View) (held : Held) (flow : Flow) → IsAt old held → IsInUse new → new.nodes ≡ old.nodes → known flow.after ≡ Some (nodes_of held) → IfSome flow.after (IsAt new)
at_same old new held flow a names e k = at_exactly new (nodes_of held) flow.after names (subst (λ m. AreFree m (nodes_of held)) (sym e) a.nodes) k

pub at_inside : (old new : View) (held inside : Held) (place : Place) → IsAt old held → IsInUse new → new.nodes ≡ nodes_more place old.nodes → IsNext place old.nodes
    → nodes_of inside ≡ locked place (nodes_of held) → IsAt new inside
at_inside old new held inside place a names e next i = record {
  names = names;
  nodes = subst (λ m. AreFree m (nodes_of inside)) (sym e) (subst (AreFree (nodes_more place old.nodes)) (sym i) (free_locked place old.nodes (nodes_of held) next a.nodes));
}

pub at_nodes : (old new : View) (held inside : Held) (place : Place) (flow : Flow) → IsAt old held → IsInUse new → new.nodes ≡ nodes_more place old.nodes → IsNext place old.nodes
    → nodes_of inside ≡ locked place (nodes_of held) → known flow.after ≡ Some (nodes_of inside) → IfSome flow.after (IsAt new)
at_nodes old new held inside place flow a names e next i k = at_exactly new (nodes_of inside) flow.after names (at_inside old new held inside place a names e next i).nodes k

-- ---- the same of what lies in boxes

pub chosen_if_of : {p : _} {q : _} (scope : View) (held : Held) (first second : Statement) (one other : Flow) (c : Condition) (tested middle flow : Flow) (a b : Statement) → a ≡ first → b ≡ second
    → IsTestable scope.values (nodes_of held) c → IsLowered scope held first one → IsLowered scope held second other
    → paths_of tested ≡ failing_if (condition_may_fail c) nowhere (nodes_of held) → paths_of middle ≡ either (paths_of tested) (paths_of one) → paths_of flow ≡ either (paths_of middle) (paths_of other)
    → IsLowered scope held (S.If' c p a q b) flow
chosen_if_of {p} {q} scope held first second one other c tested middle flow a b e f t l m x y z =
    subst (λ w. IsLowered scope held (S.If' c p w q b) flow) (sym e) (subst (λ w. IsLowered scope held (S.If' c p first q w) flow) (sym f) (chosen_if scope held first second one other c tested middle flow t l m x y z))

pub chosen_lock_of : {p : _} {q : _} (scope : View) (held : Held) (first second : Statement) (one other : Flow) (place : Place) (kept flow : Flow) (a b : Statement) → a ≡ first → b ≡ second → IsAt scope held
    → IsLockable place scope.values (nodes_of held) → IsNext place scope.nodes
    → IsWellFormed first scope.values (nodes_more place scope.nodes) (locked place (nodes_of held)) (is_in_loop scope) → paths_of one ≡ outcomes first (locked place (nodes_of held)) → IsLowered scope held second other
    → paths_of kept ≡ record (paths_of one) { after = keeping (nodes_of held) (paths_of one).after } → paths_of flow ≡ either (paths_of kept) (paths_of other)
    → IsLowered scope held (S.Lock' place p a q b) flow
chosen_lock_of {p} {q} scope held first second one other place kept flow a b e f at lockable next s l m x y =
    subst (λ w. IsLowered scope held (S.Lock' place p w q b) flow) (sym e)
    (subst (λ w. IsLowered scope held (S.Lock' place p first q w) flow) (sym f) (chosen_lock scope held first second one other place kept flow at lockable next s l m x y))
