-- Closing a block's declarations one after another, the last one first.
use Rattle.std.proofs.Common.{◌≡◌, ℕ, ◌+◌, ◌≤◌, List, [], ◌∷◌, ◌++◌, Bool, true, false, Option, Some, None, refl, sym, ap, ◌∙◌, subst, arith}
use Rattle.std.specs.Prelude.{option_map, IfSome}
use Rattle.tl_lowering.specs.declared.lowering.Binding.{Binding}
use Rattle.tl_lowering.specs.declared.lowering.Binding.TheVariants as B
use Rattle.tl_lowering.specs.declared.lowering.Opened.{Opened}
use Rattle.tl_lowering.specs.declared.program.Place.{Place}
use Rattle.tl_lowering.specs.declared.program.Place.TheVariants as P
use Rattle.tl_lowering.specs.declared.program.Expression.{Expression}
use Rattle.tl_lowering.specs.declared.program.Statement.{Statement}
use Rattle.tl_lowering.specs.declared.program.Statement.TheVariants as S
use Rattle.tl_lowering.specs.Sets.{Nodes, without_node, both_of, all_of}
use Rattle.tl_lowering.specs.Outcomes.{may_fail, here_if, locked, unlocked, after, fails, breaks}
use Rattle.tl_lowering.specs.Paths.{Paths, outcomes, on, failing_if, keeping}
use Rattle.tl_lowering.specs.Blocks.{followed, then_of, outcomes_all, AreWellFormed, IsSequence, IsSame, binding_paths, IsNext, IsBinding, values_with, nodes_more, nodes_with, Standing, reached, AreWellFormedAt, IsWellFormedAt, IsBindingAt, AreOpen, AreAlike, AreFree, IsClosing, Closes}
use Rattle.tl_lowering.specs.Sound.{IsWellFormed, nodes_behind}
use Rattle.tl_lowering.proofs.SetLemmas.{both_without, both_of_none, both_of_comm, all_of_append}
use Rattle.tl_lowering.proofs.PathLemmas.{then_on, then_assoc, outcomes_append, sound_append, keeping_after}

-- ---- alike

pub alike_self : (h : Nodes) (p : Paths) → AreAlike h p p
alike_self h p = record { after = refl; fails = refl; breaks = refl }

pub alike_is : (h : Nodes) (p q : Paths) → p ≡ q → AreAlike h p q
alike_is h p q e = record { after = ap (λ z. keeping h z.after) e; fails = ap (λ z. z.fails) e; breaks = ap (λ z. z.breaks) e }

pub alike_sym : (h : Nodes) (p q : Paths) → AreAlike h p q → AreAlike h q p
alike_sym h p q s = record { after = sym s.after; fails = sym s.fails; breaks = sym s.breaks }

pub alike_trans : (h : Nodes) (p q r : Paths) → AreAlike h p q → AreAlike h q r → AreAlike h p r
alike_trans h p q r s t = record { after = s.after ∙ t.after; fails = s.fails ∙ t.fails; breaks = s.breaks ∙ t.breaks }

pub alike_then : (h : Nodes) (p : Paths) (f g : Nodes → Paths) → IfSome p.after (λ k. AreAlike h (f k) (g k)) → AreAlike h (then_of p f) (then_of p g)
alike_then h p f g s = by p.after p.fails p.breaks s
  where
    by : (o x y : Option Nodes) → IfSome o (λ k. AreAlike h (f k) (g k)) → AreAlike h (then_of (record { after = o; fails = x; breaks = y }) f) (then_of (record { after = o; fails = x; breaks = y }) g)
    by None x y s = alike_self h (record { after = None; fails = x; breaks = y })
    by (Some k) x y s = record { after = s.after; fails = ap (both_of x) s.fails; breaks = ap (both_of y) s.breaks }

-- ---- one declaration

-- the registers of a place that uses the next ones aren't among those of the block
pub keeping_unlocked : (place : Place) (m : ℕ) (h : Nodes) (a : Option Nodes) → IsNext place m → AreFree m h → keeping h (option_map (unlocked place) a) ≡ keeping h a
keeping_unlocked place m h None e free = refl
keeping_unlocked (P.Node n x) m h (Some a) e free = ap Some (both_without a h n (free n (omega arith)))
keeping_unlocked (P.Child n p x) m h (Some a) e free = ap Some (both_without a h n (free n (omega arith)))
keeping_unlocked (P.Pair n k p x y) m h (Some a) e free =
    ap Some (both_without (without_node a n) h k (free k (omega arith)) ∙ both_without a h n (free n (omega arith)))

else_ends : (a b : Option Nodes) → b ≡ None → a ≡ both_of a b
else_ends a b e = sym (both_of_none a) ∙ ap (both_of a) (sym e)

swapped : (xs ys : List Nodes) → both_of (all_of xs) (all_of ys) ≡ all_of (ys ++ xs)
swapped xs ys = both_of_comm (all_of xs) (all_of ys) ∙ sym (all_of_append ys xs)

value_paths : (rest : Statement) (b : Bool) (h k : Nodes)
    → AreAlike h (then_of (failing_if b (on k) k) (outcomes rest)) (record { after = after rest k; fails = all_of (here_if b k ++ fails rest k); breaks = all_of (breaks rest k) })
value_paths rest true h k = record { after = refl; fails = refl; breaks = refl }
value_paths rest false h k = record { after = refl; fails = refl; breaks = refl }

value_sound : (rest : Statement) (d m : ℕ) (k : Nodes) (in_loop : Bool) (b : Bool) → IfSome (failing_if b (on k) k).after (λ h. IsWellFormed rest d m h in_loop) → IsWellFormed rest d m k in_loop
value_sound rest d m k in_loop true t = t
value_sound rest d m k in_loop false t = t

pub closing_value : {p : _} (x : ℕ) (e : Expression) (rest : Statement) → IsClosing (B.Value x e) rest (S.Let' x e p rest)
closing_value x e rest = record {
  paths = λ d m h k in_loop s free. value_paths rest (may_fail e) h k;
  sound = λ d m k in_loop s t. (s.0, s.1, value_sound rest (d + 1) m k in_loop (may_fail e) t);
}

pub closing_value_else : {p : _} {q : _} (x : ℕ) (e : Expression) (rest o : Statement) → IsClosing (B.ValueElse x e o) rest (S.LetElse' x e p rest q o)
closing_value_else x e rest o = record {
  paths = λ d m h k in_loop s free. record {
    after = ap (keeping h) (else_ends (after rest k) (after o k) s.3);
    fails = swapped (fails o k) (fails rest k);
    breaks = swapped (breaks o k) (breaks rest k);
  };
  sound = λ d m k in_loop s t. (s.0, s.1, t, s.2);
}

pub next_nodes : (place : Place) (m : ℕ) → IsNext place m → nodes_more place m ≡ nodes_behind place
next_nodes (P.Node n e) m s = omega arith
next_nodes (P.Child n p e) m s = omega arith
next_nodes (P.Pair n k p a b) m s = omega arith

pub closing_nodes : {p : _} {q : _} (place : Place) (rest o : Statement) → IsClosing (B.Nodes place o) rest (S.Lock' place p rest q o)
closing_nodes place rest o = record {
  paths = λ d m h k in_loop s free. record {
    after = ap (keeping h) (else_ends (after rest (locked place k)) (after o k) s.3)
        ∙ sym (keeping_unlocked place m h (both_of (after rest (locked place k)) (after o k)) s.1 free);
    fails = swapped (fails o k) (fails rest (locked place k));
    breaks = swapped (breaks o k) (breaks rest (locked place k));
  };
  sound = λ d m k in_loop s t. (s.0, subst (λ n. IsWellFormed rest d n (locked place k) in_loop) (next_nodes place m s.1) t, s.2);
}

pub closing_value_of : {p : _} (x : ℕ) (e : Expression) (rest r : Statement) → r ≡ rest → IsClosing (B.Value x e) rest (S.Let' x e p r)
closing_value_of {p} x e rest r f = subst (λ z. IsClosing (B.Value x e) rest (S.Let' x e p z)) (sym f) (closing_value x e rest)

pub closing_value_else_of : {p : _} {q : _} (x : ℕ) (e : Expression) (rest o r s : Statement) → r ≡ rest → s ≡ o → IsClosing (B.ValueElse x e o) rest (S.LetElse' x e p r q s)
closing_value_else_of {p} {q} x e rest o r s f g =
    subst (λ z. IsClosing (B.ValueElse x e o) rest (S.LetElse' x e p z q s)) (sym f) (subst (λ z. IsClosing (B.ValueElse x e o) rest (S.LetElse' x e p rest q z)) (sym g) (closing_value_else x e rest o))

pub closing_nodes_of : {p : _} {q : _} (place : Place) (rest o r s : Statement) → r ≡ rest → s ≡ o → IsClosing (B.Nodes place o) rest (S.Lock' place p r q s)
closing_nodes_of {p} {q} place rest o r s f g =
    subst (λ z. IsClosing (B.Nodes place o) rest (S.Lock' place p z q s)) (sym f) (subst (λ z. IsClosing (B.Nodes place o) rest (S.Lock' place p rest q z)) (sym g) (closing_nodes place rest o))

-- ---- a declaration behind other statements

pub closes : (o : Opened) (rest here marked whole : Statement) → IsClosing o.binding rest here → IsSame marked here
    → IsSequence whole (o.earlier.items ++ marked ∷ []) → Closes o rest whole
closes o rest here marked whole c m s = record {
  paths = λ r outer in_loop opened free.
      alike_trans outer _ _ _ (alike_is outer _ _ (then_assoc (then_of r.paths (outcomes_all xs)) (binding_paths o.binding) (outcomes rest)))
      (alike_trans outer _ _ _
      (alike_then outer (then_of r.paths (outcomes_all xs)) (λ k. then_of (binding_paths o.binding k) (outcomes rest)) (outcomes here)
      (each r outer in_loop (then_of r.paths (outcomes_all xs)) opened.2 free))
      (alike_is outer _ _ (then_assoc r.paths (outcomes_all xs) (outcomes here) ∙ sym (wholes r.paths))));
  sound = λ r in_loop opened t. soundly r in_loop opened.1 opened.2 t;
}
  where
    xs : List Statement
    xs = o.earlier.items

    each : (r : Standing) (outer : Nodes) (in_loop : Bool) (p : Paths) → IsBindingAt o.binding r p in_loop → AreFree r.nodes outer
        → IfSome p.after (λ k. AreAlike outer (then_of (binding_paths o.binding k) (outcomes rest)) (outcomes here k))
    each r outer in_loop p b free = by p.after b
      where
        by : (a : Option Nodes) → IfSome a (λ k. IsBinding o.binding r.values r.nodes k in_loop) → IfSome a (λ k. AreAlike outer (then_of (binding_paths o.binding k) (outcomes rest)) (outcomes here k))
        by None b = tt
        by (Some k) b = c.paths r.values r.nodes outer k in_loop b free

    last : (p : Paths) → then_of p (outcomes_all (marked ∷ [])) ≡ then_of p (outcomes here)
    last p = by p.after p.fails p.breaks
      where
        by : (a f b : Option Nodes) → then_of (record { after = a; fails = f; breaks = b }) (outcomes_all (marked ∷ [])) ≡ then_of (record { after = a; fails = f; breaks = b }) (outcomes here)
        by None f b = refl
        by (Some k) f b = ap (λ q. record { after = q.after; fails = both_of f q.fails; breaks = both_of b q.breaks }) (then_on (outcomes marked k) ∙ m.paths k)

    whole_paths : (k : Nodes) → outcomes whole k ≡ then_of (outcomes_all xs k) (outcomes here)
    whole_paths k = s.paths k ∙ outcomes_append xs (marked ∷ []) k ∙ last (outcomes_all xs k)

    wholes : (p : Paths) → then_of p (outcomes whole) ≡ then_of p (λ k. then_of (outcomes_all xs k) (outcomes here))
    wholes p = by p.after p.fails p.breaks
      where
        by : (a f b : Option Nodes) → then_of (record { after = a; fails = f; breaks = b }) (outcomes whole) ≡ then_of (record { after = a; fails = f; breaks = b }) (λ k. then_of (outcomes_all xs k) (outcomes here))
        by None f b = refl
        by (Some k) f b = ap (λ q. record { after = q.after; fails = both_of f q.fails; breaks = both_of b q.breaks }) (whole_paths k)

    ends : (d n : ℕ) (in_loop : Bool) (p : Paths) → IfSome p.after (λ k. IsBinding o.binding d n k in_loop)
        → IfSome (then_of p (binding_paths o.binding)).after (λ h. IsWellFormed rest (values_with o.binding d) (nodes_with o.binding n) h in_loop)
        → IfSome p.after (λ k. AreWellFormed (marked ∷ []) d n k in_loop)
    ends d n in_loop p b t = by p.after p.fails p.breaks b t
      where
        by : (a f g : Option Nodes) → IfSome a (λ k. IsBinding o.binding d n k in_loop)
            → IfSome (then_of (record { after = a; fails = f; breaks = g }) (binding_paths o.binding)).after (λ h. IsWellFormed rest (values_with o.binding d) (nodes_with o.binding n) h in_loop)
            → IfSome a (λ k. AreWellFormed (marked ∷ []) d n k in_loop)
        by None f g b t = tt
        by (Some k) f g b t = (m.sound d n k in_loop (c.sound d n k in_loop b t), nothing (after marked k))
          where
            nothing : (a : Option Nodes) → IfSome a (λ h. Unit {0})
            nothing None = tt
            nothing (Some h) = tt

    soundly : (r : Standing) (in_loop : Bool) → AreWellFormedAt xs r in_loop → IsBindingAt o.binding r (then_of r.paths (outcomes_all xs)) in_loop
        → IsWellFormedAt rest (reached (o ∷ []) r) in_loop → IsWellFormedAt whole r in_loop
    soundly r in_loop a b t = by r.paths.after r.paths.fails r.paths.breaks a b t
      where
        by : (p f g : Option Nodes) → IfSome p (λ k. AreWellFormed xs r.values r.nodes k in_loop)
            → IfSome (then_of (record { after = p; fails = f; breaks = g }) (outcomes_all xs)).after (λ k. IsBinding o.binding r.values r.nodes k in_loop)
            → IfSome (then_of (then_of (record { after = p; fails = f; breaks = g }) (outcomes_all xs)) (binding_paths o.binding)).after (λ h. IsWellFormed rest (values_with o.binding r.values) (nodes_with o.binding r.nodes) h in_loop)
            → IfSome p (λ k. IsWellFormed whole r.values r.nodes k in_loop)
        by None f g a b t = tt
        by (Some k) f g a b t =
            s.sound r.values r.nodes k in_loop
            (sound_append xs (marked ∷ []) r.values r.nodes k in_loop a
            (ends r.values r.nodes in_loop (outcomes_all xs k) b (onward (outcomes_all xs k) t)))
          where
            onward : (q : Paths) → IfSome (then_of (followed (Some k) (record { after = Some k; fails = f; breaks = g }) (λ h. q)) (binding_paths o.binding)).after (λ h. IsWellFormed rest (values_with o.binding r.values) (nodes_with o.binding r.nodes) h in_loop)
                → IfSome (then_of q (binding_paths o.binding)).after (λ h. IsWellFormed rest (values_with o.binding r.values) (nodes_with o.binding r.nodes) h in_loop)
            onward q t = at q.after q.fails q.breaks t
              where
                at : (a x y : Option Nodes) → IfSome (then_of (record { after = a; fails = both_of f x; breaks = both_of g y }) (binding_paths o.binding)).after (λ h. IsWellFormed rest (values_with o.binding r.values) (nodes_with o.binding r.nodes) h in_loop)
                    → IfSome (then_of (record { after = a; fails = x; breaks = y }) (binding_paths o.binding)).after (λ h. IsWellFormed rest (values_with o.binding r.values) (nodes_with o.binding r.nodes) h in_loop)
                at None x y t = t
                at (Some h) x y t = t

-- ---- registers

more_nodes : (place : Place) (m : ℕ) → m ≤ nodes_more place m
more_nodes (P.Node n e) m = omega arith
more_nodes (P.Child n p e) m = omega arith
more_nodes (P.Pair n k p a b) m = omega arith

with_nodes : (b : Binding) (m : ℕ) → m ≤ nodes_with b m
with_nodes (B.Value x e) m = omega arith
with_nodes (B.ValueElse x e o) m = omega arith
with_nodes (B.Nodes place o) m = more_nodes place m

pub nodes_rise : (os : List Opened) (r : Standing) → r.nodes ≤ (reached os r).nodes
nodes_rise [] r = omega arith
nodes_rise (o ∷ os) r = let e = nodes_rise os r in let f = with_nodes o.binding (reached os r).nodes in omega arith

-- ---- the last declaration that is open

pub close_last : (o : Opened) (os : List Opened) (r : Standing) (outer : Nodes) (in_loop : Bool) (rest whole : Statement) (total : Paths) → Closes o rest whole → AreOpen (o ∷ os) r in_loop
    → AreFree r.nodes outer → AreAlike outer (then_of (reached (o ∷ os) r).paths (outcomes rest)) total → AreAlike outer (then_of (reached os r).paths (outcomes whole)) total
close_last o os r outer in_loop rest whole total c opened free alike =
    alike_trans outer _ _ _
    (alike_sym outer _ _ (c.paths (reached os r) outer in_loop (tt, opened.1, opened.2) (λ n le. free n (let e = nodes_rise os r in omega arith))))
    alike

-- a block whose declarations are all closed
pub closed_paths : (h : Nodes) (whole : Statement) (total : Paths) → AreAlike h (outcomes whole h) total → record total { after = keeping h total.after } ≡ outcomes whole h
closed_paths h whole total a =
    sym (by (after whole h) (keeping h total.after) (all_of (fails whole h)) total.fails (all_of (breaks whole h)) total.breaks (sym (keeping_after whole h) ∙ a.after) a.fails a.breaks)
  where
    by : (o p x y v w : Option Nodes) → o ≡ p → x ≡ y → v ≡ w → ◌≡◌ {A = Paths} (record { after = o; fails = x; breaks = v }) (record { after = p; fails = y; breaks = w })
    by o p x y v w e f g = cc
