-- What fails, what a place and a lock leave of a call: the steps on which the theorem about atomic procedures stands.
use Rattle.std.proofs.Common.{◌≡◌, ℕ, zero, suc, ◌+◌, List, [], ◌∷◌, ◌++◌, length, Bool, true, false, ◌||◌, Option, Some, None, is_some, if◌then◌else◌, refl, sym, ap, ap₂, ◌∙◌, subst, arith, inl, inr}
use Rattle.std.specs.Prelude.{ℤ, pos, negsuc, ◌+ℤ◌, ◌<◌, ◌≤◌, ◌^◌, ◌≢◌, slice_set, slice_index, get_or, nat_le, nat_lt}
use Rattle.std.specs.Int.Signed.{lt_z}
use Rattle.std.specs.Ordering.{int_eq}
use Rattle.std.proofs.lemmas.Bool.{or_parts, or_left, or_right, lt-ltb, le-leb}
use Rattle.std.proofs.lemmas.List.{length-set, set_comm}
use Rattle.tl_instr.specs.declared.operand.TheConstants.{VALUE_REGISTERS, NODE_REGISTERS}
use Rattle.tl_tree.specs.Shape.{kids}
use Rattle.tl_tree.specs.Records.{Records}
use Rattle.tl_tree_locking.specs.declared.action.Action.{Action}
use Rattle.tl_machine.specs.Runs.{Held, State}
use Rattle.tl_machine.specs.Alone.{node, fitting, with_value, numbered, open_kid}
use Rattle.tl_machine.proofs.Slots.{held_by}
use Rattle.tl_lowering.specs.declared.atomic.Ways.{Ways}
use Rattle.tl_lowering.specs.declared.program.Expression.{Expression}
use Rattle.tl_lowering.specs.declared.program.Expression.TheVariants as E
use Rattle.tl_lowering.specs.declared.program.Condition.{Condition}
use Rattle.tl_lowering.specs.declared.program.Condition.TheVariants as C
use Rattle.tl_lowering.specs.declared.program.Place.{Place}
use Rattle.tl_lowering.specs.declared.program.Place.TheVariants as P
use Rattle.tl_lowering.specs.Atomic.{or_of, failing_if, either}
use Rattle.tl_lowering.specs.Outcomes.{may_fail, condition_may_fail, locked, here_if}
use Rattle.tl_lowering.specs.Sets.{Nodes, holds, with_node as also}
use Rattle.tl_lowering.specs.Sound.{IsReadable, IsTestable, IsLockable}
use Rattle.tl_compiler.specs.Among.{IsIn}
use Rattle.tl_compiler.specs.Statements.{held_behind}
use Rattle.tl_compiler.proofs.SetLemmas.{in_left, in_right, both_within}
use Rattle.tl_compiler.proofs.WayLemmas.{Keeps}
use Rattle.tl_meaning.specs.Meaning.{Ending, On, Breaks, Fails, Returns, Done, plain, given, with_both, opposite, both_true, of_node, number, truth, and_then, or_else, held_at, free_by, free, leave, lock_node, lock_kid, lock_child_by, lock_child, lock_in_order, lock_pair, lock_place, leaving}
use Rattle.tl_meaning.proofs.SetLemmas.{held_is, held_length, held_set}
use Rattle.tl_meaning.proofs.ReleaseRuns.{leave_on, leave_sizes, leave_records, held_then}
use Rattle.tl_meaning.proofs.PlaceRuns.{held_again}
use Rattle.tl_meaning.proofs.PairRuns.{still_held, free_again}

-- ---- what fails

pub none_of : (o : Option Held) (h : Held) (read : Held → ℤ) → o ≡ Some h → of_node o read ≡ None → ⊥
none_of None h read e f = cc
none_of (Some g) h read e f = cc

pub number_fails : (parents : List ℕ) (e : Expression) (d : ℕ) (s : State) → IsReadable d (held_at s) e → number parents e s ≡ None → may_fail e ≡ true
number_fails parents (E.Constant w) d s r f = cc
number_fails parents (E.Value x) d s r f = cc
number_fails parents (E.Field n k) d s r f = let h = held_by s.nodes n r in absurd (none_of (node s n) h.0 _ h.1 f)
number_fails parents (E.Children n) d s r f = let h = held_by s.nodes n r in absurd (none_of (node s n) h.0 _ h.1 f)
number_fails parents (E.Calculated' o p a q b) d s r f = refl

pub one_fails : {A : Type 0} (f : ℤ → ℤ → Option A) (x y : Option ℤ) (c e : Bool) → ((u v : ℤ) → f u v ≡ None → ⊥) → (x ≡ None → c ≡ true) → (y ≡ None → e ≡ true) → with_both f x y ≡ None → (c || e) ≡ true
one_fails f None y c e some g h is = or_left c e (g refl)
one_fails f (Some u) None c e some g h is = or_right c e (h refl)
one_fails f (Some u) (Some v) c e some g h is = absurd (some u v is)

pub truth_fails : (parents : List ℕ) (c : Condition) (d : ℕ) (s : State) → IsTestable d (held_at s) c → truth parents c s ≡ None → condition_may_fail c ≡ true
truth_fails parents (C.Less a b) d s r f = one_fails (λ x y. Some (lt_z x y)) (number parents a s) (number parents b s) (may_fail a) (may_fail b) (λ u v e. cc) (number_fails parents a d s r.0) (number_fails parents b d s r.1) f
truth_fails parents (C.Greater a b) d s r f = one_fails (λ x y. Some (lt_z y x)) (number parents a s) (number parents b s) (may_fail a) (may_fail b) (λ u v e. cc) (number_fails parents a d s r.0) (number_fails parents b d s r.1) f
truth_fails parents (C.Equal a b) d s r f = one_fails (λ x y. Some (int_eq x y)) (number parents a s) (number parents b s) (may_fail a) (may_fail b) (λ u v e. cc) (number_fails parents a d s r.0) (number_fails parents b d s r.1) f
truth_fails parents (C.Not' p c) d s r f = by (truth parents c s) (truth_fails parents c d s r) f
  where
    by : (o : Option Bool) → (o ≡ None → condition_may_fail c ≡ true) → opposite o ≡ None → condition_may_fail c ≡ true
    by None g e = g refl
    by (Some b) g e = cc
truth_fails parents (C.And' p c q e) d s r f = by (truth parents c s) (truth parents e s) (truth_fails parents c d s r.0) (truth_fails parents e d s r.1) f
  where
    by : (x y : Option Bool) → (x ≡ None → condition_may_fail c ≡ true) → (y ≡ None → condition_may_fail e ≡ true) → both_true x y ≡ None → (condition_may_fail c || condition_may_fail e) ≡ true
    by None y g h is = or_left (condition_may_fail c) (condition_may_fail e) (g refl)
    by (Some true) y g h is = or_right (condition_may_fail c) (condition_may_fail e) (h is)
    by (Some false) y g h is = cc

-- ---- the places of a `for each`

-- the place before turn n
abbrev pub place_before : ℕ → ℤ
place_before zero = negsuc 0
place_before (suc n) = pos n

pub fits_next : (n : ℕ) → n < 2 ^ 16 → fitting (place_before n +ℤ pos 1) ≡ Some (pos n)
fits_next zero lt = refl
fits_next (suc n) lt =
    let same : n + 1 ≡ suc n = omega arith in
    ap (λ k. fitting (pos k)) same ∙ ap (λ f. if f then Some (pos (suc n)) else None) (lt-ltb (suc n) (2 ^ 63) (omega (arith, lt)))

pub opens_next : (count n : ℕ) → suc n < count → open_kid (n + 1) count (pos (suc n)) ≡ Some (suc n)
opens_next count n lt =
    ap₂ (λ f e. if f then (if e then Some (suc n) else None) else None) (lt-ltb (suc n) count lt) (le-leb (n + 1) (suc n) (omega arith))

pub opens_first : (cursor count n : ℕ) → open_kid cursor count (pos 0) ≡ Some n → n ≡ 0
opens_first cursor count n = by (nat_lt 0 count) (nat_le cursor 0)
  where
    by : (f e : Bool) → (if f then (if e then Some 0 else None) else None) ≡ Some n → n ≡ 0
    by true true g = cc
    by true false g = cc
    by false e g = cc

pub set_found : (l : List (Option Held)) (i : ℕ) (h : Held) (o : Option Held) → get_or l i None ≡ Some h → get_or (slice_set l i o) i None ≡ o
set_found [] i h o e = cc
set_found (y ∷ l) zero h o e = refl
set_found (y ∷ l) (suc i) h o e = set_found l i h o e

pub no_both : false ≡ true → ⊥
no_both e = cc

-- ---- a place in a call

-- if w is false, nothing has been written since the records were t
pub record Here (w : Bool) (t : Records) (s : State) : Type 0 where
  pub size : length s.nodes ≡ NODE_REGISTERS
  pub values : VALUE_REGISTERS ≤ length s.values
  pub clean : w ≡ false → s.records ≡ t

pub longer : (s : State) (v : ℕ) (y : ℤ) → VALUE_REGISTERS ≤ length s.values → VALUE_REGISTERS ≤ length (with_value s v y).values
longer s v y h = subst (λ z. VALUE_REGISTERS ≤ z) (sym (length-set s.values v y)) h

abbrev pub HereBy : Option Bool → Records → State → Type 0
HereBy None t s = ⊥
HereBy (Some w) t s = Here w t s

pub here_left : (p q : Option Bool) (t : Records) (s : State) → HereBy p t s → HereBy (or_of p q) t s
here_left None q t s h = absurd h
here_left (Some w) None t s h = h
here_left (Some w) (Some v) t s h = record { size = h.size; values = h.values; clean = λ e. h.clean (or_parts w v e).0 }

pub here_right : (p q : Option Bool) (t : Records) (s : State) → HereBy q t s → HereBy (or_of p q) t s
here_right None q t s h = h
here_right (Some w) None t s h = absurd h
here_right (Some w) (Some v) t s h = record { size = h.size; values = h.values; clean = λ e. h.clean (or_parts w v e).1 }

-- in another state with the same records
pub here_there : (p : Option Bool) (t : Records) (s u : State) → length u.values ≡ length s.values → length u.nodes ≡ length s.nodes → u.records ≡ s.records → HereBy p t s → HereBy p t u
here_there None t s u v e f h = h
here_there (Some w) t s u v e f h = record { size = e ∙ h.size; values = subst (λ z. VALUE_REGISTERS ≤ z) (sym v) h.values; clean = λ g. f ∙ h.clean g }

pub size_of : (p : Option Bool) (t : Records) (s : State) → HereBy p t s → length s.nodes ≡ NODE_REGISTERS
size_of None t s h = absurd h
size_of (Some w) t s h = h.size

pub values_of : (p : Option Bool) (t : Records) (s : State) → HereBy p t s → VALUE_REGISTERS ≤ length s.values
values_of None t s h = absurd h
values_of (Some w) t s h = h.values

-- how a statement ends, by what is known of it
abbrev pub EndsBy : Option Nodes → List Nodes → List Nodes → Ways → Records → Ending → State → Type 0
EndsBy A F B x t On s = (A ≡ Some (held_at s)) × HereBy x.after t s
EndsBy A F B x t Fails s = IsIn (held_at s) F × HereBy x.fails t s
EndsBy A F B x t Breaks s = IsIn (held_at s) B × HereBy x.breaks t s
EndsBy A F B x t Returns s = Unit {0}

abbrev pub Ends : Option Nodes → List Nodes → List Nodes → Ways → Records → Done → Type 0
Ends A F B x t d = EndsBy A F B x t d.outcome d.state

pub widened : (A : Option Nodes) (F B G C : List Nodes) (x y : Ways) (t : Records) → ((h : Nodes) → IsIn h F → IsIn h G) → ((h : Nodes) → IsIn h B → IsIn h C)
    → ((s : State) → HereBy x.after t s → HereBy y.after t s) → ((s : State) → HereBy x.fails t s → HereBy y.fails t s) → ((s : State) → HereBy x.breaks t s → HereBy y.breaks t s)
    → (o : Ending) (s : State) → EndsBy A F B x t o s → EndsBy A G C y t o s
widened A F B G C x y t f b first second third On s e = (e.0, first s e.1)
widened A F B G C x y t f b first second third Fails s e = (f (held_at s) e.0, second s e.1)
widened A F B G C x y t f b first second third Breaks s e = (b (held_at s) e.0, third s e.1)
widened A F B G C x y t f b first second third Returns s e = tt

pub first_way : (A : Option Nodes) (F B G C : List Nodes) (x y : Ways) (t : Records) (o : Ending) (s : State) → EndsBy A F B x t o s → EndsBy A (F ++ G) (B ++ C) (either x y) t o s
first_way A F B G C x y t o s e =
    widened A F B (F ++ G) (B ++ C) x (either x y) t (λ h m. in_left h F G m) (λ h m. in_left h B C m)
    (λ s h. here_left x.after y.after t s h) (λ s h. here_left x.fails y.fails t s h) (λ s h. here_left x.breaks y.breaks t s h) o s e

pub second_way : (A : Option Nodes) (F B G C : List Nodes) (x y : Ways) (t : Records) (o : Ending) (s : State) → EndsBy A G C y t o s → EndsBy A (F ++ G) (B ++ C) (either x y) t o s
second_way A F B G C x y t o s e =
    widened A G C (F ++ G) (B ++ C) y (either x y) t (λ h m. in_right h F G m) (λ h m. in_right h B C m)
    (λ s h. here_right x.after y.after t s h) (λ s h. here_right x.fails y.fails t s h) (λ s h. here_right x.breaks y.breaks t s h) o s e

-- what may fail first, and does
pub fails_first : (c w : Bool) (A : Option Nodes) (F B : List Nodes) (x : Ways) (t : Records) (s : State) → c ≡ true → Here w t s → EndsBy A (here_if c (held_at s) ++ F) B (failing_if c w x) t Fails s
fails_first true w A F B x t s e h = (inl refl, here_left (Some w) x.fails t s h)
fails_first false w A F B x t s e h = cc

-- and doesn't
pub goes_first : (c w : Bool) (held : Nodes) (A : Option Nodes) (F B : List Nodes) (x : Ways) (t : Records) (o : Ending) (s : State) → EndsBy A F B x t o s → EndsBy A (here_if c held ++ F) B (failing_if c w x) t o s
goes_first true w held A F B x t o s e = widened A F B (held ∷ F) B x (failing_if true w x) t (λ h m. inr m) (λ h m. m) (λ s h. h) (λ s h. here_right (Some w) x.fails t s h) (λ s h. h) o s e
goes_first false w held A F B x t o s e = e

pub given_ends : (o : Option ℤ) (c w : Bool) (s : State) (go : ℤ → Done) (A : Option Nodes) (F B : List Nodes) (x : Ways) (t : Records) → (o ≡ None → c ≡ true) → Here w t s → ((y : ℤ) → Ends A F B x t (go y))
    → Ends A (here_if c (held_at s) ++ F) B (failing_if c w x) t (given o s go)
given_ends None c w s go A F B x t f h more = fails_first c w A F B x t s (f refl) h
given_ends (Some y) c w s go A F B x t f h more = goes_first c w (held_at s) A F B x t (go y).outcome (go y).state (more y)

-- only what is held behind the whole statement is kept
pub left_ends : (A whole : Option Nodes) → Keeps A whole (held_behind whole) → (F B : List Nodes) (x : Ways) (t : Records) (o : Ending) (s : State) (es : List Action) → EndsBy A F B x t o s
    → Ends whole F B x t (leaving whole (record { outcome = o; state = s; events = es }))
left_ends A whole keeps F B x t Fails s es e = e
left_ends A whole keeps F B x t Breaks s es e = e
left_ends A whole keeps F B x t Returns s es e = tt
left_ends A whole keeps F B x t On s es e =
    let kept = held_behind whole in
    let is : whole ≡ Some kept = keeps.is (held_at s) e.0 in
    let size = size_of x.after t s e.1 in
    let long : length (held_at s) ≡ NODE_REGISTERS = held_length s.nodes ∙ size in
    let size_kept = keeps.size (held_at s) e.0 long in
    let u = (leave kept s).state in
    let held : held_at u ≡ kept = held_then kept s size size_kept ∙ both_within (held_at s) kept (long ∙ sym size_kept) (keeps.within (held_at s) e.0) in
    let ends : EndsBy whole F B x t On u = (is ∙ ap Some (sym held), here_there x.after t s u (leave_sizes NODE_REGISTERS kept s).0 (leave_sizes NODE_REGISTERS kept s).1 (leave_records NODE_REGISTERS kept s) e.1) in
    let by_kept : Ends whole F B x t (leaving (Some kept) (record { outcome = On; state = s; events = es })) = subst (λ o. EndsBy whole F B x t o u) (sym (leave_on NODE_REGISTERS kept s)) ends in
    subst (λ k. Ends whole F B x t (leaving k (record { outcome = On; state = s; events = es }))) (sym is) by_kept

-- ---- locks

-- a lock changes no record; without it the same is held as before
abbrev pub PlacedBy : Nodes → State → Ending → State → Type 0
PlacedBy then_held s On u = (held_at u ≡ then_held) × (length u.nodes ≡ length s.nodes) × (u.records ≡ s.records) × (length u.values ≡ length s.values)
PlacedBy then_held s Fails u = (held_at u ≡ held_at s) × (length u.nodes ≡ length s.nodes) × (u.records ≡ s.records) × (length u.values ≡ length s.values)
PlacedBy then_held s Breaks u = ⊥
PlacedBy then_held s Returns u = ⊥

abbrev pub Placed : Nodes → State → Done → Type 0
Placed then_held s d = PlacedBy then_held s d.outcome d.state

pub given_placed : (g : Nodes) (s : State) (o : Option ℤ) (go : ℤ → Done) → ((y : ℤ) → Placed g s (go y)) → Placed g s (given o s go)
given_placed g s None go more = (refl, refl, refl, refl)
given_placed g s (Some y) go more = more y

pub node_placed : (n : ℕ) (o : Option ℕ) (s : State) → Placed (also (held_at s) n) s (lock_node n o s)
node_placed n None s = (refl, refl, refl, refl)
node_placed n (Some x) s = let h : Option Held = Some (record { node = x; cursor = 0 }) in (held_set s.nodes n h, length-set s.nodes n h, refl, refl)

pub child_placed : (parents : List ℕ) (n p : ℕ) (y : ℤ) (s : State) → holds (held_at s) p ≡ true → Placed (also (held_at s) n) s (lock_child parents n p y s)
child_placed parents n p y s is_held = by (node s p)
  where
    kid : (h : Held) (o : Option ℕ) → Placed (also (held_at s) n) s (lock_kid parents n p h o s)
    kid h None = (refl, refl, refl, refl)
    kid h (Some i) =
        let g : Option Held = Some (record { node = h.node; cursor = i + 1 }) in
        let b : Option Held = Some (record { node = slice_index (kids parents h.node) i; cursor = 0 }) in (
          held_set (slice_set s.nodes p g) n b ∙ ap (λ l. slice_set l n true) (held_set s.nodes p g ∙ held_again (held_at s) p is_held),
          length-set (slice_set s.nodes p g) n b ∙ length-set s.nodes p g,
          refl,
          refl,
        )

    by : (o : Option Held) → Placed (also (held_at s) n) s (lock_child_by parents n p o y s)
    by None = (refl, refl, refl, refl)
    by (Some h) = kid h (open_kid h.cursor (length (kids parents h.node)) y)

-- the lower child is freed again
pub undone : (g : Nodes) (lower : ℕ) (s u : State) → holds (held_at s) lower ≡ false → held_at u ≡ also (held_at s) lower → length u.nodes ≡ length s.nodes → u.records ≡ s.records → length u.values ≡ length s.values → Placed g s (and_then (free lower u) (plain Fails))
undone g lower s u is_free e f r v = by (node u lower) refl
  where
    by : (o : Option Held) → node u lower ≡ o → Placed g s (and_then (free_by o lower u) (plain Fails))
    by (Some h) is = (held_set u.nodes lower None ∙ ap (λ l. slice_set l lower false) e ∙ free_again (held_at s) lower is_free, length-set u.nodes lower None ∙ f, r, v)
    by None is =
        let none : holds (held_at u) lower ≡ false = held_is u.nodes lower ∙ ap is_some is in
        (sym (held_again (held_at u) lower none) ∙ ap (λ l. slice_set l lower false) e ∙ free_again (held_at s) lower is_free, f, r, v)

pub in_order_placed : (parents : List ℕ) (lower : ℕ) (x : ℤ) (upper : ℕ) (y : ℤ) (p : ℕ) (s : State) → holds (held_at s) lower ≡ false → holds (held_at s) p ≡ true
    → Placed (also (also (held_at s) lower) upper) s (lock_in_order parents lower x upper y p s)
in_order_placed parents lower x upper y p s is_free is_held =
    let d = lock_child parents lower p x s in first d.outcome d.state d.events (child_placed parents lower p x s is_held)
  where
    second : (u : State) → held_at u ≡ also (held_at s) lower → length u.nodes ≡ length s.nodes → u.records ≡ s.records → length u.values ≡ length s.values → (o : Ending) (v : State) (es : List Action) → PlacedBy (also (held_at u) upper) u o v
        → Placed (also (also (held_at s) lower) upper) s (or_else (record { outcome = o; state = v; events = es }) (λ s. and_then (free lower s) (plain Fails)))
    second u e f r i On v es q = (q.0 ∙ ap (λ l. also l upper) e, q.1 ∙ f, q.2 ∙ r, q.3 ∙ i)
    second u e f r i Fails v es q = undone (also (also (held_at s) lower) upper) lower s v is_free (q.0 ∙ e) (q.1 ∙ f) (q.2 ∙ r) (q.3 ∙ i)
    second u e f r i Breaks v es q = absurd q
    second u e f r i Returns v es q = absurd q

    first : (o : Ending) (u : State) (es : List Action) → PlacedBy (also (held_at s) lower) s o u
        → Placed (also (also (held_at s) lower) upper) s (and_then (record { outcome = o; state = u; events = es }) (λ s. or_else (lock_child parents upper p y s) (λ s. and_then (free lower s) (plain Fails))))
    first On u es q =
        let d = lock_child parents upper p y u in
        second u q.0 q.1 q.2 q.3 d.outcome d.state d.events (child_placed parents upper p y u (subst (λ l. holds l p ≡ true) (sym q.0) (still_held (held_at s) lower p is_held)))
    first Fails u es q = q
    first Breaks u es q = absurd q
    first Returns u es q = absurd q

pub pair_placed : (parents : List ℕ) (n : ℕ) (x : ℤ) (m : ℕ) (y : ℤ) (p : ℕ) (s : State) → n ≢ m → holds (held_at s) n ≡ false → holds (held_at s) m ≡ false → holds (held_at s) p ≡ true
    → Placed (also (also (held_at s) n) m) s (lock_pair parents n x m y p s)
pair_placed parents n x m y p s ne free_n free_m is_held = by (int_eq x y) (lt_z x y)
  where
    by : (e l : Bool) → Placed (also (also (held_at s) n) m) s (if e then plain Fails s else (if l then lock_in_order parents n x m y p s else lock_in_order parents m y n x p s))
    by true l = (refl, refl, refl, refl)
    by false true = in_order_placed parents n x m y p s free_n is_held
    by false false =
        subst (λ g. Placed g s (lock_in_order parents m y n x p s)) (set_comm (held_at s) m n true true (λ e. ne (sym e))) (in_order_placed parents m y n x p s free_m is_held)

pub place_placed : (parents : List ℕ) (place : Place) (d : ℕ) (s : State) → IsLockable place d (held_at s) → Placed (locked place (held_at s)) s (lock_place parents place s)
place_placed parents (P.Node n e) d s l = given_placed (also (held_at s) n) s (number parents e s) (λ x. lock_node n (numbered (length parents) x) s) (λ x. node_placed n (numbered (length parents) x) s)
place_placed parents (P.Child n p e) d s l = given_placed (also (held_at s) n) s (number parents e s) (λ x. lock_child parents n p x s) (λ x. child_placed parents n p x s l.1)
place_placed parents (P.Pair n m p a b) d s l =
    let g = also (also (held_at s) n) m in
    given_placed g s (number parents a s) (λ x. given (number parents b s) s (λ y. lock_pair parents n x m y p s))
    (λ x. given_placed g s (number parents b s) (λ y. lock_pair parents n x m y p s) (λ y. pair_placed parents n x m y p s l.0 l.1 l.2 l.3))
