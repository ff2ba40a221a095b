-- What was done before a position, along statements and blocks.
use Rattle.std.proofs.Common.{◌≡◌, ℕ, List, [], ◌∷◌, ◌++◌, length, take, drop, reverse, Bool, true, false, Option, Some, None, append_assoc, refl, sym, ap, ap₂, ◌∙◌, subst, take-append-drop}
use Rattle.std.specs.Prelude.{◌||◌, ◌&&◌, not, ◌/◌, IfSome, nat_eq}
use Rattle.std.proofs.lemmas.List.{reverse-append}
use Rattle.tl_lowering.specs.declared.lowering.Binding.{Binding}
use Rattle.tl_lowering.specs.declared.lowering.Binding.TheVariants as B
use Rattle.tl_lowering.specs.declared.lowering.Draft.{Draft}
use Rattle.tl_lowering.specs.declared.lowering.Opened.{Opened}
use Rattle.tl_lowering.specs.declared.paths.Flow.{Flow}
use Rattle.tl_lowering.specs.declared.paths.Held.{Held}
use Rattle.tl_lowering.specs.declared.program.Statement.{Statement}
use Rattle.tl_lowering.specs.declared.program.Statement.TheVariants as S
use Rattle.tl_lowering.specs.declared.loops.Repetition.TheVariants as R
use Rattle.tl_lowering.specs.declared.lowering.Entrance.TheVariants as N
use Rattle.tl_lowering.specs.declared.naming.Locking.{Locking}
use Rattle.tl_lowering.specs.declared.program.Condition.{Condition}
use Rattle.tl_lowering.specs.declared.program.Expression.{Expression}
use Rattle.tl_lowering.specs.declared.program.Place.TheVariants as P
use Rattle.tl_lowering.specs.declared.loops.Visit.{Visit}
use Rattle.tl_lowering.specs.Choosing.{IsChosen, chosen_if, chosen_lock, IsTurning, turning_times, turning_up_to}
use Rattle.tl_lowering.specs.Drafts.{Binds, binds_value, binds_value_else, binds_nodes, Ends, none_open, last_open, Becomes, IsFinished}
use Rattle.tl_lowering.specs.Entering.{before_of, entered_at, entered_of, before_body, before_turns, turn_descends, IsEntering, IsEnteringPlace, entered_all, AllEnterOnce, binding_entered, BindsOnce, IsEnteringBinding, EntersSoFar}
use Rattle.tl_lowering.specs.Passing.{Before, Entered, join, behind_lock, walks, through, registers, descends_from, before_turn, or_of, enters, some_if, or_else_of, either_entered, then_by, failing_entered, on_entered, nowhere_entered, entered, KeepsOut, EntersOnce}
use Rattle.tl_lowering.specs.Naming.{calculated, then, IsHalved, none, one, more}
use Rattle.tl_lowering.specs.Outcomes.{may_fail, condition_may_fail}
use Rattle.tl_lowering.specs.Paths.{known, passed_of}
use Rattle.tl_lowering.specs.Sets.{Nodes, holds, with_node, without_node, minus}
use Rattle.tl_lowering.proofs.BitLemmas.{same_registers}
use Rattle.tl_lowering.proofs.SetLemmas.{both_self, both_comm, both_assoc, both_minus}
use Rattle.tl_lowering.specs.Reading.{IsAtOffset, at, IsTried, tried, IsVisiting, visiting}

-- ---- where paths join

abbrev before : Bool → Nodes → Before
before e p = record { entered = e; passed = p }

pub or_none : (o : Option Before) → or_of o None ≡ o
or_none None = refl
or_none (Some x) = refl

or_same : (x y : Bool) → (x || y) ≡ (y || x)
or_same true true = refl
or_same true false = refl
or_same false true = refl
or_same false false = refl

or_more : (x y z : Bool) → ((x || y) || z) ≡ (x || (y || z))
or_more true y z = refl
or_more false y z = refl

join_comm : (x y : Before) → join x y ≡ join y x
join_comm x y = ap₂ before (or_same x.entered y.entered) (both_comm x.passed y.passed)

join_assoc : (x y z : Before) → join (join x y) z ≡ join x (join y z)
join_assoc x y z = ap₂ before (or_more x.entered y.entered z.entered) (both_assoc x.passed y.passed z.passed)

or_self : (x : Bool) → (x || x) ≡ x
or_self true = refl
or_self false = refl

join_self : (x : Before) → join x x ≡ x
join_self x = ap₂ before (or_self x.entered) (both_self x.passed)

pub or_comm : (o q : Option Before) → or_of o q ≡ or_of q o
or_comm None None = refl
or_comm None (Some y) = refl
or_comm (Some x) None = refl
or_comm (Some x) (Some y) = ap Some (join_comm x y)

pub or_assoc : (o q r : Option Before) → or_of (or_of o q) r ≡ or_of o (or_of q r)
or_assoc None q r = refl
or_assoc (Some x) None r = refl
or_assoc (Some x) (Some y) None = refl
or_assoc (Some x) (Some y) (Some z) = ap Some (join_assoc x y z)

or_false : (x : Bool) → (x || false) ≡ x
or_false true = refl
or_false false = refl

not_true : false ≡ true → ⊥
not_true e = cc

-- ---- one after another

pub next_on : (x : Entered) → then_by x.after x on_entered ≡ x
next_on x = by x.after x.fails x.breaks
  where
    by : (o f b : Option Before) → then_by o (record { after = o; fails = f; breaks = b }) on_entered ≡ record { after = o; fails = f; breaks = b }
    by None f b = refl
    by (Some h) f b = ap₂ (λ x y. record { after = Some h; fails = x; breaks = y }) (or_none f) (or_none b)

pub next_same : (x : Entered) (f g : Before → Entered) → ((e : Before) → f e ≡ g e) → then_by x.after x f ≡ then_by x.after x g
next_same x f g e = by x.after x.fails x.breaks
  where
    by : (o u v : Option Before) → then_by o (record { after = o; fails = u; breaks = v }) f ≡ then_by o (record { after = o; fails = u; breaks = v }) g
    by None u v = refl
    by (Some k) u v = ap (λ (p : Entered). record { after = p.after; fails = or_of u p.fails; breaks = or_of v p.breaks }) (e k)

pub next_at : (x : Entered) (f : Before → Entered) (h : Before) → x.after ≡ Some h → then_by x.after x f ≡ then_by x.after x (λ k. f h)
next_at x f h e = by x.after x.fails x.breaks e
  where
    by : (o u v : Option Before) → o ≡ Some h → then_by o (record { after = o; fails = u; breaks = v }) f ≡ then_by o (record { after = o; fails = u; breaks = v }) (λ k. f h)
    by None u v e = cc
    by (Some k) u v e = let g : k ≡ h = cc in ap (λ z. record { after = (f z).after; fails = or_of u (f z).fails; breaks = or_of v (f z).breaks }) g

pub next_assoc : (x : Entered) (f g : Before → Entered) → then_by (then_by x.after x f).after (then_by x.after x f) g ≡ then_by x.after x (λ e. then_by (f e).after (f e) g)
next_assoc x f g = by x.after x.fails x.breaks
  where
    inner : (o u v s t : Option Before) → then_by o (record { after = o; fails = or_of u s; breaks = or_of v t }) g
        ≡ record { after = (then_by o (record { after = o; fails = s; breaks = t }) g).after; fails = or_of u (then_by o (record { after = o; fails = s; breaks = t }) g).fails; breaks = or_of v (then_by o (record { after = o; fails = s; breaks = t }) g).breaks }
    inner None u v s t = refl
    inner (Some h) u v s t = ap₂ (λ x y. record { after = (g h).after; fails = x; breaks = y }) (or_assoc u s (g h).fails) (or_assoc v t (g h).breaks)

    by : (o u v : Option Before) → then_by (then_by o (record { after = o; fails = u; breaks = v }) f).after (then_by o (record { after = o; fails = u; breaks = v }) f) g
        ≡ then_by o (record { after = o; fails = u; breaks = v }) (λ e. then_by (f e).after (f e) g)
    by None u v = refl
    by (Some h) u v = inner (f h).after u v (f h).fails (f h).breaks

-- a flow that is continued by another one
pub then_entered : (x y z : Entered) (h : Before) → x.after ≡ Some h → y ≡ record { after = z.after; fails = or_of x.fails z.fails; breaks = or_of x.breaks z.breaks } → then_by x.after x (λ k. z) ≡ y
then_entered x y z h e f = by x.after x.fails x.breaks e ∙ sym f
  where
    by : (o u v : Option Before) → o ≡ Some h → then_by o (record { after = o; fails = u; breaks = v }) (λ k. z) ≡ record { after = z.after; fails = or_of u z.fails; breaks = or_of v z.breaks }
    by None u v e = cc
    by (Some k) u v e = refl

pub entered_append : (xs ys : List Statement) (e : Before) → entered_all (xs ++ ys) e ≡ then_by (entered_all xs e).after (entered_all xs e) (entered_all ys)
entered_append [] ys e = refl
entered_append (x ∷ xs) ys e =
    next_same (entered x e) (entered_all (xs ++ ys)) (λ h. then_by (entered_all xs h).after (entered_all xs h) (entered_all ys)) (entered_append xs ys)
    ∙ sym (next_assoc (entered x e) (entered_all xs) (entered_all ys))

once_split : (xs ys : List Statement) (e : Before) → AllEnterOnce (xs ++ ys) e → AllEnterOnce xs e × IfSome (entered_all xs e).after (AllEnterOnce ys)
once_split [] ys e h = (tt, h)
once_split (x ∷ xs) ys e h =
    let s = by (once_split xs ys) (entered x e).after (entered x e).fails (entered x e).breaks h.1 in
    ((h.0, s.0), s.1)
  where
    by : ((f : Before) → AllEnterOnce (xs ++ ys) f → AllEnterOnce xs f × IfSome (entered_all xs f).after (AllEnterOnce ys))
        → (o u v : Option Before) → IfSome o (AllEnterOnce (xs ++ ys))
        → IfSome o (AllEnterOnce xs) × IfSome (then_by o (record { after = o; fails = u; breaks = v }) (entered_all xs)).after (AllEnterOnce ys)
    by split None u v h = (tt, tt)
    by split (Some f) u v h = split f h

-- ---- a list of statements, halved

pub entered_halved : {whole : Statement} {xs : List Statement} → IsHalved whole xs → (e : Before) → entered whole e ≡ entered_all xs e
entered_halved none e = refl
entered_halved (one {a}) e = sym (next_on (entered a e))
entered_halved (more {a} {b} {xs = xs} long s t then) e =
    let n = length xs / 2 in
    ap (λ (x : Entered). then_by x.after x (entered b)) (entered_halved s e)
    ∙ next_same (entered_all (take n xs) e) (entered b) (entered_all (drop n xs)) (entered_halved t)
    ∙ sym (entered_append (take n xs) (drop n xs) e) ∙ ap (λ z. entered_all z e) (take-append-drop n xs)

once_next : (o : Option Before) (P Q : Before → Type 0) → ((e : Before) → P e → Q e) → IfSome o P → IfSome o Q
once_next None P Q f h = tt
once_next (Some e) P Q f h = f e h

pub once_halved : {whole : Statement} {xs : List Statement} → IsHalved whole xs → (e : Before) → AllEnterOnce xs e → EntersOnce whole e
once_halved none e h = tt
once_halved (one {a}) e h = h.0
once_halved (more {a} {b} {xs = xs} long s t then) e h =
    let n = length xs / 2 in
    let parts = once_split (take n xs) (drop n xs) e (subst (λ z. AllEnterOnce z e) (sym (take-append-drop n xs)) h) in (
      once_halved s e parts.0,
      subst (λ (x : Entered). IfSome x.after (EntersOnce b)) (sym (entered_halved s e)) (once_next (entered_all (take n xs) e).after (AllEnterOnce (drop n xs)) (EntersOnce b) (once_halved t) parts.1),
    )

-- ---- the part of a block that was read

ends_none : {items all : List Statement} → Ends [] items all → items ≡ all
ends_none none_open = refl

pub none_entered : (e : Before) (draft : Draft) (x : Entered) → draft.opened.items ≡ [] → draft.statements.items ≡ [] → x ≡ on_entered e → EntersSoFar e draft x
none_entered e draft x o s is = subst (EntersSoFar e draft) (sym is) (record {
  once = λ items all b h. subst (λ z. AllEnterOnce z e) (same items all b) h;
  paths = λ items all b. ap (λ z. entered_all z e) (sym (same items all b));
})
  where
    same : (items all : List Statement) → Becomes draft items all → items ≡ all
    same items all b =
        ends_none (subst (λ z. Ends [] (z ++ items) all) s (subst (λ z. Ends (reverse z) (draft.statements.items ++ items) all) o b))

-- adding statements to the part that was read
record IsStep (draft : Draft) (h : Before) (z : Entered) (items all : List Statement) : Type 0 where
  made : List Statement
  becomes : Becomes draft made all
  once : IfSome z.after (AllEnterOnce items) → AllEnterOnce made h
  paths : entered_all made h ≡ then_by z.after z (entered_all items)

step : (e h : Before) (draft new : Draft) (x z : Entered) → x.after ≡ Some h → EntersSoFar e draft x → ((items all : List Statement) → Becomes new items all → IsStep draft h z items all)
    → EntersSoFar e new (then_by x.after x (λ k. z))
step e h draft new x z a so_far next = record {
  once = λ items all b k.
      let s = next items all b in
      so_far.once s.made all s.becomes (by x.after x.fails x.breaks a items s.made s.once k);
  paths = λ items all b.
      let s = next items all b in
      so_far.paths s.made all s.becomes ∙ next_at x (entered_all s.made) h a ∙ ap (λ w. then_by x.after x (λ k. w)) s.paths ∙ sym (next_assoc x (λ k. z) (entered_all items));
}
  where
    by : (o u v : Option Before) → o ≡ Some h → (items made : List Statement) → (IfSome z.after (AllEnterOnce items) → AllEnterOnce made h)
        → IfSome (then_by o (record { after = o; fails = u; breaks = v }) (λ k. z)).after (AllEnterOnce items) → IfSome o (AllEnterOnce made)
    by None u v e items made once k = tt
    by (Some f) u v e items made once k = let same : h ≡ f = cc in subst (AllEnterOnce made) same (once k)

-- one more statement
pub plain_entered : (e h : Before) (draft new : Draft) (x : Entered) {offset : ℕ} {a b : Statement} {flow : Flow} → x.after ≡ Some h → EntersSoFar e draft x → IsEntering h a flow → IsAtOffset offset a b
    → new.opened.items ≡ draft.opened.items → new.statements.items ≡ draft.statements.items ++ b ∷ [] → EntersSoFar e new (then_by x.after x (λ k. entered_of flow))
plain_entered e h draft new x {b = b} {flow = flow} a so_far is (at {p = p}) os ss = step e h draft new x (entered_of flow) a so_far (λ items all bec. record {
  made = b ∷ items;
  becomes =
      subst (λ z. Ends (reverse draft.opened.items) z all) (ap (λ z. z ++ items) ss ∙ append_assoc draft.statements.items (b ∷ []) items)
      (subst (λ z. Ends (reverse z) (new.statements.items ++ items) all) os bec);
  once = λ k. (is.once, subst (λ (z : Entered). IfSome z.after (AllEnterOnce items)) is.paths k);
  paths = ap (λ (z : Entered). then_by z.after z (entered_all items)) (sym is.paths);
})

-- ---- a declaration more

either_ends : (x y : Entered) → y.after ≡ None → either_entered x y ≡ record { after = x.after; fails = or_of y.fails x.fails; breaks = or_of y.breaks x.breaks }
either_ends x y e =
    ap (λ z. record { after = or_of x.after z; fails = or_of x.fails y.fails; breaks = or_of x.breaks y.breaks }) e
    ∙ ap (λ z. record { after = z; fails = or_of x.fails y.fails; breaks = or_of x.breaks y.breaks }) (or_none x.after)
    ∙ ap₂ (λ u v. record { after = x.after; fails = u; breaks = v }) (or_comm x.fails y.fails) (or_comm x.breaks y.breaks)

binds_entered : {b : Binding} {rest bound : Statement} (h : Before) → Binds b rest bound → BindsOnce b h
    → entered bound h ≡ then_by (binding_entered b h).after (binding_entered b h) (entered rest)
binds_entered h (binds_value {e = n} {rest = rest}) once =
    ap (λ z. record { after = (entered rest h).after; fails = or_of z (entered rest h).fails; breaks = (entered rest h).breaks }) (sym (or_none (some_if (may_fail n) h)))
binds_entered h (binds_value_else {rest = rest} {other = other}) once = either_ends (entered rest h) (entered other h) once.1
binds_entered h (binds_nodes {place = place} {rest = rest} {other = other}) once =
    either_ends (entered rest (behind_lock place h)) (entered other h) once.2

binds_once : {b : Binding} {rest bound : Statement} (h : Before) → Binds b rest bound → BindsOnce b h → IfSome (binding_entered b h).after (EntersOnce rest) → EntersOnce bound h
binds_once h binds_value once k = k
binds_once h binds_value_else once k = (k, once.0)
binds_once h (binds_nodes {place = place} {other = other}) once k = (once.0, k, once.1)

nothing : (o : Option Before) → IfSome o (λ e. Unit {0})
nothing None = tt
nothing (Some e) = tt

opened_step : (h : Before) (draft : Draft) (o : Opened) (flow : Flow) (items all : List Statement) → IsEnteringBinding h o.binding flow → o.earlier.items ≡ draft.statements.items
    → Ends (o ∷ reverse draft.opened.items) items all → IsStep draft h (entered_of flow) items all
opened_step h draft o flow items all is earlier (last_open {rest = rest} {bound = bound} {at_offset = at_offset} j b at ends) =
    let whole : entered bound h ≡ then_by (entered_of flow).after (entered_of flow) (entered_all items) =
    binds_entered h b is.once
    ∙ next_same (binding_entered o.binding h) (entered rest) (entered_all items) (entered_halved j)
    ∙ ap (λ (z : Entered). then_by z.after z (entered_all items)) (sym is.paths) in
    record {
      made = at_offset ∷ [];
      becomes = subst (λ z. Ends (reverse draft.opened.items) (z ++ at_offset ∷ []) all) earlier ends;
      once = λ k.
          let inside : IfSome (binding_entered o.binding h).after (AllEnterOnce items) = subst (λ (z : Entered). IfSome z.after (AllEnterOnce items)) is.paths k in
          (binds_once h b is.once (once_next (binding_entered o.binding h).after (AllEnterOnce items) (EntersOnce rest) (once_halved j) inside), nothing (entered at_offset h).after);
      paths = next_on (entered at_offset h) ∙ whole;
    }

pub opened_entered : (e h : Before) (draft new : Draft) (x : Entered) (o : Opened) (flow : Flow) → x.after ≡ Some h → EntersSoFar e draft x → IsEnteringBinding h o.binding flow
    → o.earlier.items ≡ draft.statements.items → new.opened.items ≡ draft.opened.items ++ o ∷ [] → new.statements.items ≡ []
    → EntersSoFar e new (then_by x.after x (λ k. entered_of flow))
opened_entered e h draft new x o flow a so_far is earlier os empty =
    let last : reverse new.opened.items ≡ o ∷ reverse draft.opened.items = ap reverse os ∙ reverse-append draft.opened.items (o ∷ []) in
    step e h draft new x (entered_of flow) a so_far
    (λ items all b.
    opened_step h draft o flow items all is earlier
    (subst (λ z. Ends (o ∷ reverse draft.opened.items) (z ++ items) all) empty (subst (λ z. Ends z (new.statements.items ++ items) all) last b)))

-- ---- statements with blocks

-- if there is no path, none has entered the tree
pub no_way : (o : Option Held) → known o ≡ None → entered_at o ≡ None
no_way None e = refl
no_way (Some h) e = cc

-- what was done after a `for each` with this turn
walk_is : (e start left : Before) (o f b : Option Before) → join e start ≡ start
    → ◌≡◌ {A = Entered} (record { after = or_of (Some left) (or_of (or_of o None) (or_of b None)); fails = or_of (Some e) (or_of (Some start) (or_of f (Some start))); breaks = None })
    (record { after = or_of (Some left) (or_of o b); fails = or_of (Some start) f; breaks = None })
walk_is e start left o f b within =
    ap₂ (λ x y. record { after = x; fails = y; breaks = None })
    (ap₂ (λ y z. or_of (Some left) (or_of y z)) (or_none o) (or_none b))
    (ap (λ z. or_of (Some e) (or_of (Some start) z)) (or_comm f (Some start)) ∙ ap (or_of (Some e)) (sym (or_assoc (Some start) (Some start) f) ∙ ap (λ z. or_of (Some z) f) (join_self start))
    ∙ sym (or_assoc (Some e) (Some start) f) ∙ ap (λ z. or_of (Some z) f) within)

pub if_entering : {e : Before} {a b s : Statement} {c : Condition} {one other flow : Flow} → IsChosen a b (N.Condition c) s → IsEntering e a one → IsEntering e b other
    → entered_of flow ≡ either_entered (either_entered (failing_entered (condition_may_fail c) e nowhere_entered) (entered_of one)) (entered_of other) → IsEntering e s flow
if_entering {e} {a} {b} (chosen_if {c = c}) x y f = record {
  once = (x.once, y.once);
  paths =
      f ∙ ap₂ (λ u v. either_entered (either_entered (failing_entered (condition_may_fail c) e nowhere_entered) u) v) x.paths y.paths
      ∙ ap (λ z. record { after = or_of (entered a e).after (entered b e).after; fails = z; breaks = or_of (entered a e).breaks (entered b e).breaks })
      (ap (λ z. or_of (or_of z (entered a e).fails) (entered b e).fails) (or_none (some_if (condition_may_fail c) e))
      ∙ or_assoc (some_if (condition_may_fail c) e) (entered a e).fails (entered b e).fails);
}

pub lock_entering : {e : Before} {a b s : Statement} (l : Locking) {one other flow : Flow} → IsChosen a b (N.Lock l) s → IsEnteringPlace e l → IsEntering (behind_lock l.place e) a one → IsEntering e b other
    → entered_of flow ≡ either_entered (entered_of one) (entered_of other) → IsEntering e s flow
lock_entering l chosen_lock place x y f = record { once = (place.once, x.once, y.once); paths = f ∙ ap₂ either_entered x.paths y.paths }

pub tried_entering : {e start : Before} {a b s : Statement} {one other flow : Flow} → IsTried a b s → IsEntering e a one → start ≡ or_else_of (entered_of one).fails e → IsEntering start b other
    → entered_of flow ≡ record { after = or_of (entered_of one).after (entered_of other).after; fails = (entered_of other).fails; breaks = or_of (entered_of one).breaks (entered_of other).breaks }
    → IsEntering e s flow
tried_entering {e} {start} {a} {b} tried x begins y f =
    let here : start ≡ or_else_of (entered a e).fails e = begins ∙ ap (λ (z : Entered). or_else_of z.fails e) x.paths in
    record {
      once = (x.once, subst (EntersOnce b) here y.once);
      paths =
          f
          ∙ ap₂ (λ (u v : Entered). record { after = or_of u.after v.after; fails = v.fails; breaks = or_of u.breaks v.breaks }) x.paths (y.paths ∙ ap (entered b) here);
    }

-- what was done at the start of a loop's turn holds on all paths before it
begins_within : (e : Before) (passed : Nodes) → join e (record e { passed = minus e.passed passed }) ≡ record e { passed = minus e.passed passed }
begins_within e passed = ap₂ before (or_self e.entered) (both_minus e.passed passed)

-- a turn doesn't enter the tree, also in terms of what was done before the loop
pub keeps_out : (flow : Flow) (start held : Held) → start.is_entered ≡ held.is_entered → KeepsOut (entered_of flow).after (before_of start) → KeepsOut (entered_of flow).after (before_of held)
keeps_out flow start held same once = subst (λ e. IfSome (entered_of flow).after (λ c. c.entered ≡ true → e ≡ true)) same once

keeps : (e start : Before) (body : Statement) (flow : Flow) → IsEntering start body flow → KeepsOut (entered_of flow).after e → KeepsOut (entered body start).after e
keeps e start body flow x once = subst (λ (z : Entered). KeepsOut z.after e) x.paths once

pub times_entering : {e start : Before} {body whole : Statement} {flow left : Flow} {w : ℕ} → start ≡ before_turn body e → IsEntering start body flow → KeepsOut (entered_of flow).after e
    → IsTurning body (R.Times w) whole → entered_of left ≡ record { after = or_of (entered_of flow).after (entered_of flow).breaks; fails = (entered_of flow).fails; breaks = None } → IsEntering e whole left
times_entering {e} {start} {body} {flow = flow} begins x once turning_times f =
    let here : IsEntering (before_turn body e) body flow = subst (λ b. IsEntering b body flow) begins x in
    record {
      once = (here.once, keeps e (before_turn body e) body flow here once);
      paths = f ∙ ap (λ (z : Entered). record { after = or_of z.after z.breaks; fails = z.fails; breaks = None }) here.paths;
    }

pub up_to_entering : {e start : Before} {body whole : Statement} {flow left : Flow} {n : Expression} {w : ℕ} → start ≡ before_turn body e → IsEntering start body flow → KeepsOut (entered_of flow).after e → walks body ≡ None
    → IsTurning body (R.UpTo n w) whole
    → entered_of left ≡ record { after = or_of (Some e) (or_of (entered_of flow).after (entered_of flow).breaks); fails = or_of (Some e) (entered_of flow).fails; breaks = None }
    → IsEntering e whole left
up_to_entering {e} {start} {body} {flow = flow} begins x once block turning_up_to f =
    let here : IsEntering (before_turn body e) body flow = subst (λ b. IsEntering b body flow) begins x in
    record {
      once = (here.once, keeps e (before_turn body e) body flow here once, subst (λ o. IfSome o (λ n. holds e.passed n ≡ false)) (sym block) tt);
      paths =
          f ∙ ap (λ (z : Entered). record { after = or_of (Some e) (or_of z.after z.breaks); fails = or_of (Some e) z.fails; breaks = None }) here.paths
          ∙ ap (λ w. let z = entered body (before_turn body e) in record { after = or_of (Some (through w e)) (or_of z.after z.breaks); fails = or_of (Some e) z.fails; breaks = None }) (sym block);
    }

-- the child's register belongs to the loop itself
turn_is : (body : Statement) (child n : ℕ) → (descends_from body n && not (nat_eq child n)) ≡ ((descends_from body n && not (nat_eq child n)) || false)
turn_is body child n = sym (or_false (descends_from body n && not (nat_eq child n)))

walk_begins : (e : Before) (v : Visit) (body turn : Statement) → ((n : ℕ) → turn_descends (R.Children v) body n ≡ descends_from turn n) → before_turns (R.Children v) body e ≡ before_turn turn e
walk_begins e v body turn same = ap (λ z. before e.entered (minus e.passed z)) (same_registers (turn_descends (R.Children v) body) (descends_from turn) same)

pub walk_entering : {e start : Before} {body whole : Statement} {flow left : Flow} (v : Visit) → start ≡ before_turns (R.Children v) body e → IsEntering (before_body (R.Children v) start) body flow
    → KeepsOut (entered_of flow).after e → holds e.passed v.parent ≡ false → IsVisiting v.index v.child v.parent v.turns body whole
    → entered_of left ≡ record { after = or_of (Some (record e { passed = with_node e.passed v.parent })) (or_of (entered_of flow).after (entered_of flow).breaks); fails = or_of (Some start) (entered_of flow).fails; breaks = None }
    → IsEntering e whole left
walk_entering {e} {start} {body} {flow = flow} {left = left} v begins x once fresh (visiting {turn = turn} calculated then) f =
    let here : Before = before_turn turn e in
    let same : start ≡ here = begins ∙ walk_begins e v body turn (turn_is body v.child) in
    let inside : IsEntering (before_body (R.Children v) here) body flow = subst (λ b. IsEntering (before_body (R.Children v) b) body flow) same x in
    let y : Entered = entered body (before_body (R.Children v) here) in
    let ends : KeepsOut (or_of y.after None) e = subst (λ o. KeepsOut o e) (sym (or_none y.after)) (keeps e (before_body (R.Children v) here) body flow inside once) in
    record {
      once = ((tt, ((λ g. absurd (not_true g)), inside.once, tt)), ends, fresh);
      paths =
          f ∙ ap (λ (b : Before). record { after = or_of (Some (before e.entered (with_node e.passed v.parent))) (or_of (entered_of flow).after (entered_of flow).breaks); fails = or_of (Some b) (entered_of flow).fails; breaks = None }) same
          ∙ ap (λ (z : Entered). record { after = or_of (Some (before e.entered (with_node e.passed v.parent))) (or_of z.after z.breaks); fails = or_of (Some here) z.fails; breaks = None }) inside.paths
          ∙ sym (walk_is e here (before e.entered (with_node e.passed v.parent)) y.after y.fails y.breaks (begins_within e (registers (descends_from turn))));
    }

pub entering_as : {e f : Before} {s : Statement} {flow other : Flow} → f ≡ e → entered_of other ≡ entered_of flow → IsEntering f s flow → IsEntering e s other
entering_as {s = s} same is x = record { once = subst (EntersOnce s) same x.once; paths = is ∙ x.paths ∙ ap (entered s) same }

pub finished_entering : {e : Before} {draft : Draft} {x : Entered} {whole : Statement} {flow : Flow} → EntersSoFar e draft x → IsFinished draft whole → entered_of flow ≡ x → IsEntering e whole flow
finished_entering {e} {x = x} so_far f is = record {
  once = once_halved f.joined e (so_far.once [] f.parts f.becomes (nothing x.after));
  paths = is ∙ sym (next_on x) ∙ sym (so_far.paths [] f.parts f.becomes) ∙ sym (entered_halved f.joined e);
}

pub body_enters : (e : Before) (s a b : Statement) → a ≡ s → b ≡ S.Skip → EntersOnce s e → EntersOnce a e × EntersOnce b (or_else_of (entered a e).fails e)
body_enters e s a b f g x =
    (subst (λ z. EntersOnce z e) (sym f) x, subst (λ z. EntersOnce z (or_else_of (entered a e).fails e)) (sym g) tt)

pub whole_enters : (e : Before) {s whole : Statement} → IsTried s S.Skip whole → EntersOnce s e → EntersOnce whole e
whole_enters e {s} tried x = body_enters e s s S.Skip refl refl x

-- ---- what is locked

pub node_enters : (e : Before) (l : Locking) (n : ℕ) (number : Expression) → l.place ≡ P.Node n number → e.entered ≡ false → l.held.is_entered ≡ true → passed_of l.held ≡ without_node e.passed n → IsEnteringPlace e l
node_enters e l n number place out within passed = record {
  once = λ g. out;
  held = ap₂ before within passed ∙ ap (λ p. behind_lock p e) (sym place);
}

pub child_enters : (e : Before) (l : Locking) (n parent : ℕ) (number : Expression) → l.place ≡ P.Child n parent number → l.held.is_entered ≡ e.entered → passed_of l.held ≡ without_node (with_node e.passed parent) n
    → IsEnteringPlace e l
child_enters e l n parent number place within passed = record {
  once = λ g. absurd (not_true (sym (ap enters place) ∙ g));
  held = ap₂ before within passed ∙ ap (λ p. behind_lock p e) (sym place);
}

pub pair_enters : (e : Before) (l : Locking) (n k parent : ℕ) (number other : Expression) → l.place ≡ P.Pair n k parent number other → l.held.is_entered ≡ e.entered
    → passed_of l.held ≡ without_node (without_node (with_node e.passed parent) n) k → IsEnteringPlace e l
pair_enters e l n k parent number other place within passed = record {
  once = λ g. absurd (not_true (sym (ap enters place) ∙ g));
  held = ap₂ before within passed ∙ ap (λ p. behind_lock p e) (sym place);
}

-- ---- statements without blocks

pub failing_as : (b : Bool) (e : Before) {may : Bool} {x y z : Entered} → b ≡ may → x ≡ y → z ≡ failing_entered b e x → z ≡ failing_entered may e y
failing_as b e f g h = h ∙ ap₂ (λ c p. failing_entered c e p) f g

fails_once : (b : Bool) (e : Before) → or_of (some_if b e) (Some e) ≡ Some e
fails_once true e = ap Some (join_self e)
fails_once false e = refl

pub require_entering : {p q : _} (e : Before) (c : Condition) (a b : Statement) {flow : Flow} → a ≡ S.Skip → b ≡ S.Fail → entered_of flow ≡ failing_entered true e (on_entered e)
    → IsEntering e (S.If' c p a q b) flow
require_entering {p} {q} e c a b {flow} f g h =
    subst (λ z. IsEntering e (S.If' c p z q b) flow) (sym f) (subst (λ z. IsEntering e (S.If' c p S.Skip q z) flow) (sym g)
    (record { once = (tt, tt); paths = h ∙ ap (λ z. record { after = Some e; fails = z; breaks = None }) (sym (fails_once (condition_may_fail c) e)) }))

-- the emit statements so far
pub record HasEmitted (e : Before) (emits : List Statement) (flow : Flow) : Type 0 where
  pub once : AllEnterOnce emits e
  pub after : (entered_of flow).after ≡ Some e
  pub paths : entered_of flow ≡ entered_all emits e

pub none_emitted_yet : {e : Before} {emits : List Statement} {flow : Flow} → emits ≡ [] → entered_of flow ≡ on_entered e → HasEmitted e emits flow
none_emitted_yet {e} {emits} {flow} n f =
    subst (λ z. HasEmitted e z flow) (sym n) (record { once = tt; after = ap (λ (x : Entered). x.after) f; paths = f })

once_join : (xs ys : List Statement) (e : Before) → AllEnterOnce xs e → IfSome (entered_all xs e).after (AllEnterOnce ys) → AllEnterOnce (xs ++ ys) e
once_join [] ys e s t = t
once_join (x ∷ xs) ys e s t = (s.0, by (λ f. once_join xs ys f) (entered x e).after (entered x e).fails (entered x e).breaks s.1 t)
  where
    by : ((f : Before) → AllEnterOnce xs f → IfSome (entered_all xs f).after (AllEnterOnce ys) → AllEnterOnce (xs ++ ys) f)
        → (o u v : Option Before) → IfSome o (AllEnterOnce xs) → IfSome (then_by o (record { after = o; fails = u; breaks = v }) (entered_all xs)).after (AllEnterOnce ys)
        → IfSome o (AllEnterOnce (xs ++ ys))
    by join None u v s t = tt
    by join (Some f) u v s t = join f s t

one_emit : (n : Expression) (e : Before) (x : Entered) → x.after ≡ Some e → failing_entered (may_fail n) e x ≡ then_by x.after x (entered_all (S.Emit n ∷ []))
one_emit n e x a = by x.after x.fails x.breaks a
  where
    by : (o u v : Option Before) → o ≡ Some e → failing_entered (may_fail n) e (record { after = o; fails = u; breaks = v }) ≡ then_by o (record { after = o; fails = u; breaks = v }) (entered_all (S.Emit n ∷ []))
    by None u v f = cc
    by (Some k) u v f =
        let same : k ≡ e = cc in
        ap₂ (λ x y. record { after = x; fails = or_of (some_if (may_fail n) e) u; breaks = y }) (ap Some same) (sym (or_none v))
        ∙ ap (λ z. record { after = Some e; fails = z; breaks = or_of v None }) (or_comm (some_if (may_fail n) e) u)
        ∙ ap (λ z. record { after = Some e; fails = or_of u z; breaks = or_of v None }) (sym (or_none (some_if (may_fail n) e)))
        ∙ ap (λ z. record { after = Some e; fails = or_of u z; breaks = or_of v None }) (sym (or_none (or_of (some_if (may_fail n) e) None)))
        ∙ ap (λ z. record { after = Some e; fails = or_of u (entered_all (S.Emit n ∷ []) z).fails; breaks = or_of v None }) (sym same)
        ∙ ap (λ z. record { after = Some z; fails = or_of u (entered_all (S.Emit n ∷ []) k).fails; breaks = or_of v None }) (sym same)

pub one_emitted : {e : Before} {emits : List Statement} {flow later : Flow} (n : Expression) (b : Bool) → HasEmitted e emits flow → b ≡ may_fail n → entered_of later ≡ failing_entered b e (entered_of flow)
    → HasEmitted e (emits ++ S.Emit n ∷ []) later
one_emitted {e} {emits} {flow} n b h f g =
    let is = g ∙ ap (λ c. failing_entered c e (entered_of flow)) f in
    record {
      once = once_join emits (S.Emit n ∷ []) e h.once (subst (λ o. IfSome o (AllEnterOnce (S.Emit n ∷ []))) (sym (ap (λ (x : Entered). x.after) (sym h.paths) ∙ h.after)) (tt, tt));
      after = ap (λ (x : Entered). x.after) is ∙ h.after;
      paths = is ∙ one_emit n e (entered_of flow) h.after ∙ ap (λ (x : Entered). then_by x.after x (entered_all (S.Emit n ∷ []))) h.paths ∙ sym (entered_append emits (S.Emit n ∷ []) e);
    }

pub all_emitted : {e : Before} {emits : List Statement} {flow : Flow} {whole : Statement} → IsHalved whole emits → HasEmitted e emits flow → IsEntering e whole flow
all_emitted {e} j h = record { once = once_halved j e h.once; paths = h.paths ∙ sym (entered_halved j e) }

-- ---- a declaration with its `else`, which leaves the block

pub value_else_entering : {e : Before} {x : ℕ} {n : Expression} {o : Statement} {refusal flow : Flow} → IsEntering e o refusal → known refusal.after ≡ None
    → entered_of flow ≡ record (entered_of refusal) { after = Some e } → IsEnteringBinding e (B.ValueElse x n o) flow
value_else_entering {e} {refusal = refusal} x ends f = record {
  once = (x.once, ap (λ (z : Entered). z.after) (sym x.paths) ∙ no_way refusal.after ends);
  paths = f ∙ ap (λ (z : Entered). record z { after = Some e }) x.paths;
}

pub nodes_entering : {e : Before} (l : Locking) {o : Statement} {refusal flow : Flow} → IsEnteringPlace e l → IsEntering e o refusal → known refusal.after ≡ None
    → entered_of flow ≡ record (entered_of refusal) { after = Some (before_of l.held) } → IsEnteringBinding e (B.Nodes l.place o) flow
nodes_entering {e} l {refusal = refusal} place x ends f = record {
  once = (place.once, x.once, ap (λ (z : Entered). z.after) (sym x.paths) ∙ no_way refusal.after ends);
  paths = f ∙ ap (λ h. record (entered_of refusal) { after = Some h }) place.held ∙ ap (λ (z : Entered). record z { after = Some (behind_lock l.place e) }) x.paths;
}
