-- Only whether the tree may have been entered; tl_lowering's specs/Passing.antt has this together with the children that were passed.
use Rattle.std.proofs.Common.{◌≡◌, ℕ, Bool, true, false, ◌||◌, Option, Some, None, option_map, refl, sym, ◌∙◌, ap, ap₂, subst}
use Rattle.std.specs.Prelude.{IfSome}
use Rattle.tl_lowering.specs.declared.program.Place.{Place}
use Rattle.tl_lowering.specs.declared.program.Place.TheVariants as P
use Rattle.tl_lowering.specs.declared.program.Statement.{Statement}
use Rattle.tl_lowering.specs.declared.program.Statement.TheVariants as S
use Rattle.tl_lowering.specs.Outcomes.{may_fail, condition_may_fail}
use Rattle.tl_lowering.specs.Passing as passing
use Rattle.tl_lowering.specs.Passing.{Before, enters, behind_lock, walks, through, before_turn}

pub record Entered : Type 0 where
  pub after : Option Bool
  pub fails : Option Bool
  pub breaks : Option Bool

abbrev pub or_of : Option Bool → Option Bool → Option Bool
or_of None o = o
or_of (Some x) None = Some x
or_of (Some x) (Some y) = Some (x || y)

abbrev pub some_if : Bool → Bool → Option Bool
some_if true e = Some e
some_if false e = None

abbrev pub or_else_of : Option Bool → Bool → Bool
or_else_of None e = e
or_else_of (Some x) e = x

abbrev pub either_entered : Entered → Entered → Entered
either_entered x y = record { after = or_of x.after y.after; fails = or_of x.fails y.fails; breaks = or_of x.breaks y.breaks }

abbrev pub then_by : Option Bool → Entered → (Bool → Entered) → Entered
then_by None x more = x
then_by (Some e) x more = record { after = (more e).after; fails = or_of x.fails (more e).fails; breaks = or_of x.breaks (more e).breaks }

abbrev pub failing_entered : Bool → Bool → Entered → Entered
failing_entered may e x = record x { fails = or_of (some_if may e) x.fails }

abbrev pub on_entered : Bool → Entered
on_entered e = record { after = Some e; fails = None; breaks = None }

abbrev pub entered : Statement → Bool → Entered
entered S.Skip e = on_entered e
entered (S.Sequence' p a q b) e = let x = entered a e in then_by x.after x (entered b)
entered (S.Assign v x) e = failing_entered (may_fail x) e (on_entered e)
entered (S.Write n f x) e = failing_entered (may_fail x) e (on_entered e)
entered (S.Emit x) e = failing_entered (may_fail x) e (on_entered e)
entered (S.Free n) e = on_entered e
entered (S.Descend n x) e = failing_entered true e (on_entered e)
entered (S.Take n k) e = on_entered e
entered S.Break e = record { after = None; fails = None; breaks = Some e }
entered S.Return e = record { after = None; fails = None; breaks = None }
entered S.Fail e = record { after = None; fails = Some e; breaks = None }
entered (S.If' c p a q b) e = failing_entered (condition_may_fail c) e (either_entered (entered a e) (entered b e))
entered (S.Let' v x p a) e = failing_entered (may_fail x) e (entered a e)
entered (S.LetElse' v x p a q o) e = either_entered (entered a e) (entered o e)
entered (S.Lock' place p a q o) e = either_entered (entered a (e || enters place)) (entered o e)
entered (S.Try' p a q b) e =
    let x = entered a e in
    let y = entered b (or_else_of x.fails e) in
    record { after = or_of x.after y.after; fails = y.fails; breaks = or_of x.breaks y.breaks }
entered (S.Repeat' w p a) e = let x = entered a e in record { after = or_of x.after x.breaks; fails = x.fails; breaks = None }
entered (S.RepeatUpTo' n w p a) e =
    let x = entered a e in
    record { after = or_of (Some e) (or_of x.after x.breaks); fails = or_of (Some e) x.fails; breaks = None }
entered (S.At' offset p a) e = entered a e

abbrev pub EntersOnce : Statement → Bool → Type 0
EntersOnce (S.Sequence' p a q b) e = EntersOnce a e × IfSome (entered a e).after (λ f. EntersOnce b f)
EntersOnce (S.If' c p a q b) e = EntersOnce a e × EntersOnce b e
EntersOnce (S.Let' v x p a) e = EntersOnce a e
EntersOnce (S.LetElse' v x p a q o) e = EntersOnce a e × EntersOnce o e
EntersOnce (S.Lock' place p a q o) e = (enters place ≡ true → e ≡ false) × EntersOnce a (e || enters place) × EntersOnce o e
EntersOnce (S.Try' p a q b) e = EntersOnce a e × EntersOnce b (or_else_of (entered a e).fails e)
EntersOnce (S.Repeat' w p a) e = EntersOnce a e × IfSome (entered a e).after (λ f. f ≡ true → e ≡ true)
EntersOnce (S.RepeatUpTo' n w p a) e = EntersOnce a e × IfSome (entered a e).after (λ f. f ≡ true → e ≡ true)
EntersOnce (S.At' offset p a) e = EntersOnce a e
EntersOnce S.Skip e = Unit {0}
EntersOnce (S.Assign v x) e = Unit {0}
EntersOnce (S.Write n f x) e = Unit {0}
EntersOnce (S.Emit x) e = Unit {0}
EntersOnce (S.Free n) e = Unit {0}
EntersOnce (S.Descend n x) e = Unit {0}
EntersOnce (S.Take n k) e = Unit {0}
EntersOnce S.Break e = Unit {0}
EntersOnce S.Return e = Unit {0}
EntersOnce S.Fail e = Unit {0}

-- ---- what is known of all that was done tells that

abbrev pub flag : Option Before → Option Bool
flag o = option_map (λ (b : Before). b.entered) o

pub record Shows (x : Entered) (y : passing.Entered) : Type 0 where
  pub after : x.after ≡ flag y.after
  pub fails : x.fails ≡ flag y.fails
  pub breaks : x.breaks ≡ flag y.breaks

or_flag : (o p : Option Before) → or_of (flag o) (flag p) ≡ flag (passing.or_of o p)
or_flag None p = refl
or_flag (Some b) None = refl
or_flag (Some b) (Some c) = refl

or_shows : (a b : Option Bool) (o p : Option Before) → a ≡ flag o → b ≡ flag p → or_of a b ≡ flag (passing.or_of o p)
or_shows a b o p x y = ap₂ or_of x y ∙ or_flag o p

some_shows : (may : Bool) (b : Before) → some_if may b.entered ≡ flag (passing.some_if may b)
some_shows true b = refl
some_shows false b = refl

else_shows : (a : Option Bool) (o : Option Before) (b : Before) → a ≡ flag o → or_else_of a b.entered ≡ (passing.or_else_of o b).entered
else_shows None None b e = refl
else_shows (Some x) (Some c) b e = let same : x ≡ c.entered = cc in same
else_shows None (Some c) b e = cc
else_shows (Some x) None b e = cc

failing_shows : (may : Bool) (b : Before) {x : Entered} {y : passing.Entered} → Shows x y → Shows (failing_entered may b.entered x) (passing.failing_entered may b y)
failing_shows may b {x} {y} s = record { after = s.after; fails = or_shows (some_if may b.entered) x.fails (passing.some_if may b) y.fails (some_shows may b) s.fails; breaks = s.breaks }

either_shows : {x u : Entered} {y v : passing.Entered} → Shows x y → Shows u v → Shows (either_entered x u) (passing.either_entered y v)
either_shows {x} {u} {y} {v} s t = record {
  after = or_shows x.after u.after y.after v.after s.after t.after;
  fails = or_shows x.fails u.fails y.fails v.fails s.fails t.fails;
  breaks = or_shows x.breaks u.breaks y.breaks v.breaks s.breaks t.breaks;
}

on_shows : (b : Before) → Shows (on_entered b.entered) (passing.on_entered b)
on_shows b = record { after = refl; fails = refl; breaks = refl }

then_shows : (a : Option Bool) (o : Option Before) → a ≡ flag o → (x : Entered) (y : passing.Entered) → Shows x y → (f : Bool → Entered) (g : Before → passing.Entered)
    → ((b : Before) → Shows (f b.entered) (g b)) → Shows (then_by a x f) (passing.then_by o y g)
then_shows None None e x y s f g more = s
then_shows None (Some b) e x y s f g more = cc
then_shows (Some a) None e x y s f g more = cc
then_shows (Some a) (Some b) e x y s f g more =
    let same : a ≡ b.entered = cc in
    let m = more b in
    subst (λ c. Shows (then_by (Some c) x f) (passing.then_by (Some b) y g)) (sym same)
    (record {
      after = m.after;
      fails = or_shows x.fails (f b.entered).fails y.fails (g b).fails s.fails m.fails;
      breaks = or_shows x.breaks (f b.entered).breaks y.breaks (g b).breaks s.breaks m.breaks;
    })

or_true : (x : Bool) → (x || true) ≡ true
or_true true = refl
or_true false = refl

or_false : (x : Bool) → (x || false) ≡ x
or_false true = refl
or_false false = refl

lock_shows : (place : Place) (b : Before) → b.entered || enters place ≡ (behind_lock place b).entered
lock_shows (P.Node n e) b = or_true b.entered
lock_shows (P.Child n p e) b = or_false b.entered
lock_shows (P.Pair n k p a c) b = or_false b.entered

through_shows : (o : Option ℕ) (b : Before) → b.entered ≡ (through o b).entered
through_shows None b = refl
through_shows (Some n) b = refl

pub entered_shows : (a : Statement) (b : Before) → Shows (entered a b.entered) (passing.entered a b)
entered_shows S.Skip b = on_shows b
entered_shows (S.Sequence' p a q c) b =
    let s = entered_shows a b in
    then_shows (entered a b.entered).after (passing.entered a b).after s.after (entered a b.entered) (passing.entered a b) s (entered c) (passing.entered c) (entered_shows c)
entered_shows (S.Assign v x) b = failing_shows (may_fail x) b (on_shows b)
entered_shows (S.Write n f x) b = failing_shows (may_fail x) b (on_shows b)
entered_shows (S.Emit x) b = failing_shows (may_fail x) b (on_shows b)
entered_shows (S.Free n) b = on_shows b
entered_shows (S.Descend n x) b = record { after = refl; fails = refl; breaks = refl }
entered_shows (S.Take n k) b = record { after = refl; fails = refl; breaks = refl }
entered_shows S.Break b = record { after = refl; fails = refl; breaks = refl }
entered_shows S.Return b = record { after = refl; fails = refl; breaks = refl }
entered_shows S.Fail b = record { after = refl; fails = refl; breaks = refl }
entered_shows (S.If' c p a q o) b = failing_shows (condition_may_fail c) b (either_shows (entered_shows a b) (entered_shows o b))
entered_shows (S.Let' v x p a) b = failing_shows (may_fail x) b (entered_shows a b)
entered_shows (S.LetElse' v x p a q o) b = either_shows (entered_shows a b) (entered_shows o b)
entered_shows (S.Lock' place p a q o) b =
    either_shows (subst (λ e. Shows (entered a e) (passing.entered a (behind_lock place b))) (sym (lock_shows place b)) (entered_shows a (behind_lock place b)))
    (entered_shows o b)
entered_shows (S.Try' p a q c) b =
    let s = entered_shows a b in
    let start = passing.or_else_of (passing.entered a b).fails b in
    let same = else_shows (entered a b.entered).fails (passing.entered a b).fails b s.fails in
    let t = subst (λ e. Shows (entered c e) (passing.entered c start)) (sym same) (entered_shows c start) in
    let x = entered a b.entered in
    let y = passing.entered a b in
    let u = entered c (or_else_of x.fails b.entered) in
    let v = passing.entered c start in
    record { after = or_shows x.after u.after y.after v.after s.after t.after; fails = t.fails; breaks = or_shows x.breaks u.breaks y.breaks v.breaks s.breaks t.breaks }
entered_shows (S.Repeat' w p a) b =
    let s = entered_shows a (before_turn a b) in
    let x = entered a b.entered in
    let y = passing.entered a (before_turn a b) in
    record { after = or_shows x.after x.breaks y.after y.breaks s.after s.breaks; fails = s.fails; breaks = refl }
entered_shows (S.RepeatUpTo' n w p a) b =
    let s = entered_shows a (before_turn a b) in
    let x = entered a b.entered in
    let y = passing.entered a (before_turn a b) in
    record {
      after = or_shows (Some b.entered) (or_of x.after x.breaks) (Some (through (walks a) b)) (passing.or_of y.after y.breaks) (ap Some (through_shows (walks a) b)) (or_shows x.after x.breaks y.after y.breaks s.after s.breaks);
      fails = or_shows (Some b.entered) x.fails (Some b) y.fails refl s.fails;
      breaks = refl;
    }
entered_shows (S.At' offset p a) b = entered_shows a b

if_shows : (a : Option Bool) (o : Option Before) → a ≡ flag o → (F : Bool → Type 0) (G : Before → Type 0) → ((b : Before) → G b → F b.entered) → IfSome o G → IfSome a F
if_shows None None e F G f g = tt
if_shows None (Some b) e F G f g = tt
if_shows (Some a) None e F G f g = cc
if_shows (Some a) (Some b) e F G f g = let same : a ≡ b.entered = cc in subst F (sym same) (f b g)

pub enters_once : (a : Statement) (b : Before) → passing.EntersOnce a b → EntersOnce a b.entered
enters_once S.Skip b x = tt
enters_once (S.Sequence' p a q c) b (x, y) = (
  enters_once a b x,
  if_shows (entered a b.entered).after (passing.entered a b).after (entered_shows a b).after (λ f. EntersOnce c f) (λ f. passing.EntersOnce c f) (enters_once c) y,
)
enters_once (S.Assign v n) b x = tt
enters_once (S.Write n f v) b x = tt
enters_once (S.Emit n) b x = tt
enters_once (S.Free n) b x = tt
enters_once (S.Descend n v) b x = tt
enters_once (S.Take n k) b x = tt
enters_once S.Break b x = tt
enters_once S.Return b x = tt
enters_once S.Fail b x = tt
enters_once (S.If' c p a q o) b (x, y) = (enters_once a b x, enters_once o b y)
enters_once (S.Let' v n p a) b x = enters_once a b x
enters_once (S.LetElse' v n p a q o) b (x, y) = (enters_once a b x, enters_once o b y)
enters_once (S.Lock' place p a q o) b (x, y, z) = (
  x,
  subst (λ e. EntersOnce a e) (sym (lock_shows place b)) (enters_once a (behind_lock place b) y),
  enters_once o b z,
)
enters_once (S.Try' p a q c) b (x, y) =
    let same = else_shows (entered a b.entered).fails (passing.entered a b).fails b (entered_shows a b).fails in
    (enters_once a b x, subst (λ e. EntersOnce c e) (sym same) (enters_once c (passing.or_else_of (passing.entered a b).fails b) y))
enters_once (S.Repeat' w p a) b (x, y) =
    let start = before_turn a b in
    (enters_once a start x, if_shows (entered a b.entered).after (passing.entered a start).after (entered_shows a start).after (λ f. f ≡ true → b.entered ≡ true) (λ (c : Before). c.entered ≡ true → b.entered ≡ true) (λ c k. k) y)
enters_once (S.RepeatUpTo' n w p a) b (x, y, z) =
    let start = before_turn a b in
    (enters_once a start x, if_shows (entered a b.entered).after (passing.entered a start).after (entered_shows a start).after (λ f. f ≡ true → b.entered ≡ true) (λ (c : Before). c.entered ≡ true → b.entered ≡ true) (λ c k. k) y)
enters_once (S.At' offset p a) b x = enters_once a b x
