-- What was done before the positions to which a block's paths lead: whether the tree was entered, and which nodes' children were passed.
use Rattle.std.specs.Prelude.{◌≡◌, ℕ, List, [], ◌∷◌, Bool, true, false, not, ◌&&◌, Option, Some, None, IfSome, option_map, nat_eq}
use Rattle.tl_lowering.specs.declared.loops.Repetition.{Repetition}
use Rattle.tl_lowering.specs.declared.loops.Repetition.TheVariants as R
use Rattle.tl_lowering.specs.declared.lowering.Binding.{Binding}
use Rattle.tl_lowering.specs.declared.lowering.Binding.TheVariants as B
use Rattle.tl_lowering.specs.declared.lowering.Draft.{Draft}
use Rattle.tl_lowering.specs.declared.lowering.Entrance.{Entrance}
use Rattle.tl_lowering.specs.declared.lowering.Entrance.TheVariants as E
use Rattle.tl_lowering.specs.declared.lowering.Head.{Head}
use Rattle.tl_lowering.specs.declared.lowering.Head.TheVariants as H
use Rattle.tl_lowering.specs.declared.naming.Locking.{Locking}
use Rattle.tl_lowering.specs.declared.paths.Flow.{Flow}
use Rattle.tl_lowering.specs.declared.paths.Held.{Held}
use Rattle.tl_lowering.specs.declared.program.Statement.{Statement}
use Rattle.tl_lowering.specs.Drafts.{Becomes}
use Rattle.tl_lowering.specs.Outcomes.{may_fail}
use Rattle.tl_lowering.specs.Passing.{Before, Entered, enters, behind_lock, registers, descends_from, then_by, on_entered, failing_entered, entered, EntersOnce}
use Rattle.tl_lowering.specs.Paths.{passed_of}
use Rattle.tl_lowering.specs.Repeating.{passed_within}
use Rattle.tl_lowering.specs.Sets.{minus}

abbrev pub before_of : Held → Before
before_of held = record { entered = held.is_entered; passed = passed_of held }

-- what was done on the paths, if there are any
abbrev pub entered_at : Option Held → Option Before
entered_at held = option_map before_of held

abbrev pub entered_of : Flow → Entered
entered_of flow = record { after = entered_at flow.after; fails = entered_at flow.fails; breaks = entered_at flow.breaks }

-- The statement enters the tree at most once on each path and never goes through children that were passed. The flow says
-- what was done at the ends of its paths.
pub record IsEntering (e : Before) (s : Statement) (flow : Flow) : Type 0 where
  pub once : EntersOnce s e
  pub paths : entered_of flow ≡ entered s e

-- ---- statements one after another

abbrev pub entered_all : List Statement → Before → Entered
entered_all [] e = on_entered e
entered_all (s ∷ ss) e = let x = entered s e in then_by x.after x (entered_all ss)

abbrev pub AllEnterOnce : List Statement → Before → Type 0
AllEnterOnce [] e = Unit {0}
AllEnterOnce (s ∷ ss) e = EntersOnce s e × IfSome (entered s e).after (AllEnterOnce ss)

-- ---- declarations

-- the lock enters the tree only if it wasn't entered before, and `held` says what was done after it
pub record IsEnteringPlace (e : Before) (l : Locking) : Type 0 where
  pub once : enters l.place ≡ true → e.entered ≡ false
  pub held : before_of l.held ≡ behind_lock l.place e

-- what was done after a `let` or a `lock`
abbrev pub binding_entered : Binding → Before → Entered
binding_entered (B.Value x n) e = failing_entered (may_fail n) e (on_entered e)
binding_entered (B.ValueElse x n o) e = record (entered o e) { after = Some e }
binding_entered (B.Nodes place o) e = record (entered o e) { after = Some (behind_lock place e) }

abbrev pub BindsOnce : Binding → Before → Type 0
BindsOnce (B.Value x n) e = Unit {0}
BindsOnce (B.ValueElse x n o) e = EntersOnce o e × ((entered o e).after ≡ None)
BindsOnce (B.Nodes place o) e = (enters place ≡ true → e.entered ≡ false) × EntersOnce o e × ((entered o e).after ≡ None)

pub record IsEnteringBinding (e : Before) (b : Binding) (flow : Flow) : Type 0 where
  pub once : BindsOnce b e
  pub paths : entered_of flow ≡ binding_entered b e

abbrev pub IsEnteringHead : Before → Head → Type 0
IsEnteringHead e (H.Value name register number) = Unit {0}
IsEnteringHead e (H.Nodes locking) = IsEnteringPlace e locking

-- what was done when the first block of an `if` begins
abbrev pub entrance_entered : Entrance → Before → Before
entrance_entered (E.Condition c) e = e
entrance_entered (E.Lock locking) e = behind_lock locking.place e

abbrev pub IsEnteringEntrance : Before → Entrance → Type 0
IsEnteringEntrance e (E.Condition c) = Unit {0}
IsEnteringEntrance e (E.Lock locking) = IsEnteringPlace e locking

-- ---- loops

-- what was done when the body of a loop begins
abbrev pub before_body : Repetition → Before → Before
before_body repetition b = record b { passed = passed_within repetition b.passed }

-- whether a turn descends from the node that register n holds when the loop begins; a child's register belongs to the loop itself
abbrev pub turn_descends : Repetition → Statement → ℕ → Bool
turn_descends (R.Times w) body n = descends_from body n
turn_descends (R.UpTo e w) body n = descends_from body n
turn_descends (R.Children v) body n = descends_from body n && not (nat_eq v.child n)

-- what was done when each turn begins
abbrev pub before_turns : Repetition → Statement → Before → Before
before_turns repetition body b = record b { passed = minus b.passed (registers (turn_descends repetition body)) }

-- ---- a block

-- for any statements that follow, the block does what has been read so far and then these statements
pub record EntersSoFar (e : Before) (draft : Draft) (x : Entered) : Type 0 where
  pub once : (items all : List Statement) → Becomes draft items all → IfSome x.after (AllEnterOnce items) → AllEnterOnce all e
  pub paths : (items all : List Statement) → Becomes draft items all → entered_all all e ≡ then_by x.after x (entered_all items)
