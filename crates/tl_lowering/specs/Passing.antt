-- What was done on the paths to a position: whether one of them entered the tree, and which nodes' children were passed on all of them.
use Rattle.std.specs.Prelude.{ℕ, ◌≡◌, List, [], ◌∷◌, Bool, true, false, not, ◌&&◌, ◌||◌, Option, Some, None, IfSome, map, nat_eq, slice_set}
use Rattle.std.specs.List.{range_with_len}
use Rattle.tl_instr.specs.declared.operand.TheConstants.{NODE_REGISTERS}
use Rattle.tl_lowering.specs.declared.program.Place.{Place}
use Rattle.tl_lowering.specs.declared.program.Place.TheVariants as P
use Rattle.tl_lowering.specs.declared.program.Statement.{Statement}
use Rattle.tl_lowering.specs.declared.program.Statement.TheVariants as S
use Rattle.tl_lowering.specs.Outcomes.{may_fail, condition_may_fail}
use Rattle.tl_lowering.specs.Sets.{Nodes, none_held, holds, with_node, without_node, both, minus}

-- ---- going down

-- whether the lock puts a node into register n
abbrev pub locks_in : Place → ℕ → Bool
locks_in (P.Node k e) n = nat_eq k n
locks_in (P.Child k p e) n = nat_eq k n
locks_in (P.Pair k l p a b) n = nat_eq k n || nat_eq l n

-- whether the statement descends from the node that register n holds at its start, or takes another node in its place
abbrev pub descends_from : Statement → ℕ → Bool
descends_from S.Skip n = false
descends_from (S.Sequence' p a q b) n = descends_from a n || descends_from b n
descends_from (S.Assign x e) n = false
descends_from (S.Write k f e) n = false
descends_from (S.Emit e) n = false
descends_from (S.Free k) n = false
descends_from (S.Descend k e) n = nat_eq k n
descends_from (S.Take k l) n = nat_eq k n
descends_from S.Break n = false
descends_from S.Return n = false
descends_from S.Fail n = false
descends_from (S.If' c p a q b) n = descends_from a n || descends_from b n
descends_from (S.Let' x e p a) n = descends_from a n
descends_from (S.LetElse' x e p a q o) n = descends_from a n || descends_from o n
descends_from (S.Lock' place p a q o) n = (descends_from a n && not (locks_in place n)) || descends_from o n
descends_from (S.Try' p a q b) n = descends_from a n || descends_from b n
descends_from (S.Repeat' w p a) n = descends_from a n
descends_from (S.RepeatUpTo' e w p a) n = descends_from a n
descends_from (S.At' offset p a) n = descends_from a n

abbrev pub descend_from : List Statement → ℕ → Bool
descend_from [] n = false
descend_from (s ∷ ss) n = descends_from s n || descend_from ss n

-- ---- what was done before a place

-- Whether some path has entered the tree by `lock n = node(e)`, and the registers of nodes whose children were passed on
-- every path: a child was locked, or the children were gone through.
pub record Before : Type 0 where
  pub entered : Bool
  pub passed : Nodes

-- at the start of a procedure
abbrev pub nothing_before : Before
nothing_before = record { entered = false; passed = none_held }

-- where two paths join
abbrev pub join : Before → Before → Before
join b c = record { entered = b.entered || c.entered; passed = both b.passed c.passed }

-- after a lock: no child of a newly locked node was passed yet
abbrev pub behind_lock : Place → Before → Before
behind_lock (P.Node n e) b = record { entered = true; passed = without_node b.passed n }
behind_lock (P.Child n p e) b = record b { passed = without_node (with_node b.passed p) n }
behind_lock (P.Pair n k p a c) b = record b { passed = without_node (without_node (with_node b.passed p) n) k }

-- the node through whose children a loop with this turn goes, if it is a `for each`
abbrev pub walks : Statement → Option ℕ
walks (S.Sequence' p (S.Assign x e) q (S.Lock' (P.Child n m i) r a s S.Fail)) = Some m
walks other = None

-- without a turn, a `for each` has gone through all children too, since there are none
abbrev pub through : Option ℕ → Before → Before
through None b = b
through (Some n) b = record b { passed = with_node b.passed n }

abbrev pub registers : (ℕ → Bool) → Nodes
registers among = map among (range_with_len 0 NODE_REGISTERS)

-- at the start of a turn: nodes from which a turn descends don't count as passed, since an earlier turn may have descended
abbrev pub before_turn : Statement → Before → Before
before_turn turn b = record b { passed = minus b.passed (registers (descends_from turn)) }

-- ---- along the paths of a statement

-- what was done after a statement, where its failure is handled, and after the loop that it leaves by `break`; None if no path leads there
pub record Entered : Type 0 where
  pub after : Option Before
  pub fails : Option Before
  pub breaks : Option Before

abbrev pub or_of : Option Before → Option Before → Option Before
or_of None o = o
or_of (Some b) None = Some b
or_of (Some b) (Some c) = Some (join b c)

abbrev pub enters : Place → Bool
enters (P.Node n e) = true
enters (P.Child n p e) = false
enters (P.Pair n k p a b) = false

abbrev pub some_if : Bool → Before → Option Before
some_if true b = Some b
some_if false b = None

abbrev pub or_else_of : Option Before → Before → Before
or_else_of None b = b
or_else_of (Some c) b = c

abbrev pub either_entered : Entered → Entered → Entered
either_entered x y = record { after = or_of x.after y.after; fails = or_of x.fails y.fails; breaks = or_of x.breaks y.breaks }

abbrev pub then_by : Option Before → Entered → (Before → Entered) → Entered
then_by None x more = x
then_by (Some e) x more = record { after = (more e).after; fails = or_of x.fails (more e).fails; breaks = or_of x.breaks (more e).breaks }

abbrev pub failing_entered : Bool → Before → Entered → Entered
failing_entered may e x = record x { fails = or_of (some_if may e) x.fails }

abbrev pub on_entered : Before → Entered
on_entered e = record { after = Some e; fails = None; breaks = None }

abbrev pub nowhere_entered : Entered
nowhere_entered = record { after = None; fails = None; breaks = None }

-- the same for a statement before which e was done
abbrev pub entered : Statement → Before → Entered
entered S.Skip e = on_entered e
entered (S.Sequence' p a q b) e = let x = entered a e in then_by x.after x (entered b)
entered (S.Assign v x) e = failing_entered (may_fail x) e (on_entered e)
entered (S.Write n f x) e = failing_entered (may_fail x) e (on_entered e)
entered (S.Emit x) e = failing_entered (may_fail x) e (on_entered e)
entered (S.Free n) e = on_entered e
entered (S.Descend n x) e = failing_entered true e (on_entered (record e { passed = without_node e.passed n }))
entered (S.Take n k) e = on_entered (record e { passed = slice_set e.passed n (holds e.passed k) })
entered S.Break e = record nowhere_entered { breaks = Some e }
entered S.Return e = nowhere_entered
entered S.Fail e = record nowhere_entered { fails = Some e }
entered (S.If' c p a q b) e = failing_entered (condition_may_fail c) e (either_entered (entered a e) (entered b e))
entered (S.Let' v x p a) e = failing_entered (may_fail x) e (entered a e)
entered (S.LetElse' v x p a q o) e = either_entered (entered a e) (entered o e)
entered (S.Lock' place p a q o) e = either_entered (entered a (behind_lock place e)) (entered o e)
entered (S.Try' p a q b) e =
    let x = entered a e in
    let y = entered b (or_else_of x.fails e) in
    record { after = or_of x.after y.after; fails = y.fails; breaks = or_of x.breaks y.breaks }
entered (S.Repeat' w p a) e = let x = entered a (before_turn a e) in record { after = or_of x.after x.breaks; fails = x.fails; breaks = None }
entered (S.RepeatUpTo' n w p a) e =
    let x = entered a (before_turn a e) in
    record { after = or_of (Some (through (walks a) e)) (or_of x.after x.breaks); fails = or_of (Some e) x.fails; breaks = None }
entered (S.At' offset p a) e = entered a e

-- a turn that reaches its end hasn't entered the tree
abbrev pub KeepsOut : Option Before → Before → Type 0
KeepsOut end b = IfSome end (λ c. c.entered ≡ true → b.entered ≡ true)

-- The tree is entered at most once on each path, and not in a turn of a loop that reaches its end. A `for each` begins
-- only where the children weren't passed on some path.
abbrev pub EntersOnce : Statement → Before → Type 0
EntersOnce S.Skip e = Unit {0}
EntersOnce (S.Sequence' p a q b) e = EntersOnce a e × IfSome (entered a e).after (λ f. EntersOnce b f)
EntersOnce (S.Assign v x) e = Unit {0}
EntersOnce (S.Write n f x) e = Unit {0}
EntersOnce (S.Emit x) e = Unit {0}
EntersOnce (S.Free n) e = Unit {0}
EntersOnce (S.Descend n x) e = Unit {0}
EntersOnce (S.Take n k) e = Unit {0}
EntersOnce S.Break e = Unit {0}
EntersOnce S.Return e = Unit {0}
EntersOnce S.Fail e = Unit {0}
EntersOnce (S.If' c p a q b) e = EntersOnce a e × EntersOnce b e
EntersOnce (S.Let' v x p a) e = EntersOnce a e
EntersOnce (S.LetElse' v x p a q o) e = EntersOnce a e × EntersOnce o e
EntersOnce (S.Lock' place p a q o) e = (enters place ≡ true → e.entered ≡ false) × EntersOnce a (behind_lock place e) × EntersOnce o e
EntersOnce (S.Try' p a q b) e = EntersOnce a e × EntersOnce b (or_else_of (entered a e).fails e)
EntersOnce (S.Repeat' w p a) e = let start = before_turn a e in EntersOnce a start × KeepsOut (entered a start).after e
EntersOnce (S.RepeatUpTo' n w p a) e =
    let start = before_turn a e in EntersOnce a start × KeepsOut (entered a start).after e × IfSome (walks a) (λ n. holds e.passed n ≡ false)
EntersOnce (S.At' offset p a) e = EntersOnce a e
