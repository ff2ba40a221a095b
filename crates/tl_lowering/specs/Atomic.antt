-- Whether a field may have been written on a path to a place, and what an atomic procedure promises.
use Rattle.std.specs.Prelude.{◌≡◌, Bool, true, false, ◌||◌, Option, Some, None, IfSome, if◌then◌else◌}
use Rattle.std.specs.Option.{unwrap_or}
use Rattle.tl_lowering.specs.declared.atomic.Ways.{Ways}
use Rattle.tl_lowering.specs.declared.program.Statement.{Statement}
use Rattle.tl_lowering.specs.declared.program.Statement.TheVariants as S
use Rattle.tl_lowering.specs.Outcomes.{may_fail, condition_may_fail}
use Rattle.tl_lowering.specs.Walks.{is_walk}

-- where paths join
abbrev pub or_of : Option Bool → Option Bool → Option Bool
or_of None o = o
or_of (Some w) None = Some w
or_of (Some w) (Some v) = Some (w || v)

-- on, and nowhere else
abbrev pub on : Bool → Ways
on w = record { after = Some w; fails = None; breaks = None }

abbrev pub nowhere : Ways
nowhere = record { after = None; fails = None; breaks = None }

abbrev pub failing_if : Bool → Bool → Ways → Ways
failing_if true w x = record x { fails = or_of (Some w) x.fails }
failing_if false w x = x

abbrev pub either : Ways → Ways → Ways
either x y = record { after = or_of x.after y.after; fails = or_of x.fails y.fails; breaks = or_of x.breaks y.breaks }

-- one, and where control goes on from it, the next
abbrev pub then_by : Option Bool → Ways → (Bool → Ways) → Ways
then_by None x more = x
then_by (Some w) x more = record { after = (more w).after; fails = or_of x.fails (more w).fails; breaks = or_of x.breaks (more w).breaks }

-- a turn may begin behind another one
abbrev pub in_turns : (Bool → Ways) → Bool → Ways
in_turns turn w = turn (w || unwrap_or (turn w).after false)

-- behind a loop, and where it fails: `first` says whether it may do so before its first turn
abbrev pub behind_turns : Bool → Bool → Ways → Ways
behind_turns true w x = record { after = or_of (Some w) (or_of x.after x.breaks); fails = or_of (Some w) x.fails; breaks = None }
behind_turns false w x = record { after = or_of x.after x.breaks; fails = x.fails; breaks = None }

abbrev mutual
  -- behind a statement, where its failure is handled, and behind the loop that it breaks out of, if `w` says so of the place before it
  pub written : Statement → Bool → Ways
  written S.Skip w = on w
  written (S.Sequence' p a q b) w = let x = written a w in then_by x.after x (written b)
  written (S.Assign v e) w = failing_if (may_fail e) w (on w)
  written (S.Write n f e) w = failing_if (may_fail e) w (on true)
  written (S.Emit e) w = failing_if (may_fail e) w (on w)
  written (S.Free n) w = on w
  written (S.Descend n e) w = failing_if true w (on w)
  written (S.Take n k) w = on w
  written S.Break w = record nowhere { breaks = Some w }
  written S.Return w = nowhere
  written S.Fail w = record nowhere { fails = Some w }
  written (S.If' c p a q b) w = failing_if (condition_may_fail c) w (either (written a w) (written b w))
  -- of such a loop's own failures only those before its first turn count
  written (S.Let' v e p a) w = failing_if (may_fail e) w (if is_walk v e a then behind_turns true w (in_turns (body_written a) w) else written a w)
  written (S.LetElse' v e p a q o) w = either (written a w) (written o w)
  written (S.Lock' place p a q o) w = either (written a w) (written o w)
  written (S.Try' p a q b) w =
      let x = written a w in
      let y = written b (unwrap_or x.fails w) in
      record { after = or_of x.after y.after; fails = y.fails; breaks = or_of x.breaks y.breaks }
  written (S.Repeat' t p a) w = behind_turns false w (in_turns (written a) w)
  written (S.RepeatUpTo' e t p a) w = behind_turns true w (in_turns (written a) w)
  written (S.At' offset p a) w = written a w

  -- the same of the body of a loop over children, which stands behind the lock of each turn
  pub body_written : Statement → Bool → Ways
  body_written (S.RepeatUpTo' e t p a) w = body_written a w
  body_written (S.Sequence' p a q b) w = body_written b w
  body_written (S.Lock' place p a q o) w = written a w
  body_written a w = nowhere

-- on no path a failure that the statement doesn't handle follows a write
abbrev pub IsAtomic : Statement → Type 0
IsAtomic body = IfSome (written body false).fails (λ w. w ≡ false)
