-- A call that follows a segment: it does the segment's local actions and the action at its stop.
use Rattle.std.specs.Prelude.{◌≡◌, ◌≢◌, ℕ, ◌<◌, ◌≤◌, ◌⊎◌, true, List, [], ◌∷◌, ◌++◌, length, Some, Ok}
use Rattle.tl_tree_locking.specs.declared.action.Action.{Action}
use Rattle.tl_tree_locking.specs.declared.action.Action.TheVariants as did
use Rattle.tl_tree_locking.specs.History.{is_done, admits, IsOpen}
use Rattle.tl_tree_locking.specs.Holders.{holder_of}
use Rattle.tl_tree_locking.specs.World.{next_of, reply_of}
use Rattle.tl_machine.specs.BetweenSteps.{IsLocal}
use Rattle.tl_machine.specs.Stopped.{after_action}
use Rattle.tl_machine.specs.Turns.{TurnValue, SegmentValue, LentValue, IsTurn, IsSegment, IsFrom, Stops, with_call}
use Rattle.tl_machine.specs.declared.want.Stop.{Stop}
use Rattle.tl_machine.specs.declared.want.Stop.TheVariants as stop
use Rattle.tl_core.specs.declared.fault.CoreFault.{CoreFault}
use Rattle.tl_core.specs.declared.fault.CoreFault.TheVariants as fault
use Rattle.tl_core.specs.declared.stepped.Stepped.{Stepped}
use Rattle.tl_core.specs.declared.stepped.Stepped.TheVariants.{Moved}
use Rattle.tl_core.specs.declared.stepped.Stepped.TheVariants as stepped
use Rattle.tl_core.specs.declared.followed.Followed.{Followed}
use Rattle.tl_core.specs.declared.followed.Followed.TheVariants.{Went, Blocked, Finished}
use Rattle.tl_core.specs.declared.followed.TurnOutcome.{TurnOutcome}
use Rattle.tl_core.specs.declared.followed.TurnOutcome.TheVariants as outcome
use Rattle.tl_core.specs.Cores.{CoreState, CoreValue, kept_turn, world_of}
use Rattle.tl_core.specs.Entries.{step_answer, after_step}

-- the call does these actions, one step after another
abbrev pub Goes : CoreValue → ℕ → List Action → CoreValue → Type 0
Goes v c [] w = v ≡ w
Goes v c (a ∷ actions) w = (step_answer (world_of v) c ≡ Ok (Moved a)) × Goes (after_step v c (Ok (Moved a))) c actions w

abbrev pub EachLocal : List Action → Type 0
EachLocal [] = Unit {0}
EachLocal (a ∷ actions) = IsLocal a × EachLocal actions

-- the action is the one that a call does at this stop
abbrev pub EndsStop : Stop → Action → Type 0
EndsStop s (did.Lock x found) = s ≡ stop.Lock x
EndsStop s (did.Free x left) = s ≡ stop.Free x
EndsStop s did.End = s ≡ stop.Return
EndsStop s a = ⊥

-- the call is open, and its next action is the one at this stop
pub record NextEndsStop (v : CoreValue) (c : ℕ) (s : Stop) : Type 0 where
  pub is_open : IsOpen c v.past
  pub next : Action
  pub is_next : next_of (world_of v) c ≡ Some next
  pub ends : EndsStop s next

-- the stop is a lock of node x, which call d holds
pub record IsInTheWay (v : CoreValue) (s : Stop) (x d : ℕ) : Type 0 where
  pub locks : s ≡ stop.Lock x
  pub holder : holder_of v.past x ≡ Some d

-- the call has done local actions as its steps
pub record IsLed (before : CoreState) (c : ℕ) (after : CoreState) : Type 0 where
  pub local : List Action
  pub each_local : EachLocal local
  pub goes : Goes before.seen c local after.seen

-- the call has done the segment's local actions and the action at its stop as its steps; the stop wasn't a lock of a held node
pub record HasGone (before : CoreState) (c : ℕ) (segment : SegmentValue) (after : CoreState) : Type 0 where
  pub local : List Action
  pub each_local : EachLocal local
  pub last : Action
  pub is_last : EndsStop segment.stop last
  pub goes : Goes before.seen c (local ++ last ∷ []) after.seen
  pub free : (x d : ℕ) → IsInTheWay before.seen segment.stop x d → ⊥

-- the call has done local actions as its steps, and its turn stops at s
pub record ReachesStop (before : CoreState) (c : ℕ) (s : Stop) (after : CoreState) : Type 0 where
  pub local : List Action
  pub each_local : EachLocal local
  pub goes : Goes before.seen c local after.seen
  pub turn : TurnValue
  pub kept : kept_turn after c ≡ Some turn
  pub stops : Stops turn s

-- after an action other than the end, the kept turn is the earlier one after that action
abbrev pub HasTurned : CoreState → ℕ → Stepped → CoreState → Type 0
HasTurned v c s w = (a : Action) → s ≡ Moved a → a ≢ did.End → (t : TurnValue) → kept_turn v c ≡ Some t
    → kept_turn w c ≡ Some (with_call t (after_action t.code.instrs t.parents t.call a))

-- the answer to a step that isn't local: a lock, a free, an end, `Blocked` or `Over`
abbrev pub IsNoLocal : Stepped → Type 0
IsNoLocal (Moved a) = IsLocal a → ⊥
IsNoLocal (stepped.Blocked x d) = Unit {0}
IsNoLocal stepped.Over = Unit {0}

-- The call did local steps and then requested one that isn't local, which had the answer `last`. The turns of the other calls don't change.
pub record Proceeds (before : CoreState) (c : ℕ) (last : Stepped) (after : CoreState) : Type 0 where
  pub local : List Action
  pub each_local : EachLocal local
  pub there : CoreValue
  pub goes : Goes before.seen c local there
  pub is_last : IsNoLocal last
  pub answer : step_answer (world_of there) c ≡ Ok last
  pub then : after.seen ≡ after_step there c (Ok last)
  pub turns : (d : ℕ) → d ≢ c → kept_turn after d ≡ kept_turn before d

-- the result: blocked, with nothing changed, if another call holds the node of the stop; otherwise the call did the
-- actions, and goes on with this turn or is done with this reply
abbrev pub IsFollowed : CoreState → ℕ → SegmentValue → Followed → CoreState → Type 0
IsFollowed v c segment (Blocked x d) w = IsInTheWay v.seen segment.stop x d × (w ≡ v)
IsFollowed v c segment (Went turn) w = HasGone v c segment w × (kept_turn w c ≡ Some turn)
IsFollowed v c segment (Finished reply) w =
    HasGone v c segment w × (is_done c w.seen.past ≡ true) × (reply ≡ reply_of (world_of w.seen) c)

-- NoCall if the call wasn't admitted, NotFrom if the segment doesn't begin at the call's kept turn
abbrev pub IsFollowFault : CoreState → ℕ → SegmentValue → CoreFault → Type 0
IsFollowFault v c segment e =
    ((e ≡ fault.NoCall) × (admits v.seen.past ≤ c))
    ⊎ ((e ≡ fault.NotFrom) × (c < admits v.seen.past) × (kept_turn v c ≢ Some segment.from))

-- ---- a turn of a call that was lent

-- the call was lent with its kept turn, and hasn't executed an instruction since
pub record IsLentOf (v : CoreState) (c : ℕ) (lent : LentValue) : Type 0 where
  pub turn : TurnValue
  pub kept : kept_turn v c ≡ Some turn
  pub is_lent : lent ≡ record { code = turn.code; from = turn.call; to = turn.call }

-- the result: blocked, with nothing changed, if another call holds the node of the stop; otherwise the call has done the
-- segment's local actions and the action at its stop, and goes on with this turn or is done
abbrev pub IsLedTo : CoreState → ℕ → SegmentValue → TurnValue → TurnOutcome → CoreState → Type 0
IsLedTo v c segment turn (outcome.Blocked x d) w = IsInTheWay v.seen segment.stop x d × (w ≡ v)
IsLedTo v c segment turn (outcome.Advanced s) w = HasGone v c segment w × (segment.stop ≡ s) × (kept_turn w c ≡ Some turn)
IsLedTo v c segment turn outcome.Finished w = HasGone v c segment w × (segment.stop ≡ stop.Return) × (is_done c w.seen.past ≡ true)

-- the property P, if the call is blocked
abbrev pub IfBlocked : TurnOutcome → Type 0 → Type 0
IfBlocked (outcome.Blocked x d) P = P
IfBlocked (outcome.Advanced s) P = Unit {0}
IfBlocked outcome.Finished P = Unit {0}

-- the property P, if the call has ended
abbrev pub IfFinished : TurnOutcome → Type 0 → Type 0
IfFinished outcome.Finished P = P
IfFinished (outcome.Blocked x d) P = Unit {0}
IfFinished (outcome.Advanced s) P = Unit {0}

-- The segment leads from the call's kept turn, from which the call was lent, to the state that the lent call has reached.
-- o is the result. If the call isn't blocked, the lent call is then in the state after the stop. The turns of the other
-- calls don't change.
pub record Submits (before : CoreState) (c : ℕ) (lent after_it : LentValue) (o : TurnOutcome) (after : CoreState) : Type 0 where
  pub segment : SegmentValue
  pub kept : kept_turn before c ≡ Some segment.from
  pub is_from : IsFrom lent segment.from
  pub to : segment.to ≡ lent.to
  pub is_segment : IsSegment segment
  pub led : IsLedTo before c segment (with_call segment.from after_it.to) o after
  pub turn : IsTurn segment.from.code.instrs segment.from.parents after_it.to
  pub same : after_it ≡ record lent { to = after_it.to }
  pub stays : IfBlocked o (after_it ≡ lent)
  pub known : IfFinished o (c < length after.seen.calls)
  pub turns : (d : ℕ) → d ≢ c → kept_turn after d ≡ kept_turn before d

-- NoCall if the call wasn't admitted, NotFrom if it wasn't lent from its kept turn
abbrev pub IsLeadFault : CoreState → ℕ → LentValue → CoreFault → Type 0
IsLeadFault v c lent e =
    ((e ≡ fault.NoCall) × (admits v.seen.past ≤ c))
    ⊎ ((e ≡ fault.NotFrom) × (c < admits v.seen.past) × ((t : TurnValue) → kept_turn v c ≡ Some t → IsFrom lent t → ⊥))
