-- The replays of a trail's calls, each along its own events.
use Rattle.std.specs.Prelude.{◌≡◌, ◌⊎◌, ℕ, ◌<◌, ◌≤◌, true, List, ◌∷◌, ◌++◌, length, get_or, Option, Some, None}
use Rattle.std.specs.Prelude.{Box}
use Rattle.std.specs.declared.alloc.Global.{Global}
use Rattle.tl_tree.specs.Records.{Records}
use Rattle.tl_tree_locking.specs.declared.event.Event.{Event}
use Rattle.tl_tree_locking.specs.Actions.{with_found, locks_and_frees}
use Rattle.tl_tree_locking.specs.History.{part_of, is_done, admits}
use Rattle.tl_machine.specs.Runs.{Run}
use Rattle.tl_machine.specs.Alone.{alone}
use Rattle.tl_machine.specs.Turns.{TurnValue}
use Rattle.tl_trail.specs.Trails.{TrailValue, IsTrail, call_at, code_of}
use Rattle.tl_trail.specs.Clean.{AreRight, IsGenuine, RepliesSo}
use Rattle.tl_audit.specs.Genuine.{IsOn}
use Rattle.tl_audit.specs.declared.fault.AuditFault.{AuditFault}
use Rattle.tl_audit.specs.declared.fault.AuditFault.TheVariants.{NotGenuine, WrongReply}
use Rattle.tl_audit.specs.declared.replays.Difference.{Difference}
use Rattle.tl_audit.specs.declared.replays.Difference.TheVariants.{Actions, Reply}
use Rattle.tl_audit.specs.declared.replays.WrongCall.{WrongCall}
use Rattle.tl_audit.specs.declared.replays.Replays.{Replays}

-- the opening records with those that call c found in the whole trail, and below what the call does alone on them
abbrev pub found_tree : TrailValue → ℕ → Records
found_tree t c = with_found (part_of c t.past) t.opening

abbrev pub found_run : TrailValue → ℕ → Run
found_run t c = alone (code_of t.procedures (call_at t c)) t.parents (call_at t c).args (found_tree t c)

-- no event of the trail has a fault
abbrev pub AllRight : TrailValue → Type 0
AllRight t = AreRight t.parents t.opening t.past

-- the event comes after `past` and before `later`, and it and all before it are right
pub record IsAt (t : TrailValue) (later : List Event) (e : Event) (past : List Event) : Type 0 where
  pub split : t.past ≡ later ++ e ∷ past
  pub right : AreRight t.parents t.opening (e ∷ past)

-- after these events, the turn is where call c's locks and frees so far lead, if all events of the trail are right
pub record IsLed (t : TrailValue) (c : ℕ) (past : List Event) (turn : TurnValue) : Type 0 where
  pub parents : turn.parents ≡ t.parents
  pub on : AllRight t → IsOn (found_tree t c) (found_run t c) (locks_and_frees (part_of c past)) turn

-- the call differs from its run alone in this way
abbrev pub Differs : TrailValue → ℕ → Difference → Type 0
Differs t c Actions = ¬ IsGenuine t c
Differs t c Reply = IsGenuine t c × ¬ RepliesSo t c

-- the fault of a call that differs in this way
abbrev pub fault_of : Difference → ℕ → AuditFault
fault_of Actions c = NotGenuine c
fault_of Reply c = WrongReply c

-- the call exists, and it differs in this way if all events are right
abbrev pub IsOther : TrailValue → WrongCall → Type 0
IsOther t w = (w.call < length t.calls) × (AllRight t → Differs t w.call w.difference)

-- the lowest wrong call is at most c
abbrev pub IsAtMost : Option WrongCall → ℕ → Type 0
IsAtMost least c = (w : WrongCall) × (least ≡ Some w) × (w.call ≤ c)

-- `new` is `old` with one more wrong call, of which the lowest is kept
pub record IsTaken (old new : Option WrongCall) (w : WrongCall) : Type 0 where
  pub kept : (c : ℕ) → IsAtMost old c → IsAtMost new c
  pub here : IsAtMost new w.call
  pub one : (v : WrongCall) → new ≡ Some v → (old ≡ Some v) ⊎ (v ≡ w)

-- if all events are right, the call does what it does alone; or a wrong call is known that is at most c
abbrev pub IsSettled : TrailValue → Option WrongCall → ℕ → Type 0
IsSettled t least c = (AllRight t → IsGenuine t c × RepliesSo t c) ⊎ IsAtMost least c

-- The replays after these events. Each turn is where its call's events lead, a call that is done has no turn, and every
-- other admitted call without a turn is settled.
pub record IsFollowed (t : TrailValue) (past : List Event) (r : Replays) : Type 0 where
  pub trail : IsTrail t
  pub size : length r.turns.items ≡ length t.calls
  pub led : (c : ℕ) (b : Box TurnValue Global) → get_or r.turns.items c None ≡ Some b → IsLed t c past b.value
  pub over : (c : ℕ) → is_done c past ≡ true → get_or r.turns.items c None ≡ None
  pub settled : (c : ℕ) → c < length t.calls → c < admits past → get_or r.turns.items c None ≡ None → IsSettled t r.least c
  pub least : (w : WrongCall) → r.least ≡ Some w → IsOther t w
