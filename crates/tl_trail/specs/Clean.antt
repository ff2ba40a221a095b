-- When a trail has no faults.
use Rattle.std.specs.Prelude.{◌≡◌, ℕ, ◌<◌, true, List, [], ◌∷◌, length, Some}
use Rattle.tl_tree.specs.Records.{Records, record_at}
use Rattle.tl_tree_locking.specs.declared.event.Event.{Event}
use Rattle.tl_tree_locking.specs.declared.event.Event.TheVariants.{Lock}
use Rattle.tl_tree_locking.specs.Actions.{locks_and_frees}
use Rattle.tl_tree_locking.specs.Alone.{all_taken}
use Rattle.tl_tree_locking.specs.History.{part_of, is_done, record_now}
use Rattle.tl_tree_locking.specs.Rules.{KeepsRules, IsApart}
use Rattle.tl_trail.specs.Trails.{TrailValue, call_at, found_alone}

-- ---- one event, after those before it

-- a lock finds the node's current record
abbrev pub FindsNow : Records → List Event → Event → Type 0
FindsNow opening past (Lock x c found) = found ≡ record_now past opening x
FindsNow opening past _ = Unit {0}

-- the event has no fault
pub record IsRight (parents : List ℕ) (opening : Records) (past : List Event) (e : Event) : Type 0 where
  pub rules : KeepsRules parents past e
  pub apart : IsApart past e
  pub finds : FindsNow opening past e

-- no event has a fault
abbrev pub AreRight : List ℕ → Records → List Event → Type 0
AreRight parents opening [] = Unit {0}
AreRight parents opening (e ∷ past) = IsRight parents opening past e × AreRight parents opening past

-- ---- calls and records

-- the locks and frees of call c are those of the call alone on the opening tree with the records that it found
abbrev pub IsGenuine : TrailValue → ℕ → Type 0
IsGenuine t c = locks_and_frees (part_of c t.past) ≡ locks_and_frees (all_taken (found_alone t c).actions)

-- the reply of call c is that of the call alone
abbrev pub RepliesSo : TrailValue → ℕ → Type 0
RepliesSo t c = (call_at t c).reply ≡ Some (found_alone t c).reply

-- the end record of node x is the one that was left last
abbrev pub EndsSo : TrailValue → ℕ → Type 0
EndsSo t x = record_at t.ends x ≡ record_now t.past t.opening x

-- each call is done
abbrev pub AreDone : TrailValue → Type 0
AreDone t = (c : ℕ) → c < length t.calls → is_done c t.past ≡ true

-- ---- the whole trail

-- the trail has no faults
pub record Clean (t : TrailValue) : Type 0 where
  pub right : AreRight t.parents t.opening t.past
  pub done : AreDone t
  pub genuine : (c : ℕ) → c < length t.calls → IsGenuine t c
  pub replies : (c : ℕ) → c < length t.calls → RepliesSo t c
  pub ends : (x : ℕ) → x < length t.parents → EndsSo t x
