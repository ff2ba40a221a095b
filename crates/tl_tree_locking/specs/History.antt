-- What many calls have done: a list of events, the latest first.
use Rattle.std.specs.Prelude.{◌≡◌, ℕ, ◌+◌, ◌<◌, Bool, true, false, ◌||◌, List, [], ◌∷◌, ◌==◌, if◌then◌else◌, reverse, Some, slice_get}
use Rattle.tl_tree.specs.Records.{Record, Records, record_at, put_record}
use Rattle.tl_tree_locking.specs.declared.action.Action.{Action}
use Rattle.tl_tree_locking.specs.declared.action.Action.TheVariants as A
use Rattle.tl_tree_locking.specs.declared.event.Event.{Event}
use Rattle.tl_tree_locking.specs.declared.event.Event.TheVariants.{Admit, Lock, Free, Done}
use Rattle.tl_tree_locking.specs.Actions.{held, EachPermitted}

-- a stored history lists the earliest event first; the definitions below take it reversed, the latest event first
abbrev pub past_of : List Event → List Event
past_of events = reverse events

abbrev pub caller : Event → ℕ
caller (Admit c) = c
caller (Lock x c found) = c
caller (Free x c left) = c
caller (Done c) = c

-- the actions of c in the history, the latest first
abbrev pub part_of : ℕ → List Event → List Action
part_of c [] = []
part_of c (Admit d ∷ past) = part_of c past
part_of c (Lock x d found ∷ past) = if d == c then A.Lock x found ∷ part_of c past else part_of c past
part_of c (Free x d left ∷ past) = if d == c then A.Free x left ∷ part_of c past else part_of c past
part_of c (Done d ∷ past) = if d == c then A.End ∷ part_of c past else part_of c past

abbrev pub is_done : ℕ → List Event → Bool
is_done c [] = false
is_done c (Done d ∷ past) = (d == c) || is_done c past
is_done c (_ ∷ past) = is_done c past

-- how many calls were admitted; they are numbered 0, 1, .. in the order of admission
abbrev pub admits : List Event → ℕ
admits [] = 0
admits (Admit c ∷ past) = admits past + 1
admits (_ ∷ past) = admits past

-- c was admitted and is not done
abbrev pub IsOpen : ℕ → List Event → Type 0
IsOpen c past = (c < admits past) × (is_done c past ≡ false)

-- all admitted calls are done
abbrev pub AllDone : List Event → Type 0
AllDone past = (c : ℕ) → c < admits past → is_done c past ≡ true

-- an admission gets the next number; every other event is of an open call
abbrev pub MayHappen : List Event → Event → Type 0
MayHappen past (Admit c) = c ≡ admits past
MayHappen past (Lock x c found) = IsOpen c past
MayHappen past (Free x c left) = IsOpen c past
MayHappen past (Done c) = IsOpen c past

-- admissions are numbered in order; each call's other events come after its admission and not after its end
abbrev pub InTurn : List Event → Type 0
InTurn [] = Unit {0}
InTurn (e ∷ past) = MayHappen past e × InTurn past

-- a node is locked only while no call holds it
abbrev pub Apart : List Event → Type 0
Apart [] = Unit {0}
Apart (Lock x c found ∷ past) = ((d : ℕ) → held (part_of d past) x ≡ false) × Apart past
Apart (_ ∷ past) = Apart past

-- strictly between positions j and k the call c frees x
pub record IsFreedBetween (events : List Event) (j k c x : ℕ) : Type 0 where
  pub place : ℕ
  pub left : Record
  pub later : j < place
  pub earlier : place < k
  pub is_free : slice_get events place ≡ Some (Free x c left)

-- the counterpart of `Apart` by positions, for a history that lists the earliest event first: between two locks of a
-- node, the call of the first lock frees the node
abbrev pub FreesBetweenLocks : List Event → Type 0
FreesBetweenLocks events =
    (j k c d x : ℕ) (found again : Record) → j < k → slice_get events j ≡ Some (Lock x c found)
    → slice_get events k ≡ Some (Lock x d again) → IsFreedBetween events j k c x

-- the record that the last free of x left; r if x was never freed
abbrev pub last_left : List Event → ℕ → Record → Record
last_left [] x r = r
last_left (Free y c left ∷ past) x r = if y == x then left else last_left past x r
last_left (_ ∷ past) x r = last_left past x r

-- the current record of x
abbrev pub record_now : List Event → Records → ℕ → Record
record_now past opening x = last_left past x (record_at opening x)

-- the opening records, with the record of each freed node replaced by the one that was left there last
abbrev pub records_now : List Event → Records → Records
records_now [] opening = opening
records_now (Free x c left ∷ past) opening = put_record (records_now past opening) x left
records_now (_ ∷ past) opening = records_now past opening

-- each lock finds its node's current record
abbrev pub Follows : Records → List Event → Type 0
Follows opening [] = Unit {0}
Follows opening (Lock x c found ∷ past) = (found ≡ record_now past opening x) × Follows opening past
Follows opening (_ ∷ past) = Follows opening past

-- the rules that depend only on the events and the shape: each call obeys the protocol, locks are apart, and events are in turn
pub record IsLegalHistory (parents : List ℕ) (past : List Event) : Type 0 where
  pub obeys : (c : ℕ) → EachPermitted parents (part_of c past)
  pub apart : Apart past
  pub in_turn : InTurn past
