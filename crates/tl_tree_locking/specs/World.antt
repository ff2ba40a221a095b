-- Worlds: many calls that run concurrently, each of which does what it would do alone.
use Rattle.std.specs.Prelude.{◌≡◌, ◌≢◌, ℕ, ◌<◌, ◌≤◌, true, false, List, [], ◌∷◌, ◌==◌, if◌then◌else◌, Option, Some, slice_get, length, take, ℤ}
use Rattle.std.proofs.Common.{suc}
use Rattle.tl_tree.specs.Records.{Record, Records}
use Rattle.tl_tree.specs.Shape.{IsTree}
use Rattle.tl_tree_locking.specs.declared.action.Action.{Action}
use Rattle.tl_tree_locking.specs.declared.action.Action.TheVariants as A
use Rattle.tl_tree_locking.specs.declared.event.Event.{Event}
use Rattle.tl_tree_locking.specs.declared.event.Event.TheVariants.{Admit, Lock, Free, Done}
use Rattle.tl_tree_locking.specs.Actions.{held, with_found, shared_actions, taken}
use Rattle.tl_tree_locking.specs.History.{part_of, is_done, Apart, InTurn, IsOpen, admits, record_now, Follows}
use Rattle.tl_tree_locking.specs.Alone.{Outcome, IsAlone}

-- a shape, the opening records, the meaning of each call, the events so far with the latest first, and the number of actions that each call has done
pub record World : Type 0 where
  pub parents : List ℕ
  pub opening : Records
  pub meanings : ℕ → Records → Outcome
  pub past : List Event
  pub counts : ℕ → ℕ

-- what c does alone on the opening records, with the record of each node that c locked replaced by the one it found
abbrev pub alone_of : (Records → Outcome) → Records → List Event → ℕ → Outcome
alone_of alone opening past c = alone (with_found (part_of c past) opening)

-- c has done k of the actions that it does alone: its part of the history is the locks, frees and end among the first k,
-- and c is done exactly if there are no more
pub record Genuine (alone : Records → Outcome) (opening : Records) (past : List Event) (c k : ℕ) : Type 0 where
  pub is_part : part_of c past ≡ shared_actions (taken k (alone_of alone opening past c).actions [])
  pub within : k ≤ length (alone_of alone opening past c).actions
  pub ended : is_done c past ≡ (k == length (alone_of alone opening past c).actions)

-- the history is legal: admissions are in order, no locked node is held, each lock finds the record left last, and each call does what it does alone
pub record Legal (w : World) : Type 0 where
  pub in_turn : InTurn w.past
  pub apart : Apart w.past
  pub follows : Follows w.opening w.past
  pub genuine : (c : ℕ) → c < admits w.past → Genuine (w.meanings c) w.opening w.past c (w.counts c)

-- a legal world with a tree, one record for each node, and calls whose meanings satisfy `IsAlone`
pub record IsSound (w : World) : Type 0 where
  pub tree : IsTree w.parents
  pub size : length w.opening ≡ length w.parents
  pub meanings : (c : ℕ) → c < admits w.past → IsAlone w.parents (w.meanings c)
  pub legal : Legal w

-- the next action of c
abbrev pub next_of : World → ℕ → Option Action
next_of w c = slice_get (alone_of (w.meanings c) w.opening w.past c).actions (w.counts c)

-- the reply of c
abbrev pub reply_of : World → ℕ → List ℤ
reply_of w c = (alone_of (w.meanings c) w.opening w.past c).reply

-- c is open, and its next action locks a node that another call holds
pub record IsStuck (w : World) (c : ℕ) : Type 0 where
  pub is_open : IsOpen c w.past
  pub node : ℕ
  pub found : Record
  pub holder : ℕ
  pub is_next : next_of w c ≡ Some (A.Lock node found)
  pub is_other : holder ≢ c
  pub holds : held (part_of holder w.past) node ≡ true

-- c is open and not stuck
pub record IsEnabled (w : World) (c : ℕ) : Type 0 where
  pub is_open : IsOpen c w.past
  pub not_stuck : IsStuck w c → ⊥

-- if the action is a lock, no call holds its node
abbrev pub IsFree : List Event → Action → Type 0
IsFree past (A.Lock x found) = (d : ℕ) → held (part_of d past) x ≡ false
IsFree past _ = Unit {0}

-- c is open, this is its next action, and it doesn't lock a held node
pub record MayTake (w : World) (c : ℕ) (next : Action) : Type 0 where
  pub is_open : IsOpen c w.past
  pub is_next : next_of w c ≡ Some next
  pub is_free : IsFree w.past next

-- the actions that c has done, the earliest first
abbrev pub done_of : World → ℕ → List Action
done_of w c = take (w.counts c) (alone_of (w.meanings c) w.opening w.past c).actions

-- a lock with the current record of its node as the record found; any other action unchanged
abbrev pub as_found : World → Action → Action
as_found w (A.Lock x found) = A.Lock x (record_now w.past w.opening x)
as_found w a = a

-- the history after an action of c
abbrev pub past_after : ℕ → Action → List Event → List Event
past_after c (A.Lock x found) past = Lock x c found ∷ past
past_after c (A.Free x left) past = Free x c left ∷ past
past_after c A.End past = Done c ∷ past
past_after c _ past = past

-- the world after the next action of c
abbrev pub after_step : World → ℕ → Action → World
after_step w c next = record w {
  past = past_after c (as_found w next) w.past;
  counts = λ d. if c == d then suc (w.counts d) else w.counts d;
}

-- the world after the admission of a call with this meaning
abbrev pub after_admission : World → (Records → Outcome) → World
after_admission w alone = record w {
  past = Admit (admits w.past) ∷ w.past;
  meanings = λ d. if admits w.past == d then alone else w.meanings d;
  counts = λ d. if admits w.past == d then 0 else w.counts d;
}

-- the world before any admission
abbrev pub opening_world : List ℕ → Records → (ℕ → Records → Outcome) → World
opening_world parents opening meanings = record {
  parents = parents;
  opening = opening;
  meanings = meanings;
  past = [];
  counts = λ c. 0;
}

-- the worlds that are reached from an opening world by admissions and steps
pub data Reached (parents : List ℕ) (opening : Records) : World → Type 0 where
  Opens : (meanings : ℕ → Records → Outcome) → Reached parents opening (opening_world parents opening meanings)
  Admits : (w : World) (alone : Records → Outcome) → Reached parents opening w → IsAlone parents alone
      → Reached parents opening (after_admission w alone)
  Moves : (w : World) (c : ℕ) (next : Action) → Reached parents opening w → MayTake w c next
      → Reached parents opening (after_step w c next)
