-- What a call finds at a node that a call of an earlier epoch left.
use Rattle.std.specs.Prelude.{◌≡◌, ℕ, ◌+◌, true, List, [], ◌∷◌, ◌++◌, length, Some, slice_get}
use Rattle.tl_tree.specs.Records.{Record}
use Rattle.tl_tree_locking.specs.Actions.{locked}
use Rattle.tl_tree_locking.specs.declared.event.Event.{Event}
use Rattle.tl_tree_locking.specs.declared.event.Event.TheVariants.{Lock, Free}
use Rattle.tl_tree_locking.specs.History.{part_of, last_left}
use Rattle.tl_table.specs.Epochs.{EpochValue, seen}

-- all events of these epochs, the latest first
abbrev pub events_of : List EpochValue → List Event
events_of [] = []
events_of (e ∷ es) = events_of es ++ (seen e).past

-- call c of epoch n locked x
abbrev pub LockedIn : List EpochValue → ℕ → ℕ → ℕ → Type 0
LockedIn es n c x = (e : EpochValue) × (slice_get es n ≡ Some e) × (locked (part_of c (seen e).past) x ≡ true)

-- Call a of epoch n freed x, and call b of the later epoch m locked x. b found the record that was left there last since
-- a's free: by another call, or otherwise by a.
pub record FindsAcross (es : List EpochValue) (n a m b x : ℕ) : Type 0 where
  pub first : List EpochValue
  pub between : List EpochValue
  pub last : List EpochValue
  pub freeing : EpochValue
  pub locking : EpochValue
  pub epochs : es ≡ first ++ freeing ∷ (between ++ locking ∷ last)
  pub n_is : length first ≡ n
  pub m_is : length first + 1 + length between ≡ m
  pub since : List Event
  pub before : List Event
  pub left : Record
  pub free : (seen freeing).past ≡ since ++ Free x a left ∷ before
  pub later : List Event
  pub sooner : List Event
  pub found : Record
  pub lock : (seen locking).past ≡ later ++ Lock x b found ∷ sooner
  pub finds : found ≡ last_left (sooner ++ events_of between ++ since) x left
