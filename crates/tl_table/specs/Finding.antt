-- What a call finds at a node that an earlier call left.
use Rattle.std.specs.Prelude.{◌≡◌, ℕ, List, ◌∷◌, ◌++◌}
use Rattle.tl_tree.specs.Records.{Record}
use Rattle.tl_tree_locking.specs.declared.event.Event.{Event}
use Rattle.tl_tree_locking.specs.declared.event.Event.TheVariants.{Lock, Free}
use Rattle.tl_tree_locking.specs.History.{last_left}

-- Call b locked x after call a had freed it. b found the record that was left there last since a's free: by another call,
-- or otherwise by a. The history has its latest event first.
pub record FindsWhatWasLeft (past : List Event) (a b x : ℕ) : Type 0 where
  pub later : List Event
  pub since : List Event
  pub before : List Event
  pub found : Record
  pub left : Record
  pub places : past ≡ later ++ Lock x b found ∷ (since ++ Free x a left ∷ before)
  pub finds : found ≡ last_left since x left
