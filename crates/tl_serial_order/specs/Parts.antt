-- The marks of each call, as events are added.
use Rattle.std.specs.Prelude.{◌≡◌, ℕ, ◌<◌, ◌≤◌, List, [], length, slice_index_or}
use Rattle.tl_tree_locking.specs.declared.event.Event.{Event}
use Rattle.tl_tree_locking.specs.History.{part_of}
use Rattle.tl_serial_order.specs.Part.{Marks, IsPart, node_count}

abbrev pub no_marks : Marks
no_marks = record { locked = []; held = [] }

-- the marks of c
abbrev pub marks_of : List Marks → ℕ → Marks
marks_of parts c = slice_index_or parts c no_marks

-- each call has marks for `nodes` nodes
abbrev pub AreOfNodes : ℕ → List Marks → Type 0
AreOfNodes nodes parts = (c : ℕ) → c < length parts → node_count (marks_of parts c) ≡ nodes

-- each call's marks are those of its part of the history
abbrev pub Show : List Marks → List Event → Type 0
Show parts past = (c : ℕ) → c < length parts → IsPart (marks_of parts c) (part_of c past)

-- the same, and the history has no actions of other calls
pub record ShowAll (parts : List Marks) (past : List Event) : Type 0 where
  pub shows : Show parts past
  pub others : (c : ℕ) → length parts ≤ c → part_of c past ≡ []
