-- Events as JSON values.
use Rattle.std.specs.Prelude.{ℤ, List, [], ◌∷◌, Option, Some, None, option_and_then}
use Rattle.serde_json.specs.Data.{Data}
use Rattle.serde_json.specs.Find.{as_str}
use Rattle.tl_tree.specs.declared.record.Width.{Width}
use Rattle.tl_tree.specs.Records.{Record}
use Rattle.tl_tree.specs.Trees.{IsRecord}
use Rattle.tl_tree.specs.Reading.{both, integer_of, record_of}
use Rattle.tl_tree.specs.Writing.{integers_data}
use Rattle.tl_tree_locking.specs.declared.event.Event.{Event}
use Rattle.tl_tree_locking.specs.declared.event.Event.TheVariants.{Admit, Lock, Free, Done}
use Rattle.tl_json.specs.Lists.{list_of, natural}
use Rattle.tl_json.specs.Letters.{letter_of, lettered}
use Rattle.tl_json.specs.declared.letter.Letter.{Letter}
use Rattle.tl_json.specs.declared.letter.Letter.TheVariants as letter
use Rattle.tl_json.specs.declared.event.RawEvent.{RawEvent}
use Rattle.tl_json.specs.declared.event.RawEvent.TheVariants.{Admitted, Locked, Freed, Ended}

-- an event that has only a letter and a call
abbrev pub short_event : Letter → ℤ → Option RawEvent
short_event letter.Admitted c = Some (Admitted c)
short_event letter.Done c = Some (Ended c)
short_event _ c = None

-- an event that has a letter, a call, a node and the node's record
abbrev pub long_event : Letter → ℤ → ℤ → Record → Option RawEvent
long_event letter.Locked c x r = Some (Locked c x r)
long_event letter.Freed c x r = Some (Freed c x r)
long_event _ c x r = None

abbrev pub letter_in : Data → Option Letter
letter_in d = option_and_then letter_of (as_str d)

abbrev pub event_in : Width → List Data → Option RawEvent
event_in width (s ∷ c ∷ []) = option_and_then (λ x. short_event x.0 x.1) (both (letter_in s) (integer_of c))
event_in width (s ∷ c ∷ x ∷ r ∷ []) =
    option_and_then (λ y. long_event y.0.0 y.0.1 y.1.0 y.1.1) (both (both (letter_in s) (integer_of c)) (both (integer_of x) (record_of width r)))
event_in width _ = None

-- the event of a JSON value, whose record has this width
abbrev pub event_of : Width → Data → Option RawEvent
event_of width d = option_and_then (event_in width) (list_of d)

-- ---- writing

abbrev pub event_data : Event → Data
event_data (Admit c) = lettered letter.Admitted (natural c ∷ [])
event_data (Lock x c found) = lettered letter.Locked (natural c ∷ natural x ∷ integers_data found ∷ [])
event_data (Free x c left) = lettered letter.Freed (natural c ∷ natural x ∷ integers_data left ∷ [])
event_data (Done c) = lettered letter.Done (natural c ∷ [])

-- the record of a lock or of a free has `field_count` numbers of 64 bits
abbrev pub HasRecord : Event → Type 0
HasRecord (Admit c) = Unit {0}
HasRecord (Lock x c found) = IsRecord found
HasRecord (Free x c left) = IsRecord left
HasRecord (Done c) = Unit {0}
