-- The output for moves: one list for each, which begins with a letter.
use Rattle.std.specs.Prelude.{ℕ, List, [], ◌∷◌, map, codes}
use Rattle.serde_json.specs.Data.{Data, array, object, member, no_members}
use Rattle.serde_json.specs.View.{items_of}
use Rattle.tl_tree.specs.Writing.{integer_data, integers_data}
use Rattle.tl_tree_locking.specs.declared.action.Action.{Action}
use Rattle.tl_tree_locking.specs.declared.action.Action.TheVariants.{Plain, Lock, Read, Write, Free, Emit, End}
use Rattle.tl_json.specs.Lists.{natural}
use Rattle.tl_json.specs.Letters.{lettered}
use Rattle.tl_json.specs.declared.letter.Letter.TheVariants as letter
use Rattle.tl_core.specs.Faults.{numbers_of}
use Rattle.tl_core.specs.declared.stepped.Stepped.{Stepped}
use Rattle.tl_core.specs.declared.stepped.Stepped.TheVariants.{Moved, Blocked, Over}
use Rattle.tl_core.specs.declared.moves.Entry.{Entry}
use Rattle.tl_core.specs.declared.moves.Entry.TheVariants as entry

-- an instruction that call c executed
abbrev pub action_data : ℕ → Action → Data
action_data c Plain = lettered letter.Plain (natural c ∷ [])
action_data c (Lock x found) = lettered letter.Locked (natural c ∷ natural x ∷ integers_data found ∷ [])
action_data c (Read x f v) = lettered letter.Read (natural c ∷ natural x ∷ natural f ∷ integer_data v ∷ [])
action_data c (Write x f v) = lettered letter.Written (natural c ∷ natural x ∷ natural f ∷ integer_data v ∷ [])
action_data c (Free x left) = lettered letter.Freed (natural c ∷ natural x ∷ integers_data left ∷ [])
action_data c (Emit v) = lettered letter.Emitted (natural c ∷ integer_data v ∷ [])
action_data c End = lettered letter.Done (natural c ∷ [])

-- the result of a step of call c
abbrev pub stepped_data : ℕ → Stepped → Data
stepped_data c (Moved a) = action_data c a
stepped_data c (Blocked x holder) = lettered letter.Blocked (natural c ∷ natural x ∷ natural holder ∷ [])
stepped_data c Over = lettered letter.Over (natural c ∷ [])

-- the result of a move
abbrev pub entry_data : Entry → Data
entry_data (entry.Admitted c) = lettered letter.Admitted (natural c ∷ [])
entry_data (entry.Stepped c stepped) = stepped_data c stepped
entry_data (entry.Refused fault) = lettered letter.Refused (map natural (numbers_of fault))

-- ---- the lines

abbrev pub trace_data : List Entry → Data
trace_data entries = object (member (codes "trace") (array (items_of (map entry_data entries))) no_members)

-- a fault as its numbers
abbrev pub error_data : List ℕ → Data
error_data numbers = object (member (codes "error") (array (items_of (map natural numbers))) no_members)

-- call c isn't done
abbrev pub unfinished_data : ℕ → Data
unfinished_data c = error_data (651 ∷ c ∷ [])
