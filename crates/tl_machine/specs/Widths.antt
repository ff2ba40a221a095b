-- The width of records, and calls that do the same on wider records.
use Rattle.std.specs.Prelude.{◌≡◌, ℕ, ◌<◌, List, ◌++◌, length, map, replicate, pos, Some, slice_get}
use Rattle.std.specs.List.{All}
use Rattle.tl_tree.specs.Records.{Record, Records}
use Rattle.tl_instr.specs.declared.instr.Instr.{Instr}
use Rattle.tl_instr.specs.Instructions.{field_of}
use Rattle.tl_tree_locking.specs.declared.action.Action.{Action}
use Rattle.tl_tree_locking.specs.declared.action.Action.TheVariants.{Lock, Free}
use Rattle.tl_tree_locking.specs.Alone.{Outcome}

-- the record followed by n zeros
abbrev pub with_zeros : ℕ → Record → Record
with_zeros n fields = fields ++ replicate n (pos 0)

-- each record has `width` fields
abbrev pub HasWidth : ℕ → Records → Type 0
HasWidth width records = All (λ fields. length fields ≡ width) records

-- each field that the code uses is below the width
abbrev pub NamesBelow : ℕ → List Instr → Type 0
NamesBelow width code = (p : ℕ) (i : Instr) (f : ℕ) → slice_get code p ≡ Some i → field_of i ≡ Some f → f < width

-- the record of a lock or of a free has `width` fields
abbrev pub TellsWidth : ℕ → Action → Type 0
TellsWidth width (Lock x found) = length found ≡ width
TellsWidth width (Free x left) = length left ≡ width
TellsWidth width a = Unit {0}

-- each record in the actions and in the final tree has `width` fields
pub record KeepsWidth (width : ℕ) (outcome : Outcome) : Type 0 where
  pub told : (k : ℕ) (a : Action) → slice_get outcome.actions k ≡ Some a → TellsWidth width a
  pub left : HasWidth width outcome.tree

-- the action with n zeros after its record, if it has one
abbrev pub action_with_zeros : ℕ → Action → Action
action_with_zeros n (Lock x found) = Lock x (with_zeros n found)
action_with_zeros n (Free x left) = Free x (with_zeros n left)
action_with_zeros n a = a

-- the outcome with n zeros after each record, and the same reply
abbrev pub outcome_with_zeros : ℕ → Outcome → Outcome
outcome_with_zeros n outcome = record {
  actions = map (action_with_zeros n) outcome.actions;
  tree = map (with_zeros n) outcome.tree;
  reply = outcome.reply;
}
