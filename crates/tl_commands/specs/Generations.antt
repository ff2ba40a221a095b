-- What the command `serve` does when one engine follows another.
use Rattle.std.specs.Prelude.{◌≡◌, ◌≢◌, ℕ, List, [], codes, Ok}
use Rattle.serde_json.specs.Data.{Data, object, member, no_members}
use Rattle.tl_tree.specs.Trees.{TreeValue}
use Rattle.tl_tree.specs.Reading.{tree_of_text}
use Rattle.tl_json.specs.Lists.{natural}
use Rattle.tl_table.specs.Epochs.{EpochValue}
use Rattle.tl_generations.specs.Generations.{LegacyValue, SuccessionValue, TakesUpFirst}
use Rattle.tl_commands.specs.declared.fault.CliFault.{CliFault}
use Rattle.tl_commands.specs.declared.fault.CliFault.TheVariants.{NotClosed}
use Rattle.tl_commands.specs.Faults.{status_of}

-- the legacy of the first engine: a tree, and no procedures
abbrev pub first_legacy : TreeValue → LegacyValue
first_legacy t = record { parents = t.parents; records = t.records; procedures = [] }

-- the file has a tree, and no engine has run on it yet
pub record BeginsWithFile (limit : ℕ) (file : List ℕ) (s : SuccessionValue) : Type 0 where
  pub tree : TreeValue
  pub text : tree_of_text limit file ≡ Ok tree
  pub first : s.first ≡ first_legacy tree
  pub last : s.last ≡ first_legacy tree

-- the epochs didn't start from the last legacy; or lack of memory
abbrev pub IsTurnFault : SuccessionValue → List EpochValue → CliFault → Type 0
IsTurnFault s es e = status_of e ≢ 4 → (e ≡ NotClosed) × ¬ TakesUpFirst s.last es

-- how many engines there were
abbrev pub generations_data : ℕ → Data
generations_data n = object (member (codes "generations") (natural n) no_members)
