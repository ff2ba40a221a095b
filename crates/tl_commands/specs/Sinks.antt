-- What a sink has after something was written to it, and the file of a closed table's trails.
use Rattle.std.specs.Prelude.{◌≡◌, ◌≢◌, ◌⊎◌, ℕ, List, [], ◌∷◌, ◌++◌, map, All, codes, ◌==◌, ◌+◌, if◌then◌else◌, Option, Some, None}
use Rattle.tl_record.specs.Recording.{trail_value}
use Rattle.tl_trail.specs.Chains.{chain_text}
use Rattle.tl_trail.specs.Trails.{TrailValue}
use Rattle.tl_trail.specs.Writing.{trail_text}
use Rattle.tl_trail.specs.Clean.{Clean}
use Rattle.tl_audit.specs.Chains.{IsCleanChain}
use Rattle.tl_table.specs.Epochs.{EpochValue, seen}
use Rattle.tl_commands.specs.declared.fault.CliFault.{CliFault}
use Rattle.tl_commands.specs.declared.fault.CliFault.TheVariants.{Unwritable}

-- these bytes were appended
abbrev pub Adds : Option (List ℕ) → List ℕ → Option (List ℕ) → Type 0
Adds (Some old) xs new = new ≡ Some (old ++ xs)
Adds None xs new = Unit {0}

-- a comma before each trail of a list except the first
abbrev pub comma_before : ℕ → List ℕ
comma_before number = if number == 0 then [] else codes ","

-- the fault is Unwritable exactly if the sink has failed once more; otherwise it is another fault
abbrev pub IsSinkFault : ℕ → ℕ → Type 0 → CliFault → Type 0
IsSinkFault old new other e = ((e ≡ Unwritable) × (new ≡ old + 1)) ⊎ (other × (e ≢ Unwritable) × (new ≡ old))

abbrev pub epoch_trail : EpochValue → TrailValue
epoch_trail e = trail_value (seen e)

-- the text of the trail of one epoch, or the list of the trails' texts
abbrev pub trails_text : List EpochValue → List ℕ
trails_text (e ∷ []) = trail_text (epoch_trail e)
trails_text es = chain_text (map epoch_trail es)

-- the same and a line feed
abbrev pub trails_file : List EpochValue → List ℕ
trails_file es = trails_text es ++ 10 ∷ []

-- the trail of each epoch is clean
abbrev pub AreClean : List EpochValue → Type 0
AreClean es = All (λ e. Clean (epoch_trail e)) es

-- The file of these epochs' trails was appended, and the chain of these trails is clean.
pub record FilesTrails (es : List EpochValue) (old new : Option (List ℕ)) : Type 0 where
  pub added : Adds old (trails_file es) new
  pub clean : IsCleanChain (map epoch_trail es)
