-- When a text denotes a chain of trails, and which fault it has otherwise.
use Rattle.std.specs.Prelude.{◌≡◌, ◌⊎◌, ℕ, nat_le, ◌&&◌, List, [], ◌∷◌, length, Option, Some, None, option_and_then, if◌then◌else◌}
use Rattle.serde_json.specs.Data.{Data}
use Rattle.serde_json.specs.Read.{read}
use Rattle.tl_tree.specs.Writing.{list_text}
use Rattle.tl_json.specs.Lists.{list_of}
use Rattle.tl_trail.specs.declared.chain.TheConstants.{MAX_TRAILS}
use Rattle.tl_trail.specs.declared.fault.TrailFault.{TrailFault}
use Rattle.tl_trail.specs.declared.fault.TrailFault.TheVariants.{NotTrail}
use Rattle.tl_trail.specs.Trails.{TrailValue}
use Rattle.tl_trail.specs.Reading.{form_of_data, IsFound, IsFaultFound}
use Rattle.tl_trail.specs.Writing.{trail_text}

-- the list, if it has 1 to 256 items
abbrev pub if_chain : List Data → Option (List Data)
if_chain ds = if nat_le 1 (length ds) && nat_le (length ds) MAX_TRAILS then Some ds else None

-- the items of a JSON list, if there are 1 to 256
abbrev pub chain_of : Data → Option (List Data)
chain_of d = option_and_then if_chain (list_of d)

-- the same for the list that a text contains
abbrev pub chain_in : List ℕ → Option (List Data)
chain_in text = option_and_then chain_of (read text)

-- each value is that of the trail at its place
abbrev pub AreEach : ℕ → List Data → List TrailValue → Type 0
AreEach limit [] [] = Unit {0}
AreEach limit [] (t ∷ ts) = ⊥
AreEach limit (d ∷ ds) [] = ⊥
AreEach limit (d ∷ ds) (t ∷ ts) = IsFound limit (form_of_data d) t × AreEach limit ds ts

-- the fault of the first value that isn't that of a trail
abbrev pub IsFirstOf : ℕ → List Data → TrailFault → Type 0
IsFirstOf limit [] e = ⊥
IsFirstOf limit (d ∷ ds) e = IsFaultFound limit (form_of_data d) e ⊎ ((t : TrailValue) × IsFound limit (form_of_data d) t × IsFirstOf limit ds e)

-- The items that were found are the values of these trails.
pub record IsChain (limit : ℕ) (found : Option (List Data)) (ts : List TrailValue) : Type 0 where
  pub items : List Data
  pub items_are : found ≡ Some items
  pub each : AreEach limit items ts

-- the first fault of what was found: it isn't such a list, or the fault of the first item that isn't a trail's value
abbrev pub IsFaultOfChain : ℕ → Option (List Data) → TrailFault → Type 0
IsFaultOfChain limit found e =
    ((e ≡ NotTrail) × (found ≡ None))
    ⊎ ((items : List Data) × (found ≡ Some items) × IsFirstOf limit items e)

-- the text is a list of 1 to 256 values, each that of the trail at its place
abbrev pub IsChainText : ℕ → List ℕ → List TrailValue → Type 0
IsChainText limit text ts = IsChain limit (chain_in text) ts

-- the first fault of a text
abbrev pub IsFirstChainFault : ℕ → List ℕ → TrailFault → Type 0
IsFirstChainFault limit text e = IsFaultOfChain limit (chain_in text) e

-- the trails' texts in brackets, separated by commas
abbrev pub chain_text : List TrailValue → List ℕ
chain_text ts = list_text trail_text ts
