-- Output on its way to a sink.
use Rattle.std.specs.Prelude.{◌≡◌, ◌+◌, ℕ, List, ◌++◌, Option, Bool, true, false, if◌then◌else◌}
use Rattle.tl_server.specs.Devices.{Adds, AddsPart}

-- the bytes gathered and not yet written, and whether a write has failed; after a failure nothing more is written
pub record OutboxValue : Type 0 where
  pub kept : List ℕ
  pub failed : Bool

-- a sink, and the bytes gathered for it
pub record Sending : Type 0 where
  pub output : Option (List ℕ)
  pub failures : ℕ
  pub kept : List ℕ
  pub failed : Bool

abbrev pub sending : Option (List ℕ) → ℕ → OutboxValue → Sending
sending output failures box = record { output = output; failures = failures; kept = box.kept; failed = box.failed }

abbrev pub SentIf : Bool → Option (List ℕ) → List ℕ → Option (List ℕ) → List ℕ → Type 0
SentIf false base total output kept = (done : List ℕ) × (total ≡ done ++ kept) × Adds base done output
SentIf true base total output kept = AddsPart base total output

-- The whole text was handed over when the sink had `base`. The sink has received all of it except the bytes kept, or
-- after a failed write a prefix of it.
abbrev pub Sent : Option (List ℕ) → List ℕ → Sending → Type 0
Sent base total s = SentIf s.failed base total s.output s.kept

-- a failed write counts as one failure
abbrev pub IsCounted : ℕ → Sending → Type 0
IsCounted n s = s.failures ≡ (if s.failed then n + 1 else n)

-- This text was handed over.
pub record Writes (old new : Sending) (text : List ℕ) : Type 0 where
  pub sends : (base : Option (List ℕ)) (total : List ℕ) → Sent base total old → Sent base (total ++ text) new
  pub counts : (n : ℕ) → IsCounted n old → IsCounted n new

-- This text was handed over: so far as it isn't gathered for the sink, the sink has it.
abbrev pub Puts : {K : Type 0} → (K → Option (List ℕ)) → (K → ℕ) → K → OutboxValue → K → OutboxValue → List ℕ → Type 0
Puts output failures sink box sink' box' text = Writes (sending (output sink) (failures sink) box) (sending (output sink') (failures sink') box') text
