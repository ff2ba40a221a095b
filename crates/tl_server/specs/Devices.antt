-- The bytes that a device reads and writes. None stands for a device whose bytes aren't specified.
use Rattle.std.specs.Prelude.{◌≡◌, ℕ, List, [], ◌++◌, Option, Some, None}

-- these bytes were read
abbrev pub Gives : Option (List ℕ) → List ℕ → Option (List ℕ) → Type 0
Gives (Some old) xs new = (rest : List ℕ) × (new ≡ Some rest) × (old ≡ xs ++ rest)
Gives None xs new = Unit {0}

-- no bytes were left
abbrev pub HasEnded : Option (List ℕ) → Type 0
HasEnded (Some old) = old ≡ []
HasEnded None = Unit {0}

-- these bytes were written
abbrev pub Adds : Option (List ℕ) → List ℕ → Option (List ℕ) → Type 0
Adds (Some old) xs new = new ≡ Some (old ++ xs)
Adds None xs new = Unit {0}

-- a prefix of these bytes was written
abbrev pub AddsPart : Option (List ℕ) → List ℕ → Option (List ℕ) → Type 0
AddsPart (Some old) xs new = (ys : List ℕ) × (zs : List ℕ) × (xs ≡ ys ++ zs) × (new ≡ Some (old ++ ys))
AddsPart None xs new = Unit {0}
