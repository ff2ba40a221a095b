-- What is remembered of calls by their keys.
use Rattle.std.specs.Prelude.{◌≡◌, ◌≢◌, ◌≤◌, ◌+◌, ◌⊎◌, ℕ, List, Option, Some, None, IsSome}
use Rattle.std.specs.Option.{option_or}
use Rattle.std.specs.HashMap.{get_by_text, hash_map_len}
use Rattle.tl_keys.specs.declared.index.TheConstants.{CAPACITY}
use Rattle.tl_keys.specs.declared.index.KeyIndex.{KeyIndex}
use Rattle.tl_keys.specs.Kept.{KeptValue}

-- what each of the two parts has under a key
abbrev pub recent_at : KeyIndex → List ℕ → Option KeptValue
recent_at i key = get_by_text i.recent key

abbrev pub earlier_at : KeyIndex → List ℕ → Option KeptValue
earlier_at i key = get_by_text i.earlier key

-- what is remembered under a key: what was remembered last
abbrev pub recall : KeyIndex → List ℕ → Option KeptValue
recall i key = option_or (recent_at i key) (earlier_at i key)

-- whatever is remembered has P, together with its key
abbrev pub AllUnder : (List ℕ → KeptValue → Type 0) → KeyIndex → Type 0
AllUnder P i = (key : List ℕ) (kept : KeptValue) → recall i key ≡ Some kept → P key kept

-- each part has under this key what it had before
abbrev pub Stays : KeyIndex → KeyIndex → List ℕ → Type 0
Stays old new key = (recent_at new key ≡ recent_at old key) × (earlier_at new key ≡ earlier_at old key)

-- the recent part was full and is now the earlier one; what the earlier one had is forgotten
abbrev pub Ages : KeyIndex → KeyIndex → List ℕ → Type 0
Ages old new key = (CAPACITY ≤ hash_map_len old.recent) × (recent_at new key ≡ None) × (earlier_at new key ≡ recent_at old key)

-- The call is remembered under its key. Under each other key is what was there, unless the recent part was full: then only what was there in
-- that part is left, and all of it was remembered after what is forgotten.
pub record Remembers (old new : KeyIndex) (key : List ℕ) (kept : KeptValue) : Type 0 where
  pub here : recent_at new key ≡ Some kept
  pub others : (other : List ℕ) → other ≢ key → Stays old new other ⊎ Ages old new other
  -- the recent part has one key more at most, and no other where it was full
  pub grows : hash_map_len new.recent ≤ hash_map_len old.recent + 1
  pub fresh : CAPACITY ≤ hash_map_len old.recent → hash_map_len new.recent ≤ 1

-- Something is remembered under the key, and will be after so many calls more.
abbrev pub Lasts : KeyIndex → List ℕ → ℕ → Type 0
Lasts i key n = (IsSome (recent_at i key) × (n ≤ CAPACITY)) ⊎ (IsSome (earlier_at i key) × (n + hash_map_len i.recent ≤ CAPACITY))
