-- The keys that sessions have claimed, and what is remembered under keys.
use Rattle.std.specs.Prelude.{◌≡◌, ◌==◌, ℕ, ℤ, pos, List, [], ◌∷◌, Option, Some, None, if◌then◌else◌}
use Rattle.tl_news.specs.declared.news.Answer.{Answer}
use Rattle.tl_keys.specs.declared.index.KeyIndex.{KeyIndex}
use Rattle.tl_keys.specs.Kept.{KeptValue}
use Rattle.tl_keys.specs.Keys.{Remembers}

-- a session, and the key that it has claimed for the call that it asks for
pub record ClaimValue : Type 0 where
  pub session : ℕ
  pub key : List ℕ

-- the key that a session has claimed
abbrev pub key_of : List ClaimValue → ℕ → Option (List ℕ)
key_of [] session = None
key_of (c ∷ claims) session = if c.session == session then Some c.key else key_of claims session

-- what came of a call, in the store's epoch with this number
abbrev pub kept_of : ℤ → Answer → KeptValue
kept_of epoch a = record { epoch = epoch; call = pos a.call; reply = a.reply }

-- it is remembered under the key, if there is one
abbrev pub LearnsUnder : Option (List ℕ) → KeptValue → KeyIndex → KeyIndex → Type 0
LearnsUnder None kept old new = new ≡ old
LearnsUnder (Some key) kept old new = Remembers old new key kept

-- what came of calls is remembered under the keys that their sessions have claimed, one after another
abbrev pub Learns : List ClaimValue → ℤ → List Answer → KeyIndex → KeyIndex → Type 0
Learns claims epoch [] old new = new ≡ old
Learns claims epoch (a ∷ answers) old new =
    (mid : KeyIndex) × LearnsUnder (key_of claims a.session) (kept_of epoch a) old mid × Learns claims epoch answers mid new
