-- Where an answer to a follower leads.
use Rattle.std.specs.Prelude.{◌≡◌, ℕ, ◌<◌, ◌⊎◌}
use Rattle.tl_follow.specs.Positions.{IsUpTo, beginning}
use Rattle.tl_ledger.specs.declared.committing.Marks.{Marks}

-- An answer never leads back: it ends in the volume that was asked for, not before the place, or it is at the beginning of a later volume.
abbrev pub IsBehind : ℕ → Marks → ℕ → Marks → Type 0
IsBehind asked from volume to = ((volume ≡ asked) × IsUpTo from to) ⊎ ((asked < volume) × (to ≡ beginning))
