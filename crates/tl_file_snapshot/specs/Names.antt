-- The names that copies may have.
use Rattle.std.specs.Prelude.{ℕ, ◌-◌, Bool, List, [], ◌∷◌, length, take, drop, nat_lt, nat_le, ◌&&◌, ◌||◌, ◌==◌}
use Rattle.std.specs.Char.{is_ascii_alphanumeric}
use Rattle.std.specs.List.{list_all}
use Rattle.std.specs.Str.{bytes_eq}
use Rattle.tl_file_snapshot.specs.declared.name.TheConstants.{MAX_STEM}

-- an ASCII letter, a digit, `_` or `-`
abbrev pub is_stem_byte : ℕ → Bool
is_stem_byte b = is_ascii_alphanumeric b || ((b == 95) || (b == 45))

-- 1 to 64 such bytes
abbrev pub is_stem : List ℕ → Bool
is_stem stem = nat_lt 0 (length stem) && (nat_le (length stem) MAX_STEM && list_all is_stem_byte stem)

-- `.db`
abbrev pub name_end : List ℕ
name_end = 46 ∷ 100 ∷ 98 ∷ []

-- such bytes, and then `.db`
abbrev pub is_snapshot_name : List ℕ → Bool
is_snapshot_name name = bytes_eq (drop (length name - 3) name) name_end && is_stem (take (length name - 3) name)
