-- The number of fields of a record.
use Rattle.std.specs.Prelude.{ℕ}

-- a record has eight fields
abbrev pub field_count : ℕ
field_count = 8

-- a narrow record, that of the language's first version, has four
abbrev pub narrow_field_count : ℕ
narrow_field_count = 4
