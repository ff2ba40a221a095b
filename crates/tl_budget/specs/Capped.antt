-- Numbers that are limited to 64 bits.
use Rattle.std.specs.Prelude.{ℕ, min}

-- the number, or the largest unsigned 64-bit integer if the number is larger
abbrev pub capped : ℕ → ℕ
capped n = min n 18446744073709551615
