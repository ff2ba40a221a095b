-- A label is the number of instructions from a position to the end of the code.
use Rattle.std.specs.Prelude.{ℕ, min}

-- a label as a target, limited to 16 bits
abbrev pub target_of : ℕ → ℕ
target_of label = min label 65535
