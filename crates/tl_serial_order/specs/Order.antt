-- An order of calls.
use Rattle.std.specs.Prelude.{ℕ, List}

-- the calls' numbers, in order, and the number of calls for which memory is reserved
pub record OrderValue : Type 0 where
  pub calls : List ℕ
  pub capacity : ℕ
