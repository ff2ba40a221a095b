-- What came of a call that had a key.
use Rattle.std.specs.Prelude.{ℤ, List}

-- its epoch, its number there, and its reply
pub record KeptValue : Type 0 where
  pub epoch : ℤ
  pub call : ℤ
  pub reply : List ℤ
