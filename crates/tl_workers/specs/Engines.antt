-- An engine as a contract sees it.
use Rattle.std.specs.Prelude.{Bool}

-- whether the engine seals its epochs by itself; everything else is behind its lock
pub record EngineValue : Type 0 where
  pub seals : Bool
