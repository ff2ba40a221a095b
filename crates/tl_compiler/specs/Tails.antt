-- Ends of codes.
use Rattle.std.specs.Prelude.{◌≡◌, List, ◌++◌}
use Rattle.tl_instr.specs.declared.instr.Instr.{Instr}

-- the second list is an end of the first
pub record Tail (whole end : List Instr) : Type 0 where
  pub front : List Instr
  pub joined : whole ≡ front ++ end
