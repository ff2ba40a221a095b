-- What is true of every procedure.
use Rattle.std.specs.Prelude.{◌≡◌, List}
use Rattle.tl_instr.specs.declared.instr.Instr.{Instr}
use Rattle.tl_instr.specs.Codes.{CodeValue, IsCode}
use Rattle.tl_budget.specs.declared.limits.Bounds.{Bounds}
use Rattle.tl_budget.specs.declared.nested.Place.{Place}
use Rattle.tl_budget.specs.Nested.{IsNest}
use Rattle.tl_budget.specs.Loops.{budget, lock_bound, emit_bound}
use Rattle.tl_verify.specs.Acceptable.{Acceptable}

-- the bounds are the sums of the weights
pub record AreBounds (code : List Instr) (b : Bounds) : Type 0 where
  pub steps : b.steps ≡ budget code
  pub locks : b.locks ≡ lock_bound code
  pub emits : b.emits ≡ emit_bound code

pub record IsProc (code : CodeValue) (places : List Place) (b : Bounds) : Type 0 where
  pub valid : IsCode code
  pub accepted : Acceptable code.instrs
  pub nest : IsNest code.instrs places
  pub bounds : AreBounds code.instrs b
