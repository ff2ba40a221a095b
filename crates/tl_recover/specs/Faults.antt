-- The faults of replaying a core, as numbers.
use Rattle.std.specs.Prelude.{ℕ, List, [], ◌∷◌}
use Rattle.tl_core.specs.declared.fault.CoreFault.TheVariants.{Memory}
use Rattle.tl_core.specs.Faults.{numbers_of as core_numbers_of}
use Rattle.tl_recover.specs.declared.fault.RecoverFault.{RecoverFault}
use Rattle.tl_recover.specs.declared.fault.RecoverFault.TheVariants.{NoRequest, OutOfTurn, Core}

-- the fault's number, followed by its operand
abbrev pub numbers_of : RecoverFault → List ℕ
numbers_of (NoRequest turn) = 1004 ∷ turn ∷ []
numbers_of (OutOfTurn turn) = 1005 ∷ turn ∷ []
numbers_of (Core f) = core_numbers_of f

-- memory was refused
abbrev pub out_of_memory : RecoverFault
out_of_memory = Core Memory
