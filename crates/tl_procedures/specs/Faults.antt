-- The faults of naming a procedure, as numbers.
use Rattle.std.specs.Prelude.{ℕ, List, [], ◌∷◌}
use Rattle.tl_procedures.specs.declared.fault.NamingFault.{NamingFault}
use Rattle.tl_procedures.specs.declared.fault.ReplacingFault.{ReplacingFault}
use Rattle.tl_procedures.specs.declared.fault.ReplacingFault.TheVariants as replacing
use Rattle.tl_procedures.specs.declared.fault.NamingFault.TheVariants.{NameTaken, BadName, TooManyProcedures, Memory}

-- the number of a fault
abbrev pub numbers_of : NamingFault → List ℕ
numbers_of NameTaken = 611 ∷ []
numbers_of BadName = 612 ∷ []
numbers_of TooManyProcedures = 613 ∷ []
numbers_of Memory = 690 ∷ []

-- the number of a fault
abbrev pub replacing_numbers_of : ReplacingFault → List ℕ
replacing_numbers_of replacing.NoProcedure = 601 ∷ []
replacing_numbers_of replacing.Memory = 690 ∷ []
