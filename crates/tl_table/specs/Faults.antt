-- The faults of a table, as numbers.
use Rattle.std.specs.Prelude.{ℕ, List, [], ◌∷◌}
use Rattle.tl_core.specs.Faults.{numbers_of as core_numbers_of}
use Rattle.tl_table.specs.declared.fault.TableFault.{TableFault}
use Rattle.tl_table.specs.declared.fault.TableFault.TheVariants.{Core, Stale, NoSession, TooManyEpochs, TooManySessions, Memory}

-- the fault's number, followed by its operand
abbrev pub numbers_of : TableFault → List ℕ
numbers_of (Core f) = core_numbers_of f
numbers_of Stale = 801 ∷ []
numbers_of NoSession = 803 ∷ []
numbers_of TooManyEpochs = 808 ∷ []
numbers_of TooManySessions = 821 ∷ []
numbers_of Memory = 890 ∷ []
