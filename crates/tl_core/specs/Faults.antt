-- The faults of a core, as numbers.
use Rattle.std.specs.Prelude.{ℕ, List, [], ◌∷◌}
use Rattle.tl_core.specs.declared.fault.CoreFault.{CoreFault}
use Rattle.tl_core.specs.declared.fault.CoreFault.TheVariants.{WrongArgs, NoProcedure, NoCall, TooManyCalls, TooManyOpen, HistoryFull, NotAtRest, NotFrom, Memory}

-- the fault's number, followed by its operand
abbrev pub numbers_of : CoreFault → List ℕ
numbers_of WrongArgs = 501 ∷ []
numbers_of NoProcedure = 601 ∷ []
numbers_of NoCall = 602 ∷ []
numbers_of TooManyCalls = 603 ∷ []
numbers_of TooManyOpen = 604 ∷ []
numbers_of HistoryFull = 605 ∷ []
numbers_of (NotAtRest call) = 606 ∷ call ∷ []
numbers_of NotFrom = 607 ∷ []
numbers_of Memory = 690 ∷ []
