-- The faults of a history, as numbers.
use Rattle.std.specs.Prelude.{ℕ, List, [], ◌∷◌}
use Rattle.tl_history.specs.declared.fault.HistoryFault.{HistoryFault}
use Rattle.tl_history.specs.declared.fault.HistoryFault.TheVariants.{HistoryFull, Memory}

-- the number of a fault
abbrev pub numbers_of : HistoryFault → List ℕ
numbers_of HistoryFull = 605 ∷ []
numbers_of Memory = 690 ∷ []
