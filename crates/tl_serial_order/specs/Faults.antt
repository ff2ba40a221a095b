-- The faults of serial orders, as numbers.
use Rattle.std.specs.Prelude.{ℕ, List, [], ◌∷◌}
use Rattle.tl_serial_order.specs.declared.fault.SerialFault.{SerialFault}
use Rattle.tl_serial_order.specs.declared.fault.SerialFault.TheVariants.{Unfinished, Memory}

-- the fault's number, followed by the call
abbrev pub numbers_of : SerialFault → List ℕ
numbers_of (Unfinished call) = 651 ∷ call ∷ []
numbers_of Memory = 690 ∷ []
