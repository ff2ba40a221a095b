-- The faults of verification as numbers.
use Rattle.std.specs.Prelude.{ℕ, List, [], ◌∷◌}
use Rattle.tl_budget.specs.declared.fault.NestFault.{NestFault}
use Rattle.tl_budget.specs.declared.fault.NestFault.TheVariants as nest
use Rattle.tl_budget.specs.Faults.{numbers_of as nest_numbers_of}
use Rattle.tl_verify.specs.declared.fault.VerifyFault.{VerifyFault}
use Rattle.tl_verify.specs.declared.fault.VerifyFault.TheVariants.{Nest, BackJump, IntoLoop, OffEnd, FirstSpent, NotHeld, Occupied, HeldAtReturn, Joins, LoopChanges, Memory}

abbrev pub numbers_of : VerifyFault → List ℕ
numbers_of (Nest f) = nest_numbers_of f
numbers_of (BackJump p) = 401 ∷ p ∷ []
numbers_of (IntoLoop p) = 402 ∷ p ∷ []
numbers_of (OffEnd p) = 403 ∷ p ∷ []
numbers_of (FirstSpent p) = 404 ∷ p ∷ []
numbers_of (NotHeld p n) = 405 ∷ p ∷ n ∷ []
numbers_of (Occupied p n) = 406 ∷ p ∷ n ∷ []
numbers_of (HeldAtReturn p n) = 407 ∷ p ∷ n ∷ []
numbers_of (Joins p) = 408 ∷ p ∷ []
numbers_of (LoopChanges p) = 409 ∷ p ∷ []
numbers_of Memory = 490 ∷ []

-- a fault of the loops as a fault of verification; refused memory is no fault of the code
abbrev pub of_nest : NestFault → VerifyFault
of_nest (nest.LoopOpen p) = Nest (nest.LoopOpen p)
of_nest (nest.EndAlone p) = Nest (nest.EndAlone p)
of_nest (nest.TooDeep p) = Nest (nest.TooDeep p)
of_nest (nest.ZeroCount p) = Nest (nest.ZeroCount p)
of_nest nest.StepsOver = Nest nest.StepsOver
of_nest nest.LocksOver = Nest nest.LocksOver
of_nest nest.EmitsOver = Nest nest.EmitsOver
of_nest nest.Memory = Memory
