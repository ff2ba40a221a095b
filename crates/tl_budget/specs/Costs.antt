-- Upper bounds for the instructions of a section, each time that control reaches the section's start.
use Rattle.std.specs.Prelude.{ℕ, zero, suc, ◌+◌, ◌-◌, ◌*◌, List, Bool, true, false, Option, Some, None, slice_get, nat_le, if◌then◌else◌}
use Rattle.tl_instr.specs.declared.instr.Instr.{Instr}
use Rattle.tl_budget.specs.Loops.{Loop, loop_at}

-- by how much the loop multiplies the executions of x: by its count if x is at or before its end
abbrev pub factor_by : Option Loop → ℕ → ℕ
factor_by None x = 1
factor_by (Some l) x = if nat_le x l.close then l.count else 1

abbrev pub factor : List Instr → ℕ → ℕ → ℕ
factor code o x = factor_by (loop_at code o) x

-- the product of the counts of the loops that open at one of the n positions from o on and have x in their body
abbrev pub times : List Instr → ℕ → ℕ → ℕ → ℕ
times code zero o x = 1
times code (suc n) o x = factor code o x * times code n (suc o) x

-- an upper bound for the executions of the instruction at x, each time that control reaches o
abbrev pub weight_from : List Instr → ℕ → ℕ → ℕ
weight_from code o x = times code (x - o) o x

abbrev pub passes : (Instr → Bool) → Option Instr → Bool
passes test None = false
passes test (Some i) = test i

-- an upper bound for the executions of instructions that pass the test, at the n positions from x on, each time that control reaches o
abbrev pub cost_from : (Instr → Bool) → List Instr → ℕ → ℕ → ℕ → ℕ
cost_from test code o zero x = 0
cost_from test code o (suc n) x = (if passes test (slice_get code x) then weight_from code o x else 0) + cost_from test code o n (suc x)

-- the same for the positions from p up to but not including q, each time that control reaches p
abbrev pub cost : (Instr → Bool) → List Instr → ℕ → ℕ → ℕ
cost test code p q = cost_from test code p (q - p) p
