-- Faults of loops come before all others.
use Rattle.std.proofs.Common.{◌<◌, arith}
use Rattle.tl_budget.specs.Findings.{Finding, Alone, Zero, Deep, Unclosed, pass}

-- faults of loops are in the first two passes
pub loops_first : (f : Finding) → pass f < 2
loops_first (Alone p) = omega arith
loops_first (Zero p) = omega arith
loops_first (Deep p) = omega arith
loops_first (Unclosed p) = omega arith
