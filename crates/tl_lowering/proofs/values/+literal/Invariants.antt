-- The quotient is nearer to 0.
use Rattle.std.specs.Prelude.{nat_abs}
use Rattle.tl_lowering.proofs.values.+literal.Given as goal

abbrev pub decreases-literal : goal.decreases-literal
decreases-literal l = nat_abs l.number
