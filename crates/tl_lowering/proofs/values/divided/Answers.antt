use mir.Val.{to_z, of_z}
use Rattle.std.proofs.Common.{◌∙◌, pos, ap, w32, w64}
use Rattle.std.specs.Prelude.{int_rem}
use Rattle.std.proofs.lemmas.Int.{to_z-of_z, quot_is, rem_is, quot_fits}
use Rattle.tl_lowering.proofs.LiteralLemmas.{rest_fits, base_fits, base_above}
use Rattle.tl_lowering.proofs.values.divided.Goals as goal

pub overflow_cast-result : goal.overflow_cast-result
overflow_cast-result c = rw (rem_is w64 c.args.number (pos 65536) c.ranges.number base_fits) (rest_fits c.args.number)

pub returns-clause-quotient : goal.returns-clause-quotient
returns-clause-quotient c = quot_is w64 c.args.number (pos 65536) c.ranges.number base_fits (quot_fits w64 c.args.number (pos 65536) c.ranges.number base_above)

pub returns-clause-rest : goal.returns-clause-rest
returns-clause-rest c =
    ap (λ z. to_z w32 (of_z w32 z)) (rem_is w64 c.args.number (pos 65536) c.ranges.number base_fits)
    ∙ to_z-of_z w32 (int_rem c.args.number (pos 65536)) (rest_fits c.args.number)
