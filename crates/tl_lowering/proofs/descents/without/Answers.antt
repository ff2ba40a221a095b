use Rattle.std.proofs.Common.{◌∙◌, ap}
use Rattle.tl_lowering.specs.Paths.{bits}
use Rattle.tl_lowering.specs.Sets.{holds}
use Rattle.tl_lowering.proofs.DescendLemmas.{taken_out}
use Rattle.tl_lowering.proofs.descents.without.Goals as goal

pub returns : goal.returns
returns c = λ n. ap (λ h. holds h n) c.without.ensures.nodes ∙ taken_out (bits c.args.nodes) c.args.register n
