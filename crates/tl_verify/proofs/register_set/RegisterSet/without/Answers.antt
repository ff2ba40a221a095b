use Rattle.tl_verify.proofs.RegisterSetLemmas.{cleared_bit}
use Rattle.tl_verify.proofs.register_set.RegisterSet.without.Goals as goal

pub returns : goal.returns
returns c = rw (← c.self.view_is, ← c.number.ensures.same) (cleared_bit c.self.inside.bits c.number.result c.number.ensures.in_range)
