use Rattle.tl_verify.proofs.RegisterSetLemmas.{set_bit}
use Rattle.tl_verify.proofs.register_set.RegisterSet.with.Goals as goal

pub returns : goal.returns
returns c = rw (← c.self.view_is, ← c.number.ensures.same) (set_bit c.self.inside.bits c.number.result c.number.ensures.in_range)
