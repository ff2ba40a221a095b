use Rattle.tl_verify.proofs.RegisterSetLemmas.{tested}
use Rattle.tl_verify.proofs.register_set.RegisterSet.has.Goals as goal

pub returns : goal.returns
returns c = rw (← c.self.view_is, ← c.number.ensures.same) (tested c.self.inside.bits c.number.result c.number.ensures.in_range)
