use Rattle.std.proofs.Common.{sym, arith}
use Rattle.tl_verify.proofs.RegisterSetLemmas.{lowest_bit}
use Rattle.tl_verify.proofs.register_set.RegisterSet.first.Goals as goal

pub returns : goal.returns
returns c = rw (← c.self.view_is) (sym (lowest_bit c.self.inside.bits (omega (arith, c.if-self-eq0.false)) c.self.invariant))
