use Rattle.tl_verify.proofs.MarksLemmas.{compared}
use Rattle.tl_verify.proofs.register_set.RegisterSetPartialEq.eq.Goals as goal

pub returns : goal.returns
returns c = rw (← c.self.view_is, ← c.other.view_is) (compared c.self.inside.bits c.other.inside.bits c.self.invariant c.other.invariant)
