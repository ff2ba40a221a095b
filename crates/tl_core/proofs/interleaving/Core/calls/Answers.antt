use Rattle.std.proofs.Common.{arith}
use Rattle.tl_core.proofs.interleaving.Core.calls.Goals as goal

pub returns-clause-few_open : goal.returns-clause-few_open
returns-clause-few_open c = rw (← c.self.view_is) (let few = c.self.invariant.few_open in let same = c.self.invariant.core.open_are in omega arith)
