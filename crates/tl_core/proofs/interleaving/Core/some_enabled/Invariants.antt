use Rattle.tl_core.specs.Cores.{world_of}
use Rattle.tl_core.proofs.EnabledLemmas.{IsLeast}
use Rattle.tl_core.proofs.interleaving.Core.some_enabled.Given as goal

abbrev pub invariant-loop-current : goal.invariant-loop-current
invariant-loop-current l = IsLeast (world_of l.self.seen) l.current-items l.current-index l.least
