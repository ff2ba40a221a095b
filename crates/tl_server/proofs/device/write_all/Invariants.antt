use Rattle.std.proofs.Common.{◌≡◌, ◌++◌, List, ℕ, length}
use Rattle.tl_server.specs.Devices.{Adds}
use Rattle.tl_server.proofs.device.write_all.Given as goal

abbrev pub invariant-loop-left : goal.invariant-loop-left
invariant-loop-left g l = ((done : List ℕ) × (l.fn.text ≡ done ++ l.left) × Adds (g.K.Sink.output l.fn.sink) done (g.K.Sink.output l.sink)) × (g.K.Sink.failures l.sink ≡ g.K.Sink.failures l.fn.sink)

abbrev pub decreases-loop-left : goal.decreases-loop-left
decreases-loop-left g l = length l.left
