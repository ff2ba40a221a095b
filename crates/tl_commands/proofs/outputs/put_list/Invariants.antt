use Rattle.std.proofs.Common.{◌≡◌, take}
use Rattle.tl_commands.specs.Sinks.{Adds, AreClean}
use Rattle.tl_commands.proofs.SinkLemmas.{list_begun}
use Rattle.tl_commands.proofs.outputs.put_list.Given as goal

abbrev pub invariant-loop-number : goal.invariant-loop-number
invariant-loop-number g l =
    Adds (g.S.TrailSink.text l.fn.sink) (list_begun (take l.number l.chain)) (g.S.TrailSink.text l.sink)
    × (g.S.TrailSink.failures l.sink ≡ g.S.TrailSink.failures l.fn.sink)
    × AreClean (take l.number l.chain)
