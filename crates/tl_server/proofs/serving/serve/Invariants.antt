use Rattle.std.proofs.Common.{◌≡◌, ℕ, List}
use Rattle.std.specs.Prelude.{Some}
use Rattle.tl_server.specs.Runs.{GainsWholeCalls}
use Rattle.tl_server.specs.Sending.{sending, IsCounted}
use Rattle.tl_server.proofs.Goings.{GoesOn}
use Rattle.tl_server.proofs.serving.serve.Given as goal

abbrev pub invariant-loop : goal.invariant-loop
invariant-loop g l =
    ((bytes : List ℕ) → g.S.Source.input l.fn.source ≡ Some bytes
    → GoesOn g.V.Service.gains (g.V.Service.ways l.fn.service) g.V.Service.may_seal (record { input = g.S.Source.input l.fn.source; visitor = l.fn.visitor; output = g.K.Sink.output l.fn.sink })
    (g.S.Source.input l.source) l.visitor (sending (g.K.Sink.output l.sink) (g.K.Sink.failures l.sink) l.outbox) l.reader.left l.count bytes)
    × (g.S.Source.failures l.source ≡ g.S.Source.failures l.fn.source)
    × IsCounted (g.K.Sink.failures l.fn.sink) (sending (g.K.Sink.output l.sink) (g.K.Sink.failures l.sink) l.outbox)
    × GainsWholeCalls g.V.Service.gains l.fn.visitor l.visitor
