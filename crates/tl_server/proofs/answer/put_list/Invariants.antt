use Rattle.std.proofs.Common.{◌++◌, codes, map, take}
use Rattle.std.specs.List.{join_with_byte}
use Rattle.tl_server.specs.Sending.{sending, Writes}
use Rattle.tl_server.proofs.answer.put_list.Given as goal

abbrev pub invariant-loop-index : goal.invariant-loop-index
invariant-loop-index g l =
    Writes (sending (g.K.Sink.output l.fn.sink) (g.K.Sink.failures l.fn.sink) l.fn.outbox)
    (sending (g.K.Sink.output l.sink) (g.K.Sink.failures l.sink) l.outbox)
    (codes "[" ++ join_with_byte 44 (map (g.T.Part.text l.base) (take l.index l.items)))
