use Rattle.std.proofs.Common.{take}
use Rattle.tl_pending.specs.Claims.{Learns}
use Rattle.tl_pending.proofs.pending.learn.Given as goal

-- what came of the first calls is remembered
abbrev pub invariant-loop-answer : goal.invariant-loop-answer
invariant-loop-answer l = Learns l.claims l.epoch (take l.answer-index l.answers) l.initial.index l.index
