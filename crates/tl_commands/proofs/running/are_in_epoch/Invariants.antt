use Rattle.std.proofs.Common.{take}
use Rattle.std.specs.List.{All}
use Rattle.tl_commands.specs.Run.{IsInEpoch}
use Rattle.tl_commands.proofs.running.are_in_epoch.Given as goal

abbrev pub invariant-loop-answer : goal.invariant-loop-answer
invariant-loop-answer l = All (IsInEpoch l.epoch) (take l.answer-index l.answers)
