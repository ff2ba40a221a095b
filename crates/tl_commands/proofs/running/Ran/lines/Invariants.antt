use Rattle.std.proofs.Common.{◌≡◌, take, string_bytes}
use Rattle.tl_commands.specs.Run.{batch_lines}
use Rattle.tl_commands.proofs.running.Ran.lines.Given as goal

abbrev pub invariant-loop-answers : goal.invariant-loop-answers
invariant-loop-answers l = string_bytes l.text ≡ batch_lines (take l.answers-index l.self.answers)
