use Rattle.std.proofs.Common.{◌≡◌, map, take}
use Rattle.serde_json.specs.View.{view}
use Rattle.tl_commands.specs.Run.{answer_data}
use Rattle.tl_commands.proofs.answers.answers_to_value.Given as goal

abbrev pub invariant-loop-answer : goal.invariant-loop-answer
invariant-loop-answer l = map view l.items.items ≡ map answer_data (take l.answer-index l.answers)
