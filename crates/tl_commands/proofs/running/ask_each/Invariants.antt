use Rattle.std.proofs.Common.{◌≡◌, ◌≤◌, length, take, vec_len}
use Rattle.std.specs.Prelude.{vec_capacity}
use Rattle.std.specs.List.{All}
use Rattle.tl_workers.specs.Kept.{Gains}
use Rattle.tl_workers.specs.Refusals.{AreCallRefusals}
use Rattle.tl_commands.specs.Run.{AnswersBatches, AreInEpochs, kept_of, batches_of, answers_of}
use Rattle.tl_commands.proofs.running.ask_each.Given as goal

abbrev pub invariant-loop-number : goal.invariant-loop-number
invariant-loop-number g l =
    AnswersBatches (batches_of (take l.number l.batches)) (answers_of l.all.items)
    × Gains l.fn.session l.session (kept_of (batches_of (take l.number l.batches)) (answers_of l.all.items))
    × (vec_len l.all ≡ l.number)
    × (length l.batches ≤ vec_capacity l.all)
    × AreInEpochs (answers_of l.all.items)
    × All (AreCallRefusals l.engine.seals) (answers_of l.all.items)
