use Rattle.std.proofs.Common.{◌≡◌, length, take}
use Rattle.std.specs.List.{All}
use Rattle.tl_table.specs.Epochs.{EpochValue, seen}
use Rattle.tl_commands.proofs.running.have_as_many.Given as goal

abbrev pub invariant-loop-closed : goal.invariant-loop-closed
invariant-loop-closed l = All (λ (e : EpochValue). length (seen e).procedures ≡ l.count) (take l.closed-index l.chain)
