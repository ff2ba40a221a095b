-- There is an entry without a turn for each call so far.
use Rattle.std.proofs.Common.{◌≡◌, None, replicate}
use Rattle.tl_audit.proofs.replays.Replays.new.Given as goal

abbrev pub invariant-loop-call : goal.invariant-loop-call
invariant-loop-call l = l.turns.items ≡ replicate l._call None
