use Rattle.std.proofs.Common.{◌≡◌}
use Rattle.tl_workers.specs.Matching.{asked_from}
use Rattle.tl_workers.proofs.matching.next_asked.Given as goal

abbrev pub invariant-loop-i : goal.invariant-loop-i
invariant-loop-i l = asked_from l.session.kept l.from ≡ asked_from l.session.kept l.i
