use Rattle.tl_workers.proofs.Turns.{IsInTurnSoFar}
use Rattle.tl_workers.proofs.matching.go_in_turn.Given as goal

abbrev pub invariant-loop-i : goal.invariant-loop-i
invariant-loop-i l = IsInTurnSoFar l.chain l.session.kept l.i l.begun
