use Rattle.std.proofs.Common.{◌≡◌, ◌↔◌, List, ◌++◌, drop}
use Rattle.tl_workers.specs.declared.asking.Asking.{Asking}
use Rattle.tl_workers.specs.Matching.{asked_from, calls_from, calls_of}
use Rattle.tl_workers.proofs.matching.after_calls.Given as goal

abbrev pub invariant-loop-i : goal.invariant-loop-i
invariant-loop-i l = (rest : List Asking) → (asked_from l.session.kept l.from ≡ calls_of l.closed l.session.number ++ rest) ↔ (asked_from l.session.kept l.place ≡ calls_from l.closed l.i (drop l.i l.closed.owners) l.session.number ++ rest)
