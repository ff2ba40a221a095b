use Rattle.std.proofs.Common.{◌≡◌, take}
use Rattle.tl_procedures.proofs.procedures.Procedures.begin_with.Given as goal

abbrev pub invariant-loop-number : goal.invariant-loop-number
invariant-loop-number l = take l.number l.self ≡ take l.number l.first
