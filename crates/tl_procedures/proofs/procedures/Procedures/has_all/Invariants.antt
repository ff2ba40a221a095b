use Rattle.std.proofs.Common.{take}
use Rattle.tl_procedures.specs.Names.{AreKnown}
use Rattle.tl_procedures.proofs.procedures.Procedures.has_all.Given as goal

abbrev pub invariant-loop-number : goal.invariant-loop-number
invariant-loop-number l = AreKnown l.self (take l.number l.others)
