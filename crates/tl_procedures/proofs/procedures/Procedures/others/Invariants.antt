use Rattle.std.proofs.Common.{map, string_bytes}
use Rattle.tl_procedures.specs.Names.{OtherNamesBelow}
use Rattle.tl_procedures.proofs.procedures.Procedures.others.Given as goal

abbrev pub invariant-loop-number : goal.invariant-loop-number
invariant-loop-number l = OtherNamesBelow l.number l.first l.self (map string_bytes l.names.items)
