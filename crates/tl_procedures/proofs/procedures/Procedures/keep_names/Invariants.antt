use Rattle.std.proofs.Common.{◌≡◌, map, take}
use Rattle.tl_procedures.specs.Names.{name_of}
use Rattle.tl_procedures.proofs.procedures.Procedures.keep_names.Given as goal

abbrev pub invariant-loop-number : goal.invariant-loop-number
invariant-loop-number l = map name_of (take l.number l.self) ≡ map name_of (take l.number l.first)
