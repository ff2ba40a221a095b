use Rattle.std.proofs.Common.{◌≡◌, map, take}
use Rattle.tl_procedures.specs.Names.{with_code}
use Rattle.tl_procedures.proofs.procedures.Procedures.with_code.Given as goal

abbrev pub invariant-loop-number : goal.invariant-loop-number
invariant-loop-number l = l.copy ≡ map (with_code (record { name = l.name; code = l.procedure.value })) (take l.number l.self)
