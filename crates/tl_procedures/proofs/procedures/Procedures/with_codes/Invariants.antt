use Rattle.std.proofs.Common.{◌≡◌, take}
use Rattle.tl_procedures.specs.Names.{replaced}
use Rattle.tl_procedures.proofs.procedures.Procedures.with_codes.Given as goal

abbrev pub invariant-loop-number : goal.invariant-loop-number
invariant-loop-number l = l.procedures ≡ replaced l.fn.self (take l.number l.others)
