use Rattle.std.proofs.Common.{◌≡◌, ◌++◌}
use Rattle.tl_procedures.specs.Names.{AreFreeAfter}
use Rattle.tl_procedures.proofs.procedures.Procedures.and_all.Given as goal

abbrev pub invariant-loop-named : goal.invariant-loop-named
invariant-loop-named l = AreFreeAfter l.fn.self l.yielded × (l.procedures ≡ l.fn.self ++ l.yielded)
