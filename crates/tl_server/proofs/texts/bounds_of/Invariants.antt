use Rattle.std.proofs.Common.{take}
use Rattle.tl_server.specs.Served.{AreBoundsOf}
use Rattle.tl_server.proofs.texts.bounds_of.Given as goal

-- those of the first procedures are told
abbrev pub invariant-loop-named : goal.invariant-loop-named
invariant-loop-named l = AreBoundsOf (take l.named-index l.procedures) l.all.items
