use Rattle.std.proofs.Common.{take}
use Rattle.tl_warnings.specs.Finding.{ArgumentsWarn}
use Rattle.tl_warnings.proofs.finding.arguments.Given as goal

abbrev pub invariant-loop-name : goal.invariant-loop-name
invariant-loop-name l = ArgumentsWarn l.procedure l.initial.found.items (take l.name-index l.names) l.found.items
