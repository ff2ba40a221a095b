use Rattle.std.proofs.Common.{take}
use Rattle.tl_warnings.specs.Finding.{ParametersWarn}
use Rattle.tl_warnings.proofs.finding.parameters.Given as goal

abbrev pub invariant-loop-name : goal.invariant-loop-name
invariant-loop-name l = ParametersWarn l.part l.initial.found.items (take l.name-index l.names) l.found.items
