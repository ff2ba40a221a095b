use Rattle.std.proofs.Common.{take}
use Rattle.tl_warnings.specs.Finding.{ValuesWarn}
use Rattle.tl_warnings.proofs.finding.values.Given as goal

abbrev pub invariant-loop-name : goal.invariant-loop-name
invariant-loop-name l = ValuesWarn l.known l.initial.found.items (take l.name-index l.names) l.found.items
