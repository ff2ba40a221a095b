use Rattle.std.proofs.Common.{take}
use Rattle.tl_warnings.specs.Finding.{DeclarationsWarn}
use Rattle.tl_warnings.proofs.finding.declarations.Given as goal

abbrev pub invariant-loop-one : goal.invariant-loop-one
invariant-loop-one l = DeclarationsWarn l.initial.found.items (take l.one-index l.all) l.found.items
