use Rattle.std.proofs.Common.{List, drop}
use Rattle.tl_warnings.specs.declared.warning.Warning.{Warning}
use Rattle.tl_warnings.specs.Finding.{BlockWarns}
use Rattle.tl_warnings.proofs.finding.+finding.Given as goal

abbrev pub invariant-block-loop-index : goal.invariant-block-loop-index
invariant-block-loop-index l = (us : List Warning) → BlockWarns (drop l.index l.statements) l.found.items us → BlockWarns l.statements l.initial.found.items us
