use Rattle.std.proofs.Common.{refl}
use Rattle.tl_compiler.proofs.SetNumbers.{no_sets}
use Rattle.tl_compiler.proofs.outcomes.+outcomes_of.Goals as goal

pub returns-in-Break-clause-fails : goal.returns-in-Break-clause-fails
returns-in-Break-clause-fails t c = rw c.in-Break.is (no_sets _ refl)

pub returns-in-Return-clause-fails : goal.returns-in-Return-clause-fails
returns-in-Return-clause-fails t c = rw c.in-Return.is (no_sets _ refl)
