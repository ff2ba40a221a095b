use Rattle.std.proofs.Common.{refl, rules}
use Rattle.tl_lowering.proofs.ScopeLemmas.{none_in_use}
use Rattle.tl_lowering.proofs.scope.Scope.new.Goals as goal

pub returns-clause-bare : goal.returns-clause-bare
returns-clause-bare c = record { names = none_in_use _ c.args.names (search rules); values = refl; nodes = refl; loops = refl }
