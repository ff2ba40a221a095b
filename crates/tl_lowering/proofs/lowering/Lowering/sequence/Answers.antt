use Rattle.std.proofs.Common.{◌≡◌, [], arith}
use Rattle.std.proofs.lemmas.Grind.{common_steps}
use Rattle.tl_lowering.proofs.JoinLemmas.{joins_none}
use Rattle.tl_lowering.proofs.lowering.Lowering.sequence.Goals as goal

pub returns-then-count-eq0-clause-named : goal.returns-then-count-eq0-clause-named
returns-then-count-eq0-clause-named c =
    let empty : c.args.statements.items ≡ [] = grind (arith, common_steps) in
    joins_none empty
