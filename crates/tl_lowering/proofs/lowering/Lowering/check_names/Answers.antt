use Rattle.std.proofs.Common.{rules}
use Rattle.tl_lowering.specs.Names.{names_of}
use Rattle.tl_lowering.proofs.NumberLemmas.{new_beside}
use Rattle.tl_lowering.proofs.lowering.Lowering.check_names.Goals as goal

pub returns-in_default-clause-named : goal.returns-in_default-clause-named
returns-in_default-clause-named c = rw c.in_default.is c.in_ok-check_new.ensures

pub returns-in_default-clause-index : goal.returns-in_default-clause-index
returns-in_default-clause-index c = rw c.in_default.is tt

pub returns-clause-named : goal.returns-clause-named
returns-clause-named c =
    rw c.in-Some.is (c.in_ok-check_new.ensures, new_beside (names_of c.args.self.now.scope) c.args.child c.in-Some.index (search rules) c.in_ok-check_new-2.ensures)

pub returns-clause-index : goal.returns-clause-index
returns-clause-index c = rw c.in-Some.is (c.in_ok-check_new-2.ensures, search rules)
