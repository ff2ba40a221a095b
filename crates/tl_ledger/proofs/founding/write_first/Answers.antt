use Rattle.std.proofs.Common.{arith}
use Rattle.sqlite_trees.specs.View.{IsClean}
use Rattle.tl_ledger.proofs.CommitLemmas.{founds_all}
use Rattle.tl_ledger.proofs.founding.write_first.Goals as goal

pub returns-clause-ok : goal.returns-clause-ok
returns-clause-ok g c clean =
    let clean3 : IsClean (g.S.Store.view c.append_all-3.new.store) = omega (arith, clean, c.append_all-4.ensures.quiet.clean) in
    let clean2 : IsClean (g.S.Store.view c.append_all-2.new.store) = omega (arith, clean3, c.append_all-3.ensures.quiet.clean) in
    let clean1 : IsClean (g.S.Store.view c.append_all.new.store) = omega (arith, clean2, c.append_all-2.ensures.quiet.clean) in
    founds_all _ _ _ _ _ c.args.first.now
    (rw c.as_slice.ensures.value at (c.in_ok-append_all.ensures.ok clean1))
    (rw c.as_slice-2.ensures.value at (c.in_ok-append_all-2.ensures.ok clean2))
    (rw c.as_slice-3.ensures.value at (c.in_ok-append_all-3.ensures.ok clean3))
    (rw c.as_slice-4.ensures.value at (c.in_ok-append_all-4.ensures.ok clean))
