use Rattle.std.proofs.Common.{rules, ◌≡◌, length, arith}
use Rattle.sqlite_trees.specs.View.{IsClean}
use Rattle.tl_ledger.proofs.CommitLemmas.{adds_all}
use Rattle.tl_ledger.proofs.committing.write_news.Goals as goal

pub returns-clause-ok : goal.returns-clause-ok
returns-clause-ok g c clean =
    let clean6 : IsClean (g.S.Store.view c.append_all-6.new.store) = omega (arith, clean, c.put_changes.ensures.quiet.clean) in
    let clean5 : IsClean (g.S.Store.view c.append_all-5.new.store) = omega (arith, clean6, c.append_all-6.ensures.quiet.clean) in
    let clean4 : IsClean (g.S.Store.view c.append_all-4.new.store) = omega (arith, clean5, c.append_all-5.ensures.quiet.clean) in
    let clean3 : IsClean (g.S.Store.view c.append_all-3.new.store) = omega (arith, clean4, c.append_all-4.ensures.quiet.clean) in
    let clean2 : IsClean (g.S.Store.view c.append_all-2.new.store) = omega (arith, clean3, c.append_all-3.ensures.quiet.clean) in
    let cleanz : IsClean (g.S.Store.view c.append_zeros.new.store) = omega (arith, clean2, c.append_all-2.ensures.quiet.clean) in
    let clean1 : IsClean (g.S.Store.view c.append_all.new.store) = omega (arith, cleanz, c.append_zeros.ensures.quiet.clean) in
    let long : c.len.result ≡ length c.args.news.now.nodes.items = search rules in
    adds_all _ _ _ _ _ _ _ _ _ c.args.marks.now c.args.news.now
    (rw c.as_slice.ensures.value at (c.in_ok-append_all.ensures.ok clean1))
    (rw c.as_slice-2.ensures.value at (c.in_ok-append_zeros.ensures.ok cleanz))
    (rw c.as_slice-3.ensures.value at (c.in_ok-append_all-2.ensures.ok clean2))
    (rw c.as_slice-4.ensures.value at (c.in_ok-append_all-3.ensures.ok clean3))
    (rw c.as_slice-5.ensures.value at (c.in_ok-append_all-4.ensures.ok clean4))
    (rw c.as_slice-6.ensures.value at (c.in_ok-append_all-5.ensures.ok clean5))
    (rw c.as_slice-7.ensures.value at (c.in_ok-append_all-6.ensures.ok clean6))
    (rw (c.as_slice-8.ensures.value, long) at (c.in_ok-put_changes.ensures.ok clean))
