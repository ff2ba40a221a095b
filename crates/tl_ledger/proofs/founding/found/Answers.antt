use Rattle.std.proofs.Common.{◌≡◌, inr, IsTrue, sym, ap, ◌∙◌, subst, arith}
use Rattle.sqlite_trees.specs.Tree.{Trees}
use Rattle.sqlite_trees.specs.View.{IsClean, Commits}
use Rattle.tl_ledger.specs.Contents.{Holds}
use Rattle.tl_ledger.specs.News.{after_founding, Founds}
use Rattle.tl_ledger.proofs.founding.found.Goals as goal

pub returns-clause-stored : goal.returns-clause-stored
returns-clause-stored g c = λ clean contents empty blank.
    let before = g.S.Store.view c.args.store.now in
    let mid = g.S.Store.view c.write_first.new.store in
    let new = g.S.Store.view c.commit.new.self in
    let mid_clean : IsClean mid = omega (arith, clean, c.commit.ensures.clean) in
    let first : IsClean before = omega (arith, mid_clean, c.write_first.ensures.quiet.clean) in
    let founds : Founds before mid c.args.first.now = c.in_default.ensures.ok mid_clean in
    let commits : Commits mid new = c.in_ok-commit.ensures.ok clean in
    let shown : Holds before.trees contents = subst (λ (db : Trees). Holds db contents) (sym (c.requires.rest first).settled) blank in
    let is : new.committed ≡ mid.trees = ap (λ v. v.committed) commits.is in
    subst (λ (db : Trees). Holds db (after_founding contents c.args.first.now)) (sym is) (founds.holds contents empty shown)

pub returns-clause-durable : goal.returns-clause-durable
returns-clause-durable g c = λ clean contents empty blank db found.
    let before = g.S.Store.view c.args.store.now in
    let mid = g.S.Store.view c.write_first.new.store in
    let new = g.S.Store.view c.commit.new.self in
    let mid_clean : IsClean mid = omega (arith, clean, c.commit.ensures.clean) in
    let first : IsClean before = omega (arith, mid_clean, c.write_first.ensures.quiet.clean) in
    let founds : Founds before mid c.args.first.now = c.in_default.ensures.ok mid_clean in
    let commits : Commits mid new = c.in_ok-commit.ensures.ok clean in
    let same_open : new.is_open ≡ before.is_open = ap (λ v. v.is_open) commits.is ∙ ap (λ v. v.is_open) founds.only in
    let is : db ≡ new.committed = g.met.S.Store.settled c.commit.new.self db (subst IsTrue (sym same_open) (c.requires.rest first).is_open) found in
    subst (λ (trees : Trees). Holds trees (after_founding contents c.args.first.now)) (sym is) (returns-clause-stored g c clean contents empty blank)

pub returns-clause-crash : goal.returns-clause-crash
returns-clause-crash g c = λ clean contents empty blank db found. inr (returns-clause-durable g c clean contents empty blank db found)
