use Rattle.std.proofs.Common.{◌≡◌, IsTrue, sym, ap, ◌∙◌, subst, arith}
use Rattle.sqlite_trees.specs.Objects.{version_tree, version_rows, with_version}
use Rattle.sqlite_trees.specs.View.{IsClean, Commits, SetsTree}
use Rattle.tl_ledger.specs.Contents.{IsAtRest}
use Rattle.tl_store_file.specs.declared.form.TheConstants.{FORM}
use Rattle.tl_store_file.proofs.form.set_form.Goals as goal

pub returns-clause-rest : goal.returns-clause-rest
returns-clause-rest g c = λ clean.
    let before = g.S.Store.view c.args.store.now in
    let mid = g.S.Store.view c.set_version.new.self in
    let new = g.S.Store.view c.commit.new.self in
    let mid_clean : IsClean mid = omega (arith, clean, c.commit.ensures.clean) in
    let first : IsClean before = omega (arith, mid_clean, c.set_version.ensures.quiet.clean) in
    let sets : SetsTree before mid version_tree (λ _. version_rows FORM) = c.in_ok-set_version.ensures.ok mid_clean in
    let commits : Commits mid new = c.in_ok-commit.ensures.ok clean in
    let rested : IsAtRest before = c.requires first in
    record {
      is_open = subst IsTrue (sym (ap (λ v. v.is_open) commits.is ∙ ap (λ v. v.is_open) sets.is)) rested.is_open;
      sound = ap (λ v. v.is_broken) commits.is ∙ ap (λ v. v.is_broken) sets.is ∙ rested.sound;
      settled = ap (λ v. v.trees) commits.is ∙ sym (ap (λ v. v.committed) commits.is);
      tables = λ t less. ap (λ v. v.shape t) commits.is ∙ ap (λ v. v.shape t) sets.is ∙ rested.tables t less;
    }

pub returns-clause-form : goal.returns-clause-form
returns-clause-form g c = λ clean.
    let before = g.S.Store.view c.args.store.now in
    let mid = g.S.Store.view c.set_version.new.self in
    let new = g.S.Store.view c.commit.new.self in
    let mid_clean : IsClean mid = omega (arith, clean, c.commit.ensures.clean) in
    let first : IsClean before = omega (arith, mid_clean, c.set_version.ensures.quiet.clean) in
    let sets : SetsTree before mid version_tree (λ _. version_rows FORM) = c.in_ok-set_version.ensures.ok mid_clean in
    let commits : Commits mid new = c.in_ok-commit.ensures.ok clean in
    let rested : IsAtRest before = c.requires first in
    ap (λ v. v.committed) commits.is ∙ ap (λ v. v.trees) sets.is ∙ ap (λ db. with_version db FORM) rested.settled
