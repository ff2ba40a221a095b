use Rattle.std.proofs.Common.{◌≡◌, ◌⊎◌, inl, inr, sym, subst, arith}
use Rattle.sqlite_trees.specs.Tree.{Trees}
use Rattle.sqlite_trees.specs.View.{IsClean, Commits}
use Rattle.tl_ledger.specs.Contents.{Holds, no_contents}
use Rattle.tl_snapshot.specs.Copies.{IsCopy}
use Rattle.tl_snapshot.proofs.CopyLemmas.{at_rest_copied, committed_copy, still_open}
use Rattle.tl_snapshot.proofs.copying.copy_store.Goals as goal

pub returns-in-Err-clause-crash : goal.returns-in-Err-clause-crash
returns-in-Err-clause-crash g c = λ from_clean to_clean blank db found.
    let mid : IsClean (g.T.Store.view c.copy_tables.new.to) = omega (arith, to_clean, c.rollback.ensures.quiet.clean) in
    let first : IsClean (g.T.Store.view c.args.to.now) = omega (arith, mid, c.copy_tables.ensures.to_quiet.clean) in
    let before = c.copy_tables.ensures.to_quiet.outcomes db (c.rollback.ensures.quiet.outcomes db found) in
    let is : db ≡ (g.T.Store.view c.args.to.now).committed = g.met.T.Store.settled c.args.to.now db (c.requires.to first).is_open before in
    inl (subst (λ (d : Trees). Holds d no_contents) (sym is) blank)

pub returns-in-Ok-clause-copied : goal.returns-in-Ok-clause-copied
returns-in-Ok-clause-copied g c = λ from_clean to_clean blank.
    let from = g.F.Store.view c.args.from.now in
    let to = g.T.Store.view c.args.to.now in
    let mid = g.T.Store.view c.copy_tables.new.to in
    let mid_clean : IsClean mid = omega (arith, to_clean, c.commit.ensures.clean) in
    let first : IsClean to = omega (arith, mid_clean, c.copy_tables.ensures.to_quiet.clean) in
    let from_first : IsClean from = omega (arith, from_clean, c.copy_tables.ensures.from_quiet.clean) in
    let copied = at_rest_copied from to mid (c.requires.from from_first) (c.requires.to first) blank (c.in_default.ensures.copied from_clean mid_clean) in
    committed_copy from.committed mid (g.T.Store.view c.commit.new.self) copied (c.in-Ok.ensures.ok to_clean)

pub returns-in-Ok-clause-durable : goal.returns-in-Ok-clause-durable
returns-in-Ok-clause-durable g c = λ from_clean to_clean blank db found.
    let from = g.F.Store.view c.args.from.now in
    let to = g.T.Store.view c.args.to.now in
    let mid = g.T.Store.view c.copy_tables.new.to in
    let new = g.T.Store.view c.commit.new.self in
    let mid_clean : IsClean mid = omega (arith, to_clean, c.commit.ensures.clean) in
    let first : IsClean to = omega (arith, mid_clean, c.copy_tables.ensures.to_quiet.clean) in
    let from_first : IsClean from = omega (arith, from_clean, c.copy_tables.ensures.from_quiet.clean) in
    let copied = at_rest_copied from to mid (c.requires.from from_first) (c.requires.to first) blank (c.in_default.ensures.copied from_clean mid_clean) in
    let commits : Commits mid new = c.in-Ok.ensures.ok to_clean in
    let is : db ≡ new.committed =
    g.met.T.Store.settled c.commit.new.self db (still_open to mid new (c.requires.to first) (c.in_default.ensures.writes mid_clean) commits) found in
    subst (IsCopy from.committed) (sym is) (committed_copy from.committed mid new copied commits)

pub returns-in-Ok-clause-crash : goal.returns-in-Ok-clause-crash
returns-in-Ok-clause-crash g c = λ from_clean to_clean blank db found. inr (returns-in-Ok-clause-durable g c from_clean to_clean blank db found)

pub returns-in-Err-commit-clause-crash : goal.returns-in-Err-commit-clause-crash
returns-in-Err-commit-clause-crash g c = λ from_clean to_clean blank db found.
    let from = g.F.Store.view c.args.from.now in
    let to = g.T.Store.view c.args.to.now in
    let mid = g.T.Store.view c.copy_tables.new.to in
    let mid_clean : IsClean mid = omega (arith, to_clean, c.commit.ensures.clean) in
    let first : IsClean to = omega (arith, mid_clean, c.copy_tables.ensures.to_quiet.clean) in
    let from_first : IsClean from = omega (arith, from_clean, c.copy_tables.ensures.from_quiet.clean) in
    let copied = at_rest_copied from to mid (c.requires.from from_first) (c.requires.to first) blank (c.in_default.ensures.copied from_clean mid_clean) in
    elim (c.commit.ensures.crash db found) as (λ _. Holds db no_contents ⊎ IsCopy from.committed db) [
      | inl whole ↦ inr (subst (IsCopy from.committed) (sym whole.1) copied)
      | inr before ↦
          let is : db ≡ to.committed = g.met.T.Store.settled c.args.to.now db (c.requires.to first).is_open (c.copy_tables.ensures.to_quiet.outcomes db before) in
          inl (subst (λ (d : Trees). Holds d no_contents) (sym is) blank)
    ]
