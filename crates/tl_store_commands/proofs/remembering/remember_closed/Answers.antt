use Rattle.std.proofs.Common.{◌≡◌, ◌⊎◌, inl, inr, Some, ap, sym, subst, arith}
use Rattle.std.proofs.lemmas.Result.{IfOk-weaker}
use Rattle.sqlite_trees.specs.Tree.{Trees}
use Rattle.sqlite_trees.specs.View.{IsClean}
use Rattle.tl_ledger.specs.Contents.{Holds}
use Rattle.tl_keys.specs.Keys.{recall}
use Rattle.tl_store_commands.specs.Remembering.{IsStoredUnder}
use Rattle.tl_store_commands.proofs.remembering.remember_closed.Goals as goal

pub returns-clause-keys : goal.returns-clause-keys
returns-clause-keys g c =
    let first = g.S.Store.view c.args.store.now in
    let mid = g.S.Store.view c.marks_of.new.store in
    IfOk-weaker c.remember_epochs.result _ _
    (λ now keys clean contents holds.
    let before : IsClean mid = omega (arith, clean, c.remember_epochs.ensures.clean) in
    let same : mid.trees ≡ first.trees = ap (λ v. v.trees) ((c.in_ok-marks.ensures.reads before).same) in
    let marked = c.in_ok-marks.ensures.marks before contents holds in
    keys clean contents (subst (λ (db : Trees). Holds db contents) (sym same) holds) marked c.args.index (λ key kept is. inl is))
    c.remember_epochs.ensures.keys

pub returns-clause-whole : goal.returns-clause-whole
returns-clause-whole g c =
    let first = g.S.Store.view c.args.store.now in
    let mid = g.S.Store.view c.marks_of.new.store in
    IfOk-weaker c.remember_epochs.result _ _
    (λ now whole clean contents holds.
    let before : IsClean mid = omega (arith, clean, c.remember_epochs.ensures.clean) in
    let same : mid.trees ≡ first.trees = ap (λ v. v.trees) ((c.in_ok-marks.ensures.reads before).same) in
    let marked = c.in_ok-marks.ensures.marks before contents holds in
    whole clean contents (subst (λ (db : Trees). Holds db contents) (sym same) holds) marked)
    c.remember_epochs.ensures.whole
