use Rattle.std.proofs.Common.{◌≡◌, sym, subst, arith}
use Rattle.std.proofs.lemmas.Result.{IfOk-weaker}
use Rattle.sqlite_store.specs.FileStore.{view}
use Rattle.sqlite_trees.specs.View.{View, IsClean}
use Rattle.tl_ledger.specs.Contents.{Contents, Holds}
use Rattle.tl_ledger.specs.News.{IsMarked}
use Rattle.tl_snapshot.specs.Copies.{IsCopy}
use Rattle.tl_file_snapshot.proofs.filling.fill.Goals as goal

pub returns-clause-copied : goal.returns-clause-copied
returns-clause-copied g c = IfOk-weaker c.in_one_file.result _ _
    (λ copy same ledger_clean clean.
    let is : view copy ≡ view c.in_ok-filled.field-0 = same clean in
    let filled_clean : IsClean (view c.in_ok-filled.field-0) = subst IsClean is clean in
    let made_clean : IsClean (view c.in_ok-make.field-0.store) = omega (arith, filled_clean, c.in_ok-filled.ensures.clean) in
    subst (λ (v : View). IsCopy (g.S.Store.view c.args.ledger.now.store).committed v.committed) (sym is)
    (c.in_ok-filled.ensures.copied ledger_clean filled_clean (c.in_ok-make.ensures.empty made_clean)))
    c.in_one_file.ensures

pub returns-clause-counted : goal.returns-clause-counted
returns-clause-counted g c = IfOk-weaker c.in_one_file.result _ _
    (λ copy same clean.
    let is : view copy ≡ view c.in_ok-filled.field-0 = same clean in
    let filled_clean : IsClean (view c.in_ok-filled.field-0) = subst IsClean is clean in
    subst (λ (v : View). (contents : Contents) → Holds v.committed contents → IsMarked contents c.args.ledger.now.marks) (sym is)
    (c.in_ok-filled.ensures.counted filled_clean))
    c.in_one_file.ensures
