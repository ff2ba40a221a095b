use Rattle.std.proofs.Common.{◌∙◌, ap, Some, arith}
use Rattle.std.proofs.lemmas.Result.{IfOk-weaker, IfErr-weaker, on_ok_weaker}
use Rattle.sqlite_trees.specs.Tree.{order_of}
use Rattle.sqlite_trees.specs.View.{IsClean}
use Rattle.tl_ledger.proofs.ReadLemmas.{all_sought}
use Rattle.tl_ledger.proofs.OnlyReading.{moved_reads, then_reads}
use Rattle.tl_ledger.proofs.reading.read_all.Goals as goal

pub returns-clause-rows : goal.returns-clause-rows
returns-clause-rows g c =
    IfOk-weaker c.read_rest.result _ _
    (λ items rest clean.
    let before : IsClean (g.S.Store.view c.seek.new.self) = omega (arith, clean, c.read_rest.ensures.quiet.clean) in
    let rows = (g.S.Store.view c.args.store.now).trees c.args.table in
    let order = order_of ((g.S.Store.view c.args.store.now).shape c.args.table) in
    let sought = rw c.new-row.ensures at (c.in_ok-seek.ensures.ok before) in
    rest clean rows (ap (λ v. v.cursors 0) sought ∙ ap Some (all_sought order rows)))
    c.read_rest.ensures.rows

pub returns-clause-reads : goal.returns-clause-reads
returns-clause-reads g c =
    on_ok_weaker c.read_rest.result
    (λ reads clean.
    let before : IsClean (g.S.Store.view c.seek.new.self) = omega (arith, clean, c.read_rest.ensures.quiet.clean) in
    then_reads _ _ _ (moved_reads _ (g.S.Store.view c.seek.new.self) _ (c.in_ok-seek.ensures.ok before)) (reads clean))
    c.read_rest.ensures.reads

pub returns-clause-again : goal.returns-clause-again
returns-clause-again g c =
    IfErr-weaker c.read_rest.result _ _
    (λ e rest clean xs whole few is.
    let before : IsClean (g.S.Store.view c.seek.new.self) = omega (arith, clean, c.read_rest.ensures.quiet.clean) in
    let rows = (g.S.Store.view c.args.store.now).trees c.args.table in
    let order = order_of ((g.S.Store.view c.args.store.now).shape c.args.table) in
    let sought = rw c.new-row.ensures at (c.in_ok-seek.ensures.ok before) in
    rest clean xs whole (omega (arith, few)) (ap (λ v. v.cursors 0) sought ∙ ap Some (all_sought order rows ∙ is)))
    c.read_rest.ensures.again
