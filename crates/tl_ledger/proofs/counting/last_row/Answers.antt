use Rattle.std.proofs.Common.{◌∙◌, ap, reverse, Some, Ok, Err, arith}
use Rattle.std.proofs.lemmas.Result.{IfOk-weaker}
use Rattle.sqlite_trees.specs.Tree.{order_of}
use Rattle.sqlite_trees.specs.View.{IsClean, Advances}
use Rattle.std.specs.Result.{IfOk, OnOk}
use Rattle.tl_ledger.specs.Contents.{OnlyReads}
use Rattle.tl_ledger.proofs.ReadLemmas.{none_above, last_given}
use Rattle.tl_ledger.proofs.OnlyReading.{moved_reads, advanced_reads, then_reads}
use Rattle.tl_ledger.proofs.counting.last_row.Goals as goal

pub returns-clause-last : goal.returns-clause-last
returns-clause-last g c =
    IfOk-weaker c.next.result _ _
    (λ found moves clean columns is.
    let before : IsClean (g.S.Store.view c.seek.new.self) = omega (arith, clean, c.next.ensures.quiet.clean) in
    let rows = (g.S.Store.view c.args.store.now).trees c.args.table in
    let order = order_of ((g.S.Store.view c.args.store.now).shape c.args.table) in
    let sought = rw c.clear.ensures at (c.in_ok-seek.ensures.ok before) in
    last_given (g.S.Store.view c.args.store.now) (g.S.Store.view c.seek.new.self) (g.S.Store.view c.next.new.self) rows columns c.next.new.row found is
    (ap (λ v. v.cursors 0) sought ∙ ap (λ l. Some (reverse l)) (none_above order rows)) (moves clean))
    c.next.ensures.ok

pub returns-clause-reads : goal.returns-clause-reads
returns-clause-reads g c =
    elim c.next.result as (λ r. IfOk r (λ found. IsClean (g.S.Store.view c.next.new.self) → Advances (g.S.Store.view c.seek.new.self) (g.S.Store.view c.next.new.self) 0 c.next.new.row found)
    → OnOk r (IsClean (g.S.Store.view c.next.new.self) → OnlyReads (g.S.Store.view c.args.store.now) (g.S.Store.view c.next.new.self))) [
      | Ok found ↦ λ moves clean.
          let before : IsClean (g.S.Store.view c.seek.new.self) = omega (arith, clean, c.next.ensures.quiet.clean) in
          then_reads _ _ _ (moved_reads _ (g.S.Store.view c.seek.new.self) _ (c.in_ok-seek.ensures.ok before)) (advanced_reads (g.S.Store.view c.seek.new.self) (g.S.Store.view c.next.new.self) c.next.new.row found (moves clean))
      | Err e ↦ λ moves. tt
    ] c.next.ensures.ok
