use Rattle.std.proofs.Common.{rules, ◌≡◌, ◌+◌, length, ◌∙◌, ◌∷◌, [], ap, sym, pos, drop, map, Some, arith}
use Rattle.std.proofs.lemmas.List.{length-map}
use Rattle.std.proofs.lemmas.Result.{IfOk-weaker, IfErr-weaker, on_ok_weaker}
use Rattle.sqlite_value.specs.declared.value.Value.TheVariants.{Int}
use Rattle.sqlite_value.specs.Keys.{plain}
use Rattle.sqlite_trees.specs.Tree.{order_of, from_key}
use Rattle.sqlite_trees.specs.View.{IsClean}
use Rattle.tl_ledger.specs.Rows.{rows_from}
use Rattle.tl_ledger.proofs.ReadLemmas.{sought_from, same_columns, behind_first}
use Rattle.tl_ledger.proofs.OnlyReading.{moved_reads, then_reads}
use Rattle.tl_ledger.proofs.reading.read_from.Goals as goal

pub returns-clause-rows : goal.returns-clause-rows
returns-clause-rows g c =
    IfOk-weaker c.read_rest.result _ _
    (λ items rest clean columns is few.
    let before : IsClean (g.S.Store.view c.seek.new.self) = omega (arith, clean, c.read_rest.ensures.quiet.clean) in
    let start : IsClean (g.S.Store.view c.args.store.now) = omega (arith, before, c.seek.ensures.quiet.clean) in
    let first = c.args.first in
    let rows = (g.S.Store.view c.args.store.now).trees c.args.table in
    let order = order_of ((g.S.Store.view c.args.store.now).shape c.args.table) in
    let plainly : order ≡ plain = ap order_of (c.requires start) in
    let key = c.push.new.self in
    let key_is : key ≡ Int (pos first) ∷ [] = search rules in
    let given : (g.S.Store.view c.seek.new.self).cursors 0 ≡ Some (rows_from first (drop first columns)) =
    ap (λ v. v.cursors 0) (c.in_ok-seek.ensures.ok before)
    ∙ ap Some (ap (λ o. from_key o key rows) plainly ∙ ap (λ k. from_key plain k rows) key_is ∙ ap (from_key plain (Int (pos first) ∷ [])) is ∙ sought_from first columns few) in
    sym (same_columns first (drop first columns) (map g.T.Entry.columns items.items) (rest clean (rows_from first (drop first columns)) given)))
    c.read_rest.ensures.rows

pub returns-clause-reads : goal.returns-clause-reads
returns-clause-reads g c =
    on_ok_weaker c.read_rest.result
    (λ reads clean.
    let before : IsClean (g.S.Store.view c.seek.new.self) = omega (arith, clean, c.read_rest.ensures.quiet.clean) in
    then_reads _ _ _ (moved_reads _ (g.S.Store.view c.seek.new.self) _ (c.in_ok-seek.ensures.ok before)) (reads clean))
    c.read_rest.ensures.reads

pub returns-clause-again : goal.returns-clause-again
returns-clause-again g c =
    IfErr-weaker c.read_rest.result _ _
    (λ e rest clean columns is few bound xs whole entries.
    let before : IsClean (g.S.Store.view c.seek.new.self) = omega (arith, clean, c.read_rest.ensures.quiet.clean) in
    let start : IsClean (g.S.Store.view c.args.store.now) = omega (arith, before, c.seek.ensures.quiet.clean) in
    let first = c.args.first in
    let rows = (g.S.Store.view c.args.store.now).trees c.args.table in
    let order = order_of ((g.S.Store.view c.args.store.now).shape c.args.table) in
    let plainly : order ≡ plain = ap order_of (c.requires start) in
    let key = c.push.new.self in
    let key_is : key ≡ Int (pos first) ∷ [] = search rules in
    let given : (g.S.Store.view c.seek.new.self).cursors 0 ≡ Some (rows_from first (drop first columns)) =
    ap (λ v. v.cursors 0) (c.in_ok-seek.ensures.ok before)
    ∙ ap Some (ap (λ o. from_key o key rows) plainly ∙ ap (λ k. from_key plain k rows) key_is ∙ ap (from_key plain (Int (pos first) ∷ [])) is ∙ sought_from first columns few) in
    let long : first + length xs ≡ length columns = behind_first first columns few (sym (length-map xs g.T.Entry.columns) ∙ ap length entries) in
    rest clean xs whole (omega (arith, long, bound)) (given ∙ ap (λ l. Some (rows_from first l)) (sym entries)))
    c.read_rest.ensures.again
