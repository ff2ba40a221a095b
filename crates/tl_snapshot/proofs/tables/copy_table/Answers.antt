use Rattle.std.proofs.Common.{◌≡◌, ◌∙◌, ap, subst, Some, false, arith}
use Rattle.std.proofs.lemmas.Result.{on_ok_weaker}
use Rattle.sqlite_trees.specs.Tree.{order_of}
use Rattle.sqlite_trees.specs.View.{IsClean, IsShaped}
use Rattle.sqlite_trees.specs.declared.store.Shape.TheVariants.{Table}
use Rattle.tl_snapshot.proofs.CopyLemmas.{all_given}
use Rattle.tl_snapshot.proofs.tables.copy_table.Goals as goal

pub returns-clause-copied : goal.returns-clause-copied
returns-clause-copied g c =
    on_ok_weaker c.copy_rest.result
    (λ rest from_clean to_clean empty.
    let from = g.F.Store.view c.args.from.now in
    let sought_clean : IsClean (g.F.Store.view c.seek.new.self) = omega (arith, from_clean, c.copy_rest.ensures.from_quiet.clean) in
    let clean : IsClean from = omega (arith, sought_clean, c.seek.ensures.quiet.clean) in
    let sound : from.is_broken ≡ false = c.in_default.ensures.sound sought_clean in
    let rows = from.trees c.args.table in
    let sought = rw c.clear.ensures at (c.in_default.ensures.ok sought_clean) in
    let shaped : IsShaped Table rows = subst (λ shape. IsShaped shape rows) (c.requires.from clean) (g.met.F.Store.ordered c.args.from.now sound c.args.table) in
    rest from_clean to_clean rows (ap (λ v. v.cursors 0) sought ∙ ap Some (all_given (order_of (from.shape c.args.table)) rows)) shaped.0 empty)
    c.copy_rest.ensures.copied
