use Rattle.std.proofs.Common.{◌∙◌, ap, Some, false, subst, arith}
use Rattle.sqlite_trees.specs.Tree.{order_of}
use Rattle.sqlite_trees.specs.View.{IsClean, Advances}
use Rattle.tl_store_commands.proofs.EmptyLemmas.{all_sought, none_given, not_found}
use Rattle.tl_store_commands.proofs.emptiness.is_empty.Goals as goal

pub returns-clause-none : goal.returns-clause-none
returns-clause-none g c = λ is clean.
    let before : IsClean (g.S.Store.view c.seek.new.self) = omega (arith, clean, c.next.ensures.quiet.clean) in
    let rows = (g.S.Store.view c.args.store.now).trees c.args.table in
    let order = order_of ((g.S.Store.view c.args.store.now).shape c.args.table) in
    let sought = rw c.clear.ensures at (c.in_ok-seek.ensures.ok before) in
    let mid = g.S.Store.view c.seek.new.self in
    let new = g.S.Store.view c.next.new.self in
    let moves : Advances mid new 0 c.next.new.row false = subst (Advances mid new 0 c.next.new.row) (not_found c.in_ok-found.found is) (c.in_ok-found.ensures.ok clean) in
    none_given mid new rows c.next.new.row (ap (λ v. v.cursors 0) sought ∙ ap Some (all_sought order rows)) moves
