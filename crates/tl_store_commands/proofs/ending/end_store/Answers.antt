use Rattle.sqlite_trees.specs.View.{IsClean}
use Rattle.tl_store_commands.proofs.ending.end_store.Goals as goal

pub returns : goal.returns
returns g c = λ clean contents holds.
    let read_clean : IsClean (g.S.Store.view c.check_left.new.store) = rw c.new.ensures.0 at clean in
    c.in_ok-check_left.ensures.left read_clean contents holds
