use Rattle.std.proofs.Common.{rules, refl}
use Rattle.sqlite_trees.specs.View.{IsClean}
use Rattle.tl_ledger.specs.Contents.{no_contents, Holds}
use Rattle.tl_ledger.specs.News.{after_founding, AreEmpty, IsMarked}
use Rattle.tl_store_commands.proofs.beginning.founded.Goals as goal

none : AreEmpty no_contents
none t less = refl

pub returns-in-Ok-clause-marks : goal.returns-in-Ok-clause-marks
returns-in-Ok-clause-marks g c =
    let marked : IsMarked (after_founding no_contents c.args.first.now) c.in-Ok.marks = c.in-Ok.ensures.marks no_contents none in
    search rules

pub returns-in-Ok-clause-stored : goal.returns-in-Ok-clause-stored
returns-in-Ok-clause-stored g c =
    let held : IsClean (g.S.Store.view c.found.new.store) → Holds (g.S.Store.view c.found.new.store).committed (after_founding no_contents c.args.first.now)
    = λ clean. c.in-Ok.ensures.stored clean no_contents none (c.requires.empty (search rules)) in
    search rules
