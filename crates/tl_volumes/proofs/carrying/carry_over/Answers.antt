use Rattle.std.proofs.Common.{◌⊎◌, inl, inr, List}
use Rattle.sqlite_trees.specs.Tree.{Trees}
use Rattle.tl_ledger.specs.declared.founding.Founding.{Founding}
use Rattle.tl_ledger.specs.Contents.{Contents, Holds, no_contents}
use Rattle.tl_ledger.specs.News.{after_founding}
use Rattle.tl_procedures.specs.Names.{Named}
use Rattle.tl_store.specs.Left.{HasLeft}
use Rattle.tl_tree.specs.Trees.{TreeValue}
use Rattle.tl_volumes.specs.Volumes.{Carries, IsOpening}
use Rattle.tl_volumes.proofs.carrying.carry_over.Goals as goal

-- what a crash leaves: nothing, or what was left
with_what_was_left : (contents : Contents) (first : Founding) (db : Trees) → Carries contents first → Holds db no_contents ⊎ Holds db (after_founding no_contents first)
    → Holds db no_contents ⊎ ((f : Founding) × Carries contents f × Holds db (after_founding no_contents f))
with_what_was_left contents first db carries (inl none) = inl none
with_what_was_left contents first db carries (inr all) = inr (first, carries, all)

-- a volume that begins with what was left carries it
carried : (contents : Contents) (tree : TreeValue) (procedures : List Named) (first : Founding) → HasLeft contents tree procedures → IsOpening tree procedures first → Carries contents first
carried contents tree procedures first left opening = record { tree = tree; procedures = procedures; left = left; opening = opening }

pub returns-in-Ok-begin-clause-carried : goal.returns-in-Ok-begin-clause-carried
returns-in-Ok-begin-clause-carried g c = λ last_clean clean contents holds blank.
    let carries = carried contents c.args.tree.now c.args.procedures.now c.in-Ok.first (c.in_default-check_ledger.ensures.left last_clean contents holds) c.in-Ok.ensures in
    (c.in-Ok.first, carries, (c.in-Ok-begin.ensures.begun clean blank).0, (c.in-Ok-begin.ensures.begun clean blank).1)

pub returns-in-Ok-begin-clause-crash : goal.returns-in-Ok-begin-clause-crash
returns-in-Ok-begin-clause-crash g c = λ last_clean clean contents holds blank db found.
    let carries = carried contents c.args.tree.now c.args.procedures.now c.in-Ok.first (c.in_default-check_ledger.ensures.left last_clean contents holds) c.in-Ok.ensures in
    with_what_was_left contents c.in-Ok.first db carries (c.begin.ensures.crash clean blank db found)

pub returns-clause-crash : goal.returns-clause-crash
returns-clause-crash g c = λ last_clean clean contents holds blank db found.
    let carries = carried contents c.args.tree.now c.args.procedures.now c.in-Ok.first (c.in_default-check_ledger.ensures.left last_clean contents holds) c.in-Ok.ensures in
    with_what_was_left contents c.in-Ok.first db carries (c.begin.ensures.crash clean blank db found)
