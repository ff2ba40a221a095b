use Rattle.std.proofs.Common.{take}
use Rattle.sqlite_trees.specs.View.{IsClean, IsQuiet, KeepsSchema}
use Rattle.tl_ledger.specs.News.{Changes}
use Rattle.tl_ledger.proofs.changing.put_changes.Given as goal

-- the records so far were replaced
abbrev pub invariant-loop-change : goal.invariant-loop-change
invariant-loop-change g l =
    (IsClean (g.S.Store.view l.store) → Changes (g.S.Store.view l.initial.store) (g.S.Store.view l.store) l.nodes (take l.change-index l.changed))
    × KeepsSchema (g.S.Store.view l.initial.store) (g.S.Store.view l.store)
    × IsQuiet g.S.Store.view g.S.Store.faults g.S.Store.recovers g.S.Store.is_shielded l.initial.store l.store
