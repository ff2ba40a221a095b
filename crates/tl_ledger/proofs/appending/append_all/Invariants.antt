use Rattle.std.proofs.Common.{◌≡◌, ◌+◌, map, take}
use Rattle.sqlite_trees.specs.View.{IsClean, IsQuiet, KeepsSchema}
use Rattle.tl_ledger.specs.Rows.{Appends}
use Rattle.tl_ledger.proofs.appending.append_all.Given as goal

-- the items so far were appended to the rows of the table
abbrev pub invariant-loop-item : goal.invariant-loop-item
invariant-loop-item g l =
    (l.number ≡ l.first + l.item-index)
    × (IsClean (g.S.Store.view l.store) → Appends (g.S.Store.view l.initial.store) (g.S.Store.view l.store) l.table l.first (map g.T.Entry.columns (take l.item-index l.items)))
    × KeepsSchema (g.S.Store.view l.initial.store) (g.S.Store.view l.store)
    × IsQuiet g.S.Store.view g.S.Store.faults g.S.Store.recovers g.S.Store.is_shielded l.initial.store l.store
