use Rattle.std.proofs.Common.{◌≡◌, ◌+◌, map, take}
use Rattle.sqlite_trees.specs.View.{IsClean, IsQuiet, KeepsSchema}
use Rattle.tl_ledger.specs.declared.schema.TheConstants.{RECORD}
use Rattle.tl_ledger.specs.News.{new_columns}
use Rattle.tl_ledger.specs.Rows.{Appends}
use Rattle.tl_ledger.proofs.appending.append_zeros.Given as goal

-- the records so far were appended to those of the table
abbrev pub invariant-loop-node : goal.invariant-loop-node
invariant-loop-node g l =
    (l.at ≡ l.first + l._node-index)
    × (IsClean (g.S.Store.view l.store) → Appends (g.S.Store.view l.initial.store) (g.S.Store.view l.store) RECORD l.first (map new_columns (take l._node-index l.nodes)))
    × KeepsSchema (g.S.Store.view l.initial.store) (g.S.Store.view l.store)
    × IsQuiet g.S.Store.view g.S.Store.faults g.S.Store.recovers g.S.Store.is_shielded l.initial.store l.store
