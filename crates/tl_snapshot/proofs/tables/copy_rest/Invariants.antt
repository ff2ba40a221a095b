use Rattle.std.proofs.Common.{◌≡◌, List, [], Some, IsSome}
use Rattle.sqlite_value.specs.Order.{Row}
use Rattle.sqlite_trees.specs.Tree.{IsTable}
use Rattle.sqlite_trees.specs.View.{IsClean, IsQuiet, KeepsSchema, OnlyWrites}
use Rattle.tl_ledger.specs.Contents.{OnlyReads}
use Rattle.tl_snapshot.proofs.CopyLemmas.{Copied}
use Rattle.tl_snapshot.proofs.tables.copy_rest.Given as goal

-- the table has the rows so far, and the cursor has the others
abbrev pub invariant-loop-number : goal.invariant-loop-number
invariant-loop-number g l =
    IsSome ((g.F.Store.view l.from).cursors 0)
    × (IsClean (g.F.Store.view l.from) → IsClean (g.T.Store.view l.to) → (rows : List Row) → (g.F.Store.view l.fn.from).cursors 0 ≡ Some rows → IsTable rows
    → (g.T.Store.view l.fn.to).trees l.table ≡ [] → Copied rows (g.F.Store.view l.from) (g.T.Store.view l.fn.to) (g.T.Store.view l.to) l.table)
    × (IsClean (g.F.Store.view l.from) → OnlyReads (g.F.Store.view l.fn.from) (g.F.Store.view l.from))
    × (IsClean (g.T.Store.view l.to) → OnlyWrites (g.T.Store.view l.fn.to) (g.T.Store.view l.to))
    × KeepsSchema (g.F.Store.view l.fn.from) (g.F.Store.view l.from)
    × KeepsSchema (g.T.Store.view l.fn.to) (g.T.Store.view l.to)
    × IsQuiet g.F.Store.view g.F.Store.faults g.F.Store.recovers g.F.Store.is_shielded l.fn.from l.from
    × IsQuiet g.T.Store.view g.T.Store.faults g.T.Store.recovers g.T.Store.is_shielded l.fn.to l.to
