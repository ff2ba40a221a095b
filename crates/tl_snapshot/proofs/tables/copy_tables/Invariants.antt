use Rattle.sqlite_trees.specs.View.{IsClean, IsQuiet, KeepsSchema, OnlyWrites}
use Rattle.tl_ledger.specs.Contents.{OnlyReads, Holds, no_contents}
use Rattle.tl_snapshot.proofs.CopyLemmas.{CopiedTo}
use Rattle.tl_snapshot.proofs.tables.copy_tables.Given as goal

-- the tables so far are copied, and the others have no rows
abbrev pub invariant-loop-table : goal.invariant-loop-table
invariant-loop-table g l =
    (IsClean (g.F.Store.view l.from) → IsClean (g.T.Store.view l.to) → Holds (g.T.Store.view l.fn.to).trees no_contents → CopiedTo (g.F.Store.view l.fn.from).trees (g.T.Store.view l.to).trees l.table)
    × (IsClean (g.F.Store.view l.from) → OnlyReads (g.F.Store.view l.fn.from) (g.F.Store.view l.from))
    × (IsClean (g.T.Store.view l.to) → OnlyWrites (g.T.Store.view l.fn.to) (g.T.Store.view l.to))
    × KeepsSchema (g.F.Store.view l.fn.from) (g.F.Store.view l.from)
    × KeepsSchema (g.T.Store.view l.fn.to) (g.T.Store.view l.to)
    × IsQuiet g.F.Store.view g.F.Store.faults g.F.Store.recovers g.F.Store.is_shielded l.fn.from l.from
    × IsQuiet g.T.Store.view g.T.Store.faults g.T.Store.recovers g.T.Store.is_shielded l.fn.to l.to
