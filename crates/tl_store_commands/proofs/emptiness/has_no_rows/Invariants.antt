use Rattle.sqlite_trees.specs.View.{IsClean, IsQuiet, KeepsSchema}
use Rattle.tl_ledger.specs.Contents.{OnlyReads}
use Rattle.tl_store_commands.proofs.EmptyLemmas.{AreEmptyTo}
use Rattle.tl_store_commands.proofs.emptiness.has_no_rows.Given as goal

-- the tables so far have no rows
abbrev pub invariant-loop-table : goal.invariant-loop-table
invariant-loop-table g l =
    (IsClean (g.S.Store.view l.store) → AreEmptyTo (g.S.Store.view l.fn.store).trees l.table)
    × (IsClean (g.S.Store.view l.store) → OnlyReads (g.S.Store.view l.fn.store) (g.S.Store.view l.store))
    × KeepsSchema (g.S.Store.view l.fn.store) (g.S.Store.view l.store)
    × IsQuiet g.S.Store.view g.S.Store.faults g.S.Store.recovers g.S.Store.is_shielded l.fn.store l.store
