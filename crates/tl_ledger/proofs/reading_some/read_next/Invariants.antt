use Rattle.std.proofs.Common.{◌≡◌, ◌+◌, List, map, length, Some, IsSome}
use Rattle.sqlite_value.specs.Order.{Row}
use Rattle.sqlite_trees.specs.View.{IsClean, IsQuiet, KeepsSchema}
use Rattle.tl_ledger.specs.Contents.{OnlyReads}
use Rattle.tl_ledger.proofs.ReadLemmas.{Reads}
use Rattle.tl_ledger.proofs.reading_some.read_next.Given as goal

-- the items so far are the first rows that the cursor had to give, and it has the others to give
abbrev pub invariant-loop-number : goal.invariant-loop-number
invariant-loop-number g l =
    IsSome ((g.S.Store.view l.store).cursors 0)
    × (l.number ≡ l.first + length l.items.items)
    × (IsClean (g.S.Store.view l.store) → (given : List Row) → (g.S.Store.view l.fn.store).cursors 0 ≡ Some given
    → Reads given (g.S.Store.view l.fn.store).trees (g.S.Store.view l.store) l.first (map g.T.Entry.columns l.items.items))
    × (IsClean (g.S.Store.view l.store) → OnlyReads (g.S.Store.view l.fn.store) (g.S.Store.view l.store))
    × KeepsSchema (g.S.Store.view l.fn.store) (g.S.Store.view l.store)
    × IsQuiet g.S.Store.view g.S.Store.faults g.S.Store.recovers g.S.Store.is_shielded l.fn.store l.store
