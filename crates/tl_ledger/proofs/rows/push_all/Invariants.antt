use Rattle.std.proofs.Common.{◌≡◌, ◌++◌, map, take}
use Rattle.sqlite_value.specs.Value.{owned}
use Rattle.tl_ledger.proofs.rows.push_all.Given as goal

-- the columns so far were appended to the row
abbrev pub invariant-loop-column : goal.invariant-loop-column
invariant-loop-column l = l.row ≡ l.fn.row ++ map owned (take l.column-index l.columns)
