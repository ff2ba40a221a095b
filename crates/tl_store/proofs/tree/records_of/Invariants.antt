use Rattle.std.proofs.Common.{◌≡◌, map, take}
use Rattle.tl_rows.specs.Rows.{fields_in}
use Rattle.tl_store.proofs.tree.records_of.Given as goal

-- the records so far are those of the first rows
abbrev pub invariant-loop-row : goal.invariant-loop-row
invariant-loop-row l = l.records.items ≡ map fields_in (take l.row-index l.rows)
