use Rattle.std.proofs.Common.{◌≡◌, map, take}
use Rattle.tl_rows.specs.Rows.{fields_in}
use Rattle.tl_rows.proofs.records.record_rows.Given as goal

-- the rows so far are those of the first records
abbrev pub invariant-loop-fields : goal.invariant-loop-fields
invariant-loop-fields l = map fields_in l.rows.items ≡ take l.fields-index l.records
