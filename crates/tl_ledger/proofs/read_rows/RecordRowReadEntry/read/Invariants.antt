use Rattle.std.proofs.Common.{◌≡◌, length, take}
use Rattle.sqlite_value.specs.declared.value.Value.{Value}
use Rattle.tl_ledger.specs.declared.rows.TheConstants.{FIELDS}
use Rattle.tl_ledger.specs.declared.rows.RecordRow.{RecordRow}
use Rattle.tl_ledger.specs.News.{record_columns}
use Rattle.tl_ledger.specs.Rows.{IsNumbered}
use Rattle.tl_ledger.proofs.read_rows.RecordRowReadEntry.read.Given as goal

-- where the row is that of a record, the fields so far are its first
abbrev pub invariant-loop-number : goal.invariant-loop-number
invariant-loop-number l =
    (length l.fields ≡ FIELDS) × ((x : RecordRow) (number : Value) → length x.fields ≡ FIELDS → IsNumbered l.row number (record_columns x) → take l.number l.fields ≡ take l.number x.fields)
