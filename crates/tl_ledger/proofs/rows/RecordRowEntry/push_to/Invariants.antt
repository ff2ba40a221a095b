use Rattle.std.proofs.Common.{◌≡◌, ◌∷◌, ◌++◌, map, take}
use Rattle.sqlite_value.specs.declared.value.Value.TheVariants.{Null, Int}
use Rattle.tl_ledger.proofs.rows.RecordRowEntry.push_to.Given as goal

-- the fields so far were appended to the row
abbrev pub invariant-loop-field : goal.invariant-loop-field
invariant-loop-field l = l.row ≡ l.fn.row ++ Null ∷ map Int (take l.field-index l.self.fields)
