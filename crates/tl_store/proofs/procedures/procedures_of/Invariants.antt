use Rattle.std.proofs.Common.{◌≡◌, List, [], map, take}
use Rattle.tl_procedures.specs.Names.{Named, latest}
use Rattle.tl_json.specs.Procedures.{AreAccepted}
use Rattle.tl_rows.specs.Rows.{procedure_form, named_form, AreLatest}
use Rattle.tl_store.proofs.procedures.procedures_of.Given as goal

-- the procedures so far are those of the first rows
abbrev pub invariant-loop-row : goal.invariant-loop-row
invariant-loop-row l = AreLatest (take l.row-index l.rows) l.procedures
    × ((those : List Named) → AreAccepted those → map procedure_form l.rows ≡ map named_form those → l.procedures ≡ latest [] (take l.row-index those))
