use Rattle.std.proofs.Common.{◌≡◌, map, take}
use Rattle.serde_json.specs.View.{view}
use Rattle.tl_json.specs.Procedures.{procedure_data, AreAccepted}
use Rattle.tl_json.proofs.procedure.procedures_to_value.Given as goal

abbrev pub invariant-loop-number : goal.invariant-loop-number
invariant-loop-number l =
    (map view l.items.items ≡ map procedure_data (take l.number l.procedures)) × AreAccepted (take l.number l.procedures)
