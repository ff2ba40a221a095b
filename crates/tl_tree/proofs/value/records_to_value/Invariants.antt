use Rattle.std.proofs.Common.{◌≡◌, map, take}
use Rattle.std.specs.Prelude.{All}
use Rattle.serde_json.specs.View.{view}
use Rattle.tl_tree.specs.Trees.{IsRecord}
use Rattle.tl_tree.specs.Writing.{integers_data}
use Rattle.tl_tree.proofs.value.records_to_value.Given as goal

abbrev pub invariant-loop-fields : goal.invariant-loop-fields
invariant-loop-fields l =
    (map view l.items.items ≡ map integers_data (take l.fields-index l.records)) × All IsRecord (take l.fields-index l.records)
