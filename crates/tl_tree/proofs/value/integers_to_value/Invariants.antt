use Rattle.std.proofs.Common.{◌≡◌, map, take}
use Rattle.std.specs.Prelude.{All, FitsSigned}
use Rattle.std.specs.Int.{w64}
use Rattle.serde_json.specs.View.{view}
use Rattle.tl_tree.specs.Writing.{integer_data}
use Rattle.tl_tree.proofs.value.integers_to_value.Given as goal

abbrev pub invariant-loop-integer : goal.invariant-loop-integer
invariant-loop-integer l =
    (map view l.items.items ≡ map integer_data (take l.integer-index l.integers)) × All (FitsSigned w64) (take l.integer-index l.integers)
