use Rattle.std.proofs.Common.{◌≡◌, pos, map, take}
use Rattle.serde_json.specs.View.{view}
use Rattle.tl_tree.specs.Writing.{integer_data}
use Rattle.tl_tree.proofs.value.shape_to_value.Given as goal

abbrev pub invariant-loop-node : goal.invariant-loop-node
invariant-loop-node l = map view l.items.items ≡ map (λ p. integer_data (pos p)) (take l.node l.shape)
