use Rattle.std.proofs.Common.{◌≡◌, ◌≤◌, length, map, take, vec_len}
use Rattle.std.specs.Prelude.{vec_capacity}
use Rattle.serde_json.specs.View.{view}
use Rattle.tl_trail.specs.Chains.{AreEach}
use Rattle.tl_trail.proofs.chain.trails_of_items.Given as goal

abbrev pub invariant-loop-item : goal.invariant-loop-item
invariant-loop-item l =
    AreEach l.limit (map view (take l.item-index l.items)) l.trails.items
    × (vec_len l.trails ≡ l.item-index)
    × (length l.items ≤ vec_capacity l.trails)
