use Rattle.std.proofs.Common.{◌≡◌, map, take}
use Rattle.serde_json.specs.View.{view}
use Rattle.tl_json.specs.Lists.{natural}
use Rattle.tl_json.proofs.order.calls_to_value.Given as goal

abbrev pub invariant-loop-call : goal.invariant-loop-call
invariant-loop-call l = map view l.items.items ≡ map natural (take l.call-index l.calls)
