use Rattle.std.proofs.Common.{◌≡◌, map, take}
use Rattle.serde_json.specs.View.{view}
use Rattle.tl_commands.proofs.ClosingLemmas.{order_form}
use Rattle.tl_commands.proofs.closing.all_orders_to_value.Given as goal

abbrev pub invariant-loop-order : goal.invariant-loop-order
invariant-loop-order l = map view l.items.items ≡ map order_form (take l.order-index l.orders)
