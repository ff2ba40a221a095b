use Rattle.std.proofs.Common.{◌≡◌, ◌≤◌, length, map, take, vec_len}
use Rattle.std.specs.Prelude.{vec_capacity}
use Rattle.tl_table.specs.Bounds.{AreBounded}
use Rattle.tl_table.specs.Chains.{calls_in, epoch_order}
use Rattle.tl_table.proofs.chain.conclude_all.Given as goal

abbrev pub invariant-loop-closed : goal.invariant-loop-closed
invariant-loop-closed l =
    (map calls_in l.orders.items ≡ map epoch_order (take l.closed-index l.chain))
    × (vec_len l.orders ≡ l.closed-index)
    × (length l.chain ≤ vec_capacity l.orders)
    × AreBounded (take l.closed-index l.chain)
