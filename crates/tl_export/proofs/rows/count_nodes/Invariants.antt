use Rattle.std.proofs.Common.{◌≡◌, ◌+◌, drop}
use Rattle.tl_export.specs.Epochs.{nodes_at}
use Rattle.tl_export.proofs.rows.count_nodes.Given as goal

-- the nodes so far were there
abbrev pub invariant-loop-count : goal.invariant-loop-count
invariant-loop-count l = nodes_at l.epoch l.nodes ≡ l.count + nodes_at l.epoch (drop l.count l.nodes)
