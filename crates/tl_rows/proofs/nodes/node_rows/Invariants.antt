use Rattle.std.proofs.Common.{◌≡◌, map, take, pos}
use Rattle.std.specs.Prelude.{All}
use Rattle.tl_rows.specs.Rows.{parent_in}
use Rattle.tl_rows.proofs.nodes.node_rows.Given as goal

-- the rows so far are those of the first nodes
abbrev pub invariant-loop-node : goal.invariant-loop-node
invariant-loop-node l = (map parent_in l.rows.items ≡ map pos (take l.node l.shape)) × All (λ r. r.epoch ≡ l.epoch) l.rows.items
