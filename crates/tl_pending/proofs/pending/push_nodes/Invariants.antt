use Rattle.std.proofs.Common.{◌≡◌, ◌++◌, map, take}
use Rattle.tl_pending.specs.Pendings.{node_of}
use Rattle.tl_pending.proofs.pending.push_nodes.Given as goal

-- the rows of the first parents were added
abbrev pub invariant-loop-parent : goal.invariant-loop-parent
invariant-loop-parent l = l.rows.items ≡ l.initial.rows.items ++ map (node_of l.epoch) (take l.parent-index l.parents)
