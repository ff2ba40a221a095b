use Rattle.std.proofs.Common.{◌≡◌, map, take}
use Rattle.tl_rows.specs.Rows.{parent_in}
use Rattle.tl_store.proofs.tree.parents_of.Given as goal

-- the parents so far are those of the first nodes
abbrev pub invariant-loop-node : goal.invariant-loop-node
invariant-loop-node l = l.parents.items ≡ map parent_in (take l.node-index l.nodes)
