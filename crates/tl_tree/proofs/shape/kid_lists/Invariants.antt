use Rattle.std.proofs.Common.{◌≡◌, ℕ, ◌-◌, ◌<◌, [], length, get_or, take, drop, replicate}
use Rattle.tl_tree.specs.Shape.{kids_from, lists_of}
use Rattle.tl_tree.proofs.shape.kid_lists.Given as goal

abbrev pub invariant-loop-node : goal.invariant-loop-node
invariant-loop-node l = lists_of l.lists.items ≡ replicate l._node []

abbrev pub invariant-loop-node-2 : goal.invariant-loop-node-2
invariant-loop-node-2 l =
    (length l.lists.items ≡ length l.parents)
    × ((x : ℕ) → x < length l.parents → get_or (lists_of l.lists.items) x [] ≡ kids_from (take (l.node - 1) (drop 1 l.parents)) 1 x)
