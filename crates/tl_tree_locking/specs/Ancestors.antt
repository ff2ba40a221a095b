-- The nodes strictly above a node.
use Rattle.std.specs.Prelude.{ℕ, List, [], ◌∷◌}
use Rattle.std.proofs.Common.{zero, suc}
use Rattle.tl_tree.specs.Shape.{parent}

-- the nodes met by going up n parent steps from x, the nearest first; shorter if the root is reached
unfoldable pub climb : List ℕ → ℕ → ℕ → List ℕ
climb parents zero x = []
climb parents (suc n) zero = []
climb parents (suc n) (suc x) = parent parents (suc x) ∷ climb parents n (parent parents (suc x))

-- the nodes strictly above x, the nearest first; x steps are enough, since each step leads to a lower number
abbrev pub nodes_above : List ℕ → ℕ → List ℕ
nodes_above parents x = climb parents x x
