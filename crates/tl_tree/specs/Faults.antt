-- The faults of making a tree, as numbers.
use Rattle.std.specs.Prelude.{ℕ, List, [], ◌∷◌}
use Rattle.tl_tree.specs.declared.fault.TreeFault.{TreeFault}
use Rattle.tl_tree.specs.declared.fault.TreeFault.TheVariants.{Empty, TooMany, BadRoot, BadParent, WrongCount, NotTree, Memory}

-- the fault's number, followed by its operands
abbrev pub numbers_of : TreeFault → List ℕ
numbers_of Empty = 101 ∷ []
numbers_of TooMany = 102 ∷ []
numbers_of BadRoot = 103 ∷ []
numbers_of (BadParent node) = 104 ∷ node ∷ []
numbers_of WrongCount = 105 ∷ []
numbers_of NotTree = 106 ∷ []
numbers_of Memory = 190 ∷ []
