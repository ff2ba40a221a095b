-- The faults of reading a trail, as numbers.
use Rattle.std.specs.Prelude.{ℕ, List, [], ◌∷◌, if◌then◌else◌}
use Rattle.tl_tree.specs.Faults.{numbers_of as tree_numbers_of}
use Rattle.tl_tree.specs.declared.fault.TreeFault.{TreeFault}
use Rattle.tl_tree.specs.declared.fault.TreeFault.TheVariants as tree
use Rattle.tl_json.specs.Faults.{numbers_of as register_numbers_of, is_memory}
use Rattle.tl_json.specs.declared.fault.RegisterFault.{RegisterFault}
use Rattle.tl_trail.specs.declared.fault.TrailFault.{TrailFault}
use Rattle.tl_trail.specs.declared.fault.TrailFault.TheVariants.{NotTrail, Tree, Procedure, NoProcedure, WrongArgs, TooManyCalls, Memory}

-- the fault's number, followed by its operands
abbrev pub numbers_of : TrailFault → List ℕ
numbers_of NotTrail = 701 ∷ []
numbers_of (Tree f) = tree_numbers_of f
numbers_of (Procedure f) = register_numbers_of f
numbers_of NoProcedure = 601 ∷ []
numbers_of WrongArgs = 501 ∷ []
numbers_of TooManyCalls = 603 ∷ []
numbers_of Memory = 790 ∷ []

-- the fault of a tree; a value that doesn't have the form of a tree isn't a trail
abbrev pub of_tree : TreeFault → TrailFault
of_tree tree.NotTree = NotTrail
of_tree tree.Memory = Memory
of_tree f = Tree f

abbrev pub of_register : RegisterFault → TrailFault
of_register f = if is_memory f then Memory else Procedure f
