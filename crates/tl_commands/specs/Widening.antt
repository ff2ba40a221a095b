-- The output of the command `widen`, the file that it writes, and its faults.
use Rattle.std.specs.Prelude.{◌≡◌, ◌≢◌, ℕ, List, [], ◌∷◌, ◌++◌, length, codes, decimal, Ok}
use Rattle.tl_tree.specs.Trees.{TreeValue}
use Rattle.tl_tree.specs.Reading.{tree_of_text}
use Rattle.tl_tree.specs.Writing.{tree_text}
use Rattle.tl_tree.specs.declared.fault.TreeFault.{TreeFault}
use Rattle.tl_commands.specs.Alone.{IsTreeFault}
use Rattle.tl_commands.specs.declared.fault.CliFault.{CliFault}
use Rattle.tl_commands.specs.declared.fault.CliFault.TheVariants.{Tree}
use Rattle.tl_commands.specs.Faults.{status_of}

abbrev pub nodes_text : ℕ → List ℕ
nodes_text nodes = codes "{\"nodes\":" ++ decimal nodes ++ codes "}\n"

-- The bytes are the text of a tree. The output has its number of nodes, and the file has its text.
pub record WidensTree (limit : ℕ) (bytes out file : List ℕ) : Type 0 where
  pub tree : TreeValue
  pub read : tree_of_text limit bytes ≡ Ok tree
  pub written : file ≡ tree_text tree ++ 10 ∷ []
  pub same : out ≡ nodes_text (length tree.parents)

-- the first fault of the tree, or lack of memory
abbrev pub IsFirstWideningFault : ℕ → List ℕ → CliFault → Type 0
IsFirstWideningFault limit bytes e = status_of e ≢ 4 → (f : TreeFault) × (e ≡ Tree f) × IsTreeFault limit bytes f
