-- The sets of node registers that the compiler uses.
use Rattle.std.specs.Prelude.{◌≡◌, ℕ, ◌/◌, ◌%◌, ◌<◌, Bool, List, map, Option, option_map, get_or, nat_eq}
use Rattle.std.specs.Int.{bit_at}
use Rattle.std.specs.List.{range_with_len}
use Rattle.tl_instr.specs.declared.operand.TheConstants.{NODE_REGISTERS}
use Rattle.tl_compiler.specs.declared.node_set.NodeSet.{NodeSet}
use Rattle.tl_compiler.specs.declared.node_set.NodeSets.{NodeSets}
use Rattle.tl_lowering.specs.Sets.{Nodes, is_among}
use Rattle.tl_verify.specs.Bits.{bits_of}

-- for each register whether it is in the set
unfoldable pub nodes_of : NodeSet → Nodes
nodes_of set = bits_of NODE_REGISTERS set.bits

abbrev pub nodes_at : Option NodeSet → Option Nodes
nodes_at set = option_map nodes_of set

-- all sets of registers, ordered by the number that their bits form
abbrev pub all_sets : List Nodes
all_sets = map (bits_of NODE_REGISTERS) (range_with_len 0 256)

-- whether the set with this number is one of the sets
abbrev pub has : NodeSets → ℕ → Bool
has sets number = nat_eq (bit_at (get_or sets.words (number / 64) 0) (number % 64)) 1

-- the sets are those of the list
pub record AreThose (sets : NodeSets) (list : List Nodes) : Type 0 where
  pub has_those : (number : ℕ) → number < 256 → has sets number ≡ is_among (bits_of NODE_REGISTERS number) list
