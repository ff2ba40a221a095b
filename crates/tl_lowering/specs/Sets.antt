-- Sets of node registers: entry n says whether register n holds a node.
use Rattle.std.specs.Prelude.{ℕ, List, [], ◌∷◌, Bool, true, false, not, ◌&&◌, ◌||◌, Option, Some, None, slice_set, get_or, replicate}
use Rattle.std.specs.Bool.{beq}
use Rattle.tl_instr.specs.declared.operand.TheConstants.{NODE_REGISTERS}

abbrev pub Nodes : Type 0
Nodes = List Bool

abbrev pub none_held : Nodes
none_held = replicate NODE_REGISTERS false

abbrev pub holds : Nodes → ℕ → Bool
holds held n = get_or held n false

abbrev pub with_node : Nodes → ℕ → Nodes
with_node held n = slice_set held n true

abbrev pub without_node : Nodes → ℕ → Nodes
without_node held n = slice_set held n false

-- the registers that are in both sets
abbrev pub both : Nodes → Nodes → Nodes
both [] more = []
both (x ∷ xs) [] = []
both (x ∷ xs) (y ∷ ys) = (x && y) ∷ both xs ys

-- the registers that are in the first set only
abbrev pub minus : Nodes → Nodes → Nodes
minus [] more = []
minus (x ∷ xs) [] = []
minus (x ∷ xs) (y ∷ ys) = (x && not y) ∷ minus xs ys

-- the intersection of those of the two sets that are given
abbrev pub both_of : Option Nodes → Option Nodes → Option Nodes
both_of None other = other
both_of (Some held) None = Some held
both_of (Some held) (Some more) = Some (both held more)

-- the intersection of all these sets, if there are any
abbrev pub all_of : List Nodes → Option Nodes
all_of [] = None
all_of (held ∷ others) = both_of (Some held) (all_of others)

abbrev pub same : Nodes → Nodes → Bool
same [] [] = true
same [] (y ∷ ys) = false
same (x ∷ xs) [] = false
same (x ∷ xs) (y ∷ ys) = beq x y && same xs ys

abbrev pub is_among : Nodes → List Nodes → Bool
is_among held [] = false
is_among held (other ∷ others) = same held other || is_among held others
