-- The call that holds a node.
use Rattle.std.specs.Prelude.{ℕ, List, [], ◌∷◌, ◌==◌, if◌then◌else◌, Option, Some, None}
use Rattle.tl_tree_locking.specs.declared.event.Event.{Event}
use Rattle.tl_tree_locking.specs.declared.event.Event.TheVariants.{Lock, Free}

-- the call that last locked x, unless x was freed since
abbrev pub holder_of : List Event → ℕ → Option ℕ
holder_of [] x = None
holder_of (Lock y c found ∷ past) x = if y == x then Some c else holder_of past x
holder_of (Free y c left ∷ past) x = if y == x then None else holder_of past x
holder_of (_ ∷ past) x = holder_of past x
