-- Membership in a list of sets.
use Rattle.std.specs.Prelude.{◌≡◌, List, [], ◌∷◌, ◌⊎◌}
use Rattle.tl_lowering.specs.Sets.{Nodes}

abbrev pub IsIn : Nodes → List Nodes → Type 0
IsIn held [] = ⊥
IsIn held (other ∷ others) = (held ≡ other) ⊎ IsIn held others
