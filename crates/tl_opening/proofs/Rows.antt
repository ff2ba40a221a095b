-- Worked examples, by computation.
use Rattle.std.proofs.Common.{◌≡◌, ℕ, ℤ, pos, List, [], ◌∷◌, refl}
use Rattle.tl_opening.specs.declared.frees.Left.{Left}
use Rattle.tl_opening.specs.Opening.{records_left, records_behind}

-- node x was left with a record of one field
abbrev freed : ℕ → ℕ → Left
freed x n = record { node = x; fields = pos n ∷ [] }

-- two nodes
abbrev first : List (List ℤ)
first = (pos 1 ∷ []) ∷ (pos 2 ∷ []) ∷ []

the_last_holds : records_left first (freed 1 5 ∷ freed 0 6 ∷ freed 1 7 ∷ []) ≡ (pos 6 ∷ []) ∷ (pos 7 ∷ []) ∷ []
the_last_holds = refl

no_such_node : records_left first (freed 2 5 ∷ []) ≡ first
no_such_node = refl

later_epochs_hold : records_behind first ((freed 1 5 ∷ freed 0 6 ∷ []) ∷ [] ∷ (freed 1 7 ∷ []) ∷ []) ≡ (pos 6 ∷ []) ∷ (pos 7 ∷ []) ∷ []
later_epochs_hold = refl
