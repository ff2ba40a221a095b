-- Sets of node registers.
use Rattle.std.proofs.Common.{◌≡◌, ℕ, zero, suc, List, [], ◌∷◌, length, map, get_or, false, Option, None, is_some, refl, ap}
use Rattle.std.specs.Prelude.{slice_set}
use Rattle.tl_machine.specs.Runs.{Held}

pub held_is : (ns : List (Option Held)) (i : ℕ) → get_or (map is_some ns) i false ≡ is_some (get_or ns i None)
held_is [] i = refl
held_is (o ∷ ns) zero = refl
held_is (o ∷ ns) (suc i) = held_is ns i

pub held_length : (ns : List (Option Held)) → length (map is_some ns) ≡ length ns
held_length [] = refl
held_length (o ∷ ns) = ap suc (held_length ns)

pub held_set : (ns : List (Option Held)) (n : ℕ) (o : Option Held) → map is_some (slice_set ns n o) ≡ slice_set (map is_some ns) n (is_some o)
held_set [] n o = refl
held_set (x ∷ ns) zero o = refl
held_set (x ∷ ns) (suc n) o = ap (λ l. is_some x ∷ l) (held_set ns n o)
