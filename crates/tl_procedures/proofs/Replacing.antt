-- Procedures in the place of others.
use Rattle.std.proofs.Common.{◌≡◌, ◌∙◌, ◌<◌, ◌+◌, ℕ, List, [], ◌∷◌, ◌++◌, length, map, take, get_or, refl, ap}
use Rattle.std.proofs.lemmas.List.{take_more}
use Rattle.tl_procedures.specs.Names.{Named, no_procedure, with_code, replaced, put, latest}

pub replaced_push : (ps qs : List Named) (q : Named) → replaced ps (qs ++ q ∷ []) ≡ map (with_code q) (replaced ps qs)
replaced_push ps [] q = refl
replaced_push ps (p ∷ qs) q = replaced_push (map (with_code p) ps) qs q

pub replaced_more : (ps qs : List Named) (n : ℕ) → n < length qs → replaced ps (take (n + 1) qs) ≡ map (with_code (get_or qs n no_procedure)) (replaced ps (take n qs))
replaced_more ps qs n inside = ap (replaced ps) (take_more qs n no_procedure inside) ∙ replaced_push ps (take n qs) (get_or qs n no_procedure)

pub latest_push : (before ps : List Named) (p : Named) → latest before (ps ++ p ∷ []) ≡ put (latest before ps) p
latest_push before [] p = refl
latest_push before (q ∷ ps) p = latest_push (put before q) ps p
