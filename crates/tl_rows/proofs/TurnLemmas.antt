-- The bytes of turns.
use Rattle.std.proofs.Common.{◌≡◌, ℕ, List, [], ◌∷◌, ◌++◌, ap, ◌∙◌}
use Rattle.std.proofs.lemmas.List.{append-nil}
use Rattle.std.proofs.lemmas.Grind.{flat_map-append}
use Rattle.tl_rows.specs.Rows.{call_bytes, turn_bytes}

pub turns_more : (turns : List ℕ) (t : ℕ) → turn_bytes (turns ++ t ∷ []) ≡ turn_bytes turns ++ call_bytes t
turns_more turns t = flat_map-append call_bytes turns (t ∷ []) ∙ ap (λ l. turn_bytes turns ++ l) (append-nil (call_bytes t))
