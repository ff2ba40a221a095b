-- The bytes of turns.
use Rattle.std.proofs.Common.{◌≡◌, ℕ, ◌+◌, ◌*◌, ◌/◌, ◌%◌, ◌<◌, List, [], ◌∷◌, ◌++◌, length, take, get_or, sym, ap, ◌∙◌, arith}
use Rattle.std.proofs.lemmas.List.{take_more, append_assoc, append-nil}
use Rattle.std.proofs.lemmas.Grind.{flat_map-append}
use Rattle.tl_rows.specs.Rows.{call_bytes, turn_bytes}

pub turns_more : (turns : List ℕ) (t : ℕ) → turn_bytes (turns ++ t ∷ []) ≡ turn_bytes turns ++ call_bytes t
turns_more turns t = flat_map-append call_bytes turns (t ∷ []) ∙ ap (λ l. turn_bytes turns ++ l) (append-nil (call_bytes t))

pub turns_joined : (a b : List ℕ) → turn_bytes (a ++ b) ≡ turn_bytes a ++ turn_bytes b
turns_joined a b = flat_map-append call_bytes a b

-- two bytes are those of the number that they form
pub made_of : (high low : ℕ) → high < 256 → low < 256 → call_bytes (high * 256 + low) ≡ high ∷ low ∷ []
made_of high low h l =
    let first : (high * 256 + low) / 256 % 256 ≡ high = omega arith in
    let second : (high * 256 + low) % 256 ≡ low = omega arith in
    ap (λ x. x ∷ (high * 256 + low) % 256 ∷ []) first ∙ ap (λ x. high ∷ x ∷ []) second

pub take_two : (bytes : List ℕ) (at : ℕ) → 2 * at + 1 < length bytes → take (2 * (at + 1)) bytes ≡ take (2 * at) bytes ++ get_or bytes (2 * at) 0 ∷ get_or bytes (2 * at + 1) 0 ∷ []
take_two bytes at within =
    let e : 2 * (at + 1) ≡ 2 * at + 1 + 1 = omega arith in
    ap (λ n. take n bytes) e ∙ take_more bytes (2 * at + 1) 0 within ∙ ap (λ l. l ++ get_or bytes (2 * at + 1) 0 ∷ []) (take_more bytes (2 * at) 0 (omega arith))
    ∙ append_assoc (take (2 * at) bytes) (get_or bytes (2 * at) 0 ∷ []) (get_or bytes (2 * at + 1) 0 ∷ [])

pub two_more : (bytes more : List ℕ) (at t : ℕ) → 2 * at + 1 < length bytes → take (2 * at) bytes ≡ turn_bytes more
    → call_bytes t ≡ get_or bytes (2 * at) 0 ∷ get_or bytes (2 * at + 1) 0 ∷ [] → take (2 * (at + 1)) bytes ≡ turn_bytes (more ++ t ∷ [])
two_more bytes more at t within so_far is =
    take_two bytes at within ∙ ap (λ l. l ++ get_or bytes (2 * at) 0 ∷ get_or bytes (2 * at + 1) 0 ∷ []) so_far ∙ ap (λ l. turn_bytes more ++ l) (sym is) ∙ sym (turns_more more t)
