-- The result of a search for a byte, which is the length if the byte doesn't occur.
use Rattle.std.proofs.Common.{◌≡◌, ℕ, List, length, ◌∙◌, ap, Option, Some, None, Bool, cond, not, arith, inl, inr, nat_lt}
use Rattle.std.specs.Prelude.{unwrap_or}
use Rattle.std.specs.List.{position_or_len}
use Rattle.std.proofs.lemmas.Bool.{cases_Bool}
use Rattle.std.proofs.lemmas.List.Sums.{prefix_len-le-length}
use Rattle.std.proofs.lemmas.Bool.Decides.{nat_tests}

pub searched : (p : ℕ → Bool) (xs : List ℕ) (found : Option ℕ) (n : ℕ) → found ≡ cond (nat_lt (position_or_len p xs) (length xs)) (Some (position_or_len p xs)) None → n ≡ unwrap_or found (length xs) → n ≡ position_or_len p xs
searched p xs found n e u =
    let le = prefix_len-le-length (λ x. not (p x)) xs in
    elim (cases_Bool (nat_lt (position_or_len p xs) (length xs))) [
      | inl here ↦ u ∙ ap (λ (o : Option ℕ). unwrap_or o (length xs)) (e ∙ ap (λ (b : Bool). cond b (Some (position_or_len p xs)) None) here)
      | inr not_here ↦ u ∙ ap (λ (o : Option ℕ). unwrap_or o (length xs)) (e ∙ ap (λ (b : Bool). cond b (Some (position_or_len p xs)) None) not_here) ∙ grind (arith, nat_tests, le, not_here)
    ]
