-- Events one by one, and what is true of each.
use Rattle.std.proofs.Common.{◌≡◌, ℕ, ◌+◌, ◌-◌, ◌<◌, List, [], ◌∷◌, length, get_or, take, reverse, sym, ap, ◌∙◌, subst, arith}
use Rattle.std.proofs.lemmas.List.{take_more, reverse-append, reverse-reverse, length-reverse, get_or-reverse}
use Rattle.std.specs.Prelude.{All}

pub past_one_more : {X : Type 0} (xs : List X) (i : ℕ) (d : X) → i < length xs → reverse (take (i + 1) xs) ≡ get_or xs i d ∷ reverse (take i xs)
past_one_more xs i d inside = ap reverse (take_more xs i d inside) ∙ reverse-append (take i xs) (get_or xs i d ∷ [])

pub All-reverse : {X : Type 0} (P : X → Type 0) (xs : List X) → All P xs → All P (reverse xs)
All-reverse P xs each k d inside =
    let l = length-reverse xs in
    let k_inside : k < length xs = omega arith in
    subst P (sym (get_or-reverse xs k d k_inside)) (each (length xs - 1 - k) d (omega arith))

pub All-unreverse : {X : Type 0} (P : X → Type 0) (xs : List X) → All P (reverse xs) → All P xs
All-unreverse P xs each = subst (All P) (reverse-reverse xs) (All-reverse P (reverse xs) each)
