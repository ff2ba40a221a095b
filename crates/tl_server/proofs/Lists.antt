-- The text of a list, item by item.
use Rattle.std.proofs.Common.{◌≡◌, ◌+◌, ◌<◌, ℕ, List, [], ◌∷◌, ◌++◌, length, get_or, take, map, codes, refl, sym, ap, ◌∙◌, append_assoc, arith, ne_eqb, suc}
use Rattle.std.specs.Prelude.{if◌then◌else◌}
use Rattle.std.specs.List.{join_with_byte}
use Rattle.std.proofs.lemmas.List.{map_more, length-map, length-take}
use Rattle.tl_server.specs.Answers.{comma_before}

-- one more item after the first
join_next : (x : List ℕ) (xs : List (List ℕ)) (y : List ℕ) → join_with_byte 44 ((x ∷ xs) ++ y ∷ []) ≡ join_with_byte 44 (x ∷ xs) ++ (44 ∷ y)
join_next x [] y = refl
join_next x (w ∷ xs) y = ap (λ t. x ++ (44 ∷ t)) (join_next w xs y) ∙ sym (append_assoc x (44 ∷ join_with_byte 44 (w ∷ xs)) (44 ∷ y))

comma_later : (n : ℕ) → comma_before (suc n) ≡ 44 ∷ []
comma_later n = let later : suc n ≡ 0 → ⊥ = λ e. omega (arith, e) in ap (λ b. if b then [] else codes ",") (ne_eqb (suc n) 0 later)

join_last : (xs : List (List ℕ)) (y : List ℕ) (i : ℕ) → i ≡ length xs → join_with_byte 44 (xs ++ y ∷ []) ≡ join_with_byte 44 xs ++ (comma_before i ++ y)
join_last [] y i is = ap (λ n. comma_before n ++ y) (sym is)
join_last (x ∷ xs) y i is = join_next x xs y ∙ ap (λ c. join_with_byte 44 (x ∷ xs) ++ (c ++ y)) (sym (ap comma_before is ∙ comma_later (length xs)))

-- one more item
pub join_more : {A : Type 0} (f : A → List ℕ) (xs : List A) (i : ℕ) (d : A) → i < length xs
    → join_with_byte 44 (map f (take (i + 1) xs)) ≡ join_with_byte 44 (map f (take i xs)) ++ (comma_before i ++ f (get_or xs i d))
join_more f xs i d inside =
    let count : i ≡ length (map f (take i xs)) = omega (arith, length-map (take i xs) f, length-take i xs) in
    ap (join_with_byte 44) (map_more f xs i d inside) ∙ join_last (map f (take i xs)) (f (get_or xs i d)) i count
