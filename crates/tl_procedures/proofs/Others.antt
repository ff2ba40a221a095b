-- Names of procedures that have other codes in another list.
use Rattle.std.proofs.Common.{◌≡◌, ℕ, ◌+◌, ◌<◌, List, [], ◌∷◌, ◌++◌, length, get_or, below_more, refl, arith}
use Rattle.std.specs.Prelude.{Contains}
use Rattle.std.proofs.lemmas.List.Elements.{All-nil, All-push, Contains-append_left, Contains-push}
use Rattle.tl_procedures.specs.Names.{Named, no_procedure, IsOther, IsOtherName, OtherNamesBelow}

pub others_none : (xs ys : List Named) → OtherNamesBelow 0 xs ys []
others_none xs ys = record { each = All-nil (IsOtherName xs ys); whole = λ number less. absurd (omega arith) }

pub others_push : (n : ℕ) (xs ys : List Named) (names : List (List ℕ)) → OtherNamesBelow n xs ys names → n < length xs → IsOther xs ys n
    → OtherNamesBelow (n + 1) xs ys (names ++ (get_or xs n no_procedure).name ∷ [])
others_push n xs ys names so_far inside other =
    let name = (get_or xs n no_procedure).name in
    record {
      each = All-push (IsOtherName xs ys) names name so_far.each (record { number = n; inside = inside; same = refl; other = other });
      whole = below_more (λ x. IsOther xs ys x → Contains (names ++ name ∷ []) (get_or xs x no_procedure).name) n
          (λ x less own. Contains-append_left names (name ∷ []) (get_or xs x no_procedure).name (so_far.whole x less own))
          (λ own. Contains-push names name);
    }

pub others_same : (n : ℕ) (xs ys : List Named) (names : List (List ℕ)) → OtherNamesBelow n xs ys names → (get_or ys n no_procedure).code ≡ (get_or xs n no_procedure).code
    → OtherNamesBelow (n + 1) xs ys names
others_same n xs ys names so_far same = record {
  each = so_far.each;
  whole = below_more (λ x. IsOther xs ys x → Contains names (get_or xs x no_procedure).name) n so_far.whole (λ own. absurd (own same));
}
