-- The place that a follower's line names.
use Rattle.std.proofs.Common.{◌≡◌, ◌≢◌, ap, sym, ◌∙◌, refl, ℕ, suc, ne_eqb, length, get_or, arith, List, [], ◌∷◌, Option, Some, None}
use Rattle.std.specs.Prelude.{option_and_then}
use Rattle.serde_json.specs.Data.{Data}
use Rattle.serde_json.specs.Find.{as_array}
use Rattle.serde_json.specs.View.{view, items_view}
use Rattle.serde_json.specs.declared.value.Value.{Value}
use Rattle.tl_tree.specs.Reading.{each_item}
use Rattle.tl_tree.proofs.Items.{length-each_item}
use Rattle.tl_server.specs.Following.{number_of, position_in, position_of}

counted : (o : Option (List ℕ)) (n : ℕ) → ((xs : List ℕ) → o ≡ Some xs → length xs ≡ n) → n ≢ 7 → option_and_then position_in o ≡ None
counted None n h other = refl
counted (Some []) n h other = refl
counted (Some (volume ∷ rows)) n h other =
    rw (ne_eqb (length rows) 6 (λ e. other (sym (h (volume ∷ rows) refl) ∙ ap suc e))) refl

-- a list of another length is no position
pub no_position : (vs : List Value) → length vs ≢ 7 → option_and_then position_in (each_item number_of (items_view vs)) ≡ None
no_position vs other = counted (each_item number_of (items_view vs)) (length vs) (length-each_item number_of vs) other

-- so a value that is a list of another length is none
pub no_position_in : (d : Data) (vs : List Value) → Some (items_view vs) ≡ as_array d → length vs ≢ 7 → None ≡ position_of d
no_position_in d vs is other =
    sym (ap (λ o. option_and_then position_in (option_and_then (each_item number_of) o)) (sym is) ∙ no_position vs other)

-- a list of seven numbers is a position
pub position_read : (xs : List Value) (v n p c t r s : Value) (v' n' p' c' t' r' s' : ℕ) → length xs ≡ 7
    → v ≡ get_or xs 0 v → n ≡ get_or xs 1 n → p ≡ get_or xs 2 p → c ≡ get_or xs 3 c → t ≡ get_or xs 4 t → r ≡ get_or xs 5 r → s ≡ get_or xs 6 s
    → number_of (view v) ≡ Some v' → number_of (view n) ≡ Some n' → number_of (view p) ≡ Some p' → number_of (view c) ≡ Some c' → number_of (view t) ≡ Some t' → number_of (view r) ≡ Some r' → number_of (view s) ≡ Some s'
    → Some (v', n' ∷ p' ∷ c' ∷ t' ∷ r' ∷ s' ∷ []) ≡ option_and_then position_in (each_item number_of (items_view xs))
position_read [] v n p c t r s v' n' p' c' t' r' s' size e0 e1 e2 e3 e4 e5 e6 r0 r1 r2 r3 r4 r5 r6 = (let no : ⊥ = omega (arith, size) in absurd no)
position_read (x0 ∷ []) v n p c t r s v' n' p' c' t' r' s' size e0 e1 e2 e3 e4 e5 e6 r0 r1 r2 r3 r4 r5 r6 = (let no : ⊥ = omega (arith, size) in absurd no)
position_read (x0 ∷ x1 ∷ []) v n p c t r s v' n' p' c' t' r' s' size e0 e1 e2 e3 e4 e5 e6 r0 r1 r2 r3 r4 r5 r6 = (let no : ⊥ = omega (arith, size) in absurd no)
position_read (x0 ∷ x1 ∷ x2 ∷ []) v n p c t r s v' n' p' c' t' r' s' size e0 e1 e2 e3 e4 e5 e6 r0 r1 r2 r3 r4 r5 r6 = (let no : ⊥ = omega (arith, size) in absurd no)
position_read (x0 ∷ x1 ∷ x2 ∷ x3 ∷ []) v n p c t r s v' n' p' c' t' r' s' size e0 e1 e2 e3 e4 e5 e6 r0 r1 r2 r3 r4 r5 r6 = (let no : ⊥ = omega (arith, size) in absurd no)
position_read (x0 ∷ x1 ∷ x2 ∷ x3 ∷ x4 ∷ []) v n p c t r s v' n' p' c' t' r' s' size e0 e1 e2 e3 e4 e5 e6 r0 r1 r2 r3 r4 r5 r6 = (let no : ⊥ = omega (arith, size) in absurd no)
position_read (x0 ∷ x1 ∷ x2 ∷ x3 ∷ x4 ∷ x5 ∷ []) v n p c t r s v' n' p' c' t' r' s' size e0 e1 e2 e3 e4 e5 e6 r0 r1 r2 r3 r4 r5 r6 = (let no : ⊥ = omega (arith, size) in absurd no)
position_read (x0 ∷ x1 ∷ x2 ∷ x3 ∷ x4 ∷ x5 ∷ x6 ∷ []) v n p c t r s v' n' p' c' t' r' s' size e0 e1 e2 e3 e4 e5 e6 r0 r1 r2 r3 r4 r5 r6 =
    rw (← e0, ← e1, ← e2, ← e3, ← e4, ← e5, ← e6, r0, r1, r2, r3, r4, r5, r6) refl
position_read (x0 ∷ x1 ∷ x2 ∷ x3 ∷ x4 ∷ x5 ∷ x6 ∷ x7 ∷ rest) v n p c t r s v' n' p' c' t' r' s' size e0 e1 e2 e3 e4 e5 e6 r0 r1 r2 r3 r4 r5 r6 = (let no : ⊥ = omega (arith, size) in absurd no)
