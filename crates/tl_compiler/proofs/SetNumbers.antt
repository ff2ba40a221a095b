-- Sets of registers by their numbers, and sets of such sets.
use Rattle.std.proofs.Common.{◌≡◌, ◌≢◌, ◌⊎◌, inl, inr, ℕ, zero, suc, ◌*◌, ◌/◌, ◌%◌, ◌^◌, ◌<◌, List, [], ◌∷◌, ◌++◌, length, Bool, true, false, refl, sym, ap, ap₂, ◌∙◌, subst, arith, w64, bit_or, max, get_or, Option, Some, None}
use Rattle.std.specs.Prelude.{nat_eq, ◌||◌, ◌&&◌, slice_set, unwrap_or}
use Rattle.std.specs.Bool.{beq}
use Rattle.std.specs.Int.{bit_at}
use Rattle.std.proofs.lemmas.Bool.Decides.{eqb_tells}
use Rattle.std.proofs.lemmas.List.{get_or-set_same, get_or-set_other}
use Rattle.std.proofs.lemmas.Nat.Bits.{bit_at-zero, bit_at-lt, bit_at_or, bit_at_set_same, bit_at_set_other}
use Rattle.tl_lowering.specs.Sets.{Nodes, same, is_among}
use Rattle.tl_verify.specs.Bits.{bits_of, number_of, number_of_bits}
use Rattle.tl_compiler.specs.declared.node_set.NodeSet.{NodeSet}
use Rattle.tl_compiler.specs.declared.node_set.NodeSets.{NodeSets}
use Rattle.tl_compiler.specs.NodeSets.{nodes_of, nodes_at, has, AreThose}
use Rattle.tl_compiler.specs.Statements.{held_behind}

-- ---- a set is told by its number

bit_is : (x y : Bool) → beq x y ≡ true → x ≡ y
bit_is true true e = refl
bit_is true false e = cc
bit_is false true e = cc
bit_is false false e = refl

first_part : (x y : Bool) → x && y ≡ true → x ≡ true
first_part true y e = refl
first_part false y e = cc

second_part : (x y : Bool) → x && y ≡ true → y ≡ true
second_part true y e = e
second_part false y e = cc

pub same_is : (xs ys : Nodes) → same xs ys ≡ true → xs ≡ ys
same_is [] [] e = refl
same_is [] (y ∷ ys) e = cc
same_is (x ∷ xs) [] e = cc
same_is (x ∷ xs) (y ∷ ys) e =
    ap₂ (λ a b. a ∷ b) (bit_is x y (first_part (beq x y) (same xs ys) e)) (same_is xs ys (second_part (beq x y) (same xs ys) e))

pub same_itself : (xs : Nodes) → same xs xs ≡ true
same_itself [] = refl
same_itself (true ∷ xs) = same_itself xs
same_itself (false ∷ xs) = same_itself xs

false_or_true : (b : Bool) → (b ≡ true → ⊥) → b ≡ false
false_or_true true h = absurd (h refl)
false_or_true false h = refl

pub same_number : (count a b : ℕ) → a < 2 ^ count → b < 2 ^ count → same (bits_of count a) (bits_of count b) ≡ nat_eq a b
same_number count a b small tiny = by (eqb_tells a b)
  where
    by : ((nat_eq a b ≡ true) × (a ≡ b)) ⊎ ((nat_eq a b ≡ false) × (a ≢ b)) → same (bits_of count a) (bits_of count b) ≡ nat_eq a b
    by (inl e) = ap (λ z. same (bits_of count a) (bits_of count z)) (sym e.1) ∙ same_itself (bits_of count a) ∙ sym e.0
    by (inr e) =
        false_or_true (same (bits_of count a) (bits_of count b))
        (λ s. e.1 (sym (number_of_bits count a small) ∙ ap number_of (same_is (bits_of count a) (bits_of count b) s) ∙ number_of_bits count b tiny))
        ∙ sym e.0

pub behind_is : (set : Option NodeSet) (held : Option Nodes) (behind : NodeSet) → nodes_at set ≡ held → behind ≡ unwrap_or set (record { bits = 0 })
    → nodes_of behind ≡ held_behind held
unfolding nodes_of
behind_is None held behind e is = subst (λ h. nodes_of behind ≡ held_behind h) e (ap nodes_of is)
behind_is (Some set) held behind e is = subst (λ h. nodes_of behind ≡ held_behind h) e (ap nodes_of is)

-- ---- some sets

zeros : (k : ℕ) → get_or {A = ℕ} (0 ∷ 0 ∷ 0 ∷ 0 ∷ []) k 0 ≡ 0
zeros zero = refl
zeros (suc zero) = refl
zeros (suc (suc zero)) = refl
zeros (suc (suc (suc zero))) = refl
zeros (suc (suc (suc (suc k)))) = refl

pub no_sets : (sets : NodeSets) → sets.words ≡ 0 ∷ 0 ∷ 0 ∷ 0 ∷ [] → AreThose sets []
no_sets sets e = record {
  has_those = λ n lt.
      ap (λ w. nat_eq (bit_at (get_or w (n / 64) 0) (n % 64)) 1) e
      ∙ ap (λ w. nat_eq (bit_at w (n % 64)) 1) (zeros (n / 64))
      ∙ ap (λ b. nat_eq b 1) (bit_at-zero (n % 64));
}

abbrev word_with : List ℕ → ℕ → ℕ
word_with words k = bit_or (get_or words (k / 64) 0) (1 * 2 ^ (k % 64) % 2 ^ 64)

pub one_more : (old new : NodeSets) (k : ℕ) (list : List Nodes) → k < 256 → length old.words ≡ 4
    → new.words ≡ slice_set old.words (k / 64) (word_with old.words k)
    → AreThose old list → AreThose new (bits_of 8 k ∷ list)
one_more old new k list small four is those = record { has_those = λ n lt. by n lt (eqb_tells n k) (eqb_tells (n / 64) (k / 64)) }
  where
    by : (n : ℕ) → n < 256 → ((nat_eq n k ≡ true) × (n ≡ k)) ⊎ ((nat_eq n k ≡ false) × (n ≢ k))
        → ((nat_eq (n / 64) (k / 64) ≡ true) × (n / 64 ≡ k / 64)) ⊎ ((nat_eq (n / 64) (k / 64) ≡ false) × (n / 64 ≢ k / 64))
        → has new n ≡ same (bits_of 8 n) (bits_of 8 k) || is_among (bits_of 8 n) list
    by n lt (inl e) at =
        let there : k / 64 < length old.words = omega arith in
        let read = get_or-set_same old.words (k / 64) (word_with old.words k) 0 there in
        ap (λ z. nat_eq (bit_at (get_or new.words (z / 64) 0) (z % 64)) 1) e.1
        ∙ ap (λ w. nat_eq (bit_at (get_or w (k / 64) 0) (k % 64)) 1) is
        ∙ ap (λ w. nat_eq (bit_at w (k % 64)) 1) read
        ∙ ap (λ b. nat_eq b 1) (bit_at_set_same w64 (get_or old.words (k / 64) 0) (k % 64) (omega arith))
        ∙ ap (λ b. b || is_among (bits_of 8 n) list) (sym (same_number 8 n k lt small ∙ e.0))
    by n lt (inr e) (inl at) =
        let there : k / 64 < length old.words = omega arith in
        let read = get_or-set_same old.words (k / 64) (word_with old.words k) 0 there in
        ap (λ z. nat_eq (bit_at (get_or new.words z 0) (n % 64)) 1) at.1
        ∙ ap (λ w. nat_eq (bit_at (get_or w (k / 64) 0) (n % 64)) 1) is
        ∙ ap (λ w. nat_eq (bit_at w (n % 64)) 1) read
        ∙ ap (λ b. nat_eq b 1) (bit_at_set_other w64 (get_or old.words (k / 64) 0) (k % 64) (omega arith) (n % 64) (λ z. e.1 (omega arith)))
        ∙ ap (λ z. nat_eq (bit_at (get_or old.words z 0) (n % 64)) 1) (sym at.1)
        ∙ those.has_those n lt
        ∙ ap (λ b. b || is_among (bits_of 8 n) list) (sym (same_number 8 n k lt small ∙ e.0))
    by n lt (inr e) (inr at) =
        ap (λ w. nat_eq (bit_at (get_or w (n / 64) 0) (n % 64)) 1) is
        ∙ ap (λ w. nat_eq (bit_at w (n % 64)) 1) (get_or-set_other old.words (k / 64) (n / 64) (word_with old.words k) 0 at.1)
        ∙ those.has_those n lt
        ∙ ap (λ b. b || is_among (bits_of 8 n) list) (sym (same_number 8 n k lt small ∙ e.0))

or_assoc : (a b c : Bool) → (a || b) || c ≡ a || (b || c)
or_assoc true b c = refl
or_assoc false b c = refl

among_joined : (h : Nodes) (xs ys : List Nodes) → is_among h (xs ++ ys) ≡ is_among h xs || is_among h ys
among_joined h [] ys = refl
among_joined h (x ∷ xs) ys = ap (λ b. same h x || b) (among_joined h xs ys) ∙ sym (or_assoc (same h x) (is_among h xs) (is_among h ys))

word_of : (a b : List ℕ) (k : ℕ) → k < 4
    → get_or (bit_or (get_or a 0 0) (get_or b 0 0) ∷ bit_or (get_or a 1 0) (get_or b 1 0) ∷ bit_or (get_or a 2 0) (get_or b 2 0) ∷ bit_or (get_or a 3 0) (get_or b 3 0) ∷ []) k 0
    ≡ bit_or (get_or a k 0) (get_or b k 0)
word_of a b zero lt = refl
word_of a b (suc zero) lt = refl
word_of a b (suc (suc zero)) lt = refl
word_of a b (suc (suc (suc zero))) lt = refl
word_of a b (suc (suc (suc (suc k)))) lt = absurd (omega arith)

either_bit : (x y : ℕ) → x < 2 → y < 2 → nat_eq (max x y) 1 ≡ nat_eq x 1 || nat_eq y 1
either_bit zero zero a b = refl
either_bit zero (suc zero) a b = refl
either_bit (suc zero) zero a b = refl
either_bit (suc zero) (suc zero) a b = refl
either_bit (suc (suc x)) y a b = absurd (omega arith)
either_bit x (suc (suc y)) a b = absurd (omega arith)

pub all_sets_joined : (a b new : NodeSets) (list more : List Nodes)
    → new.words ≡ bit_or (get_or a.words 0 0) (get_or b.words 0 0) ∷ bit_or (get_or a.words 1 0) (get_or b.words 1 0) ∷ bit_or (get_or a.words 2 0) (get_or b.words 2 0) ∷ bit_or (get_or a.words 3 0) (get_or b.words 3 0) ∷ []
    → AreThose a list → AreThose b more → AreThose new (list ++ more)
all_sets_joined a b new list more is those these = record {
  has_those = λ n lt.
      let x = get_or a.words (n / 64) 0 in
      let y = get_or b.words (n / 64) 0 in
      ap (λ w. nat_eq (bit_at (get_or w (n / 64) 0) (n % 64)) 1) is
      ∙ ap (λ w. nat_eq (bit_at w (n % 64)) 1) (word_of a.words b.words (n / 64) (omega arith))
      ∙ ap (λ w. nat_eq w 1) (bit_at_or x y (n % 64))
      ∙ either_bit (bit_at x (n % 64)) (bit_at y (n % 64)) (bit_at-lt x (n % 64)) (bit_at-lt y (n % 64))
      ∙ ap₂ (λ p q. p || q) (those.has_those n lt) (these.has_those n lt)
      ∙ sym (among_joined (bits_of 8 n) list more);
}
