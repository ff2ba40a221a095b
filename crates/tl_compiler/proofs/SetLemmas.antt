-- Sets of node registers.
use Rattle.std.proofs.Common.{◌≡◌, ℕ, zero, suc, List, [], ◌∷◌, ◌++◌, length, Bool, true, false, not, ◌&&◌, Option, Some, None, refl, sym, ap, ap₂, ◌∙◌, subst, arith, ◌⊎◌, inl, inr}
use Rattle.std.specs.Bool.{beq}
use Rattle.std.proofs.lemmas.Bool.{and_parts, or_left, or_right}
use Rattle.tl_lowering.specs.Sets.{Nodes, holds, without_node, both, minus, both_of, all_of, same, is_among}
use Rattle.tl_compiler.specs.Among.{IsIn}

pub all_held : (xs ys : Nodes) → length xs ≡ length ys → ((i : ℕ) → holds xs i ≡ holds ys i) → xs ≡ ys
all_held [] [] e h = refl
all_held [] (y ∷ ys) e h = absurd (omega (arith, e))
all_held (x ∷ xs) [] e h = absurd (omega (arith, e))
all_held (x ∷ xs) (y ∷ ys) e h = ap₂ (λ a b. a ∷ b) (h 0) (all_held xs ys (omega (arith, e)) (λ i. h (suc i)))

-- ---- what is in both, and in one alone

and_false : (x : Bool) → x && false ≡ false
and_false true = refl
and_false false = refl

pub holds_both : (xs ys : Nodes) (i : ℕ) → holds (both xs ys) i ≡ holds xs i && holds ys i
holds_both [] ys i = refl
holds_both (x ∷ xs) [] i = sym (and_false (holds (x ∷ xs) i))
holds_both (x ∷ xs) (y ∷ ys) zero = refl
holds_both (x ∷ xs) (y ∷ ys) (suc i) = holds_both xs ys i

pub length_both : (xs ys : Nodes) (n : ℕ) → length xs ≡ n → length ys ≡ n → length (both xs ys) ≡ n
length_both [] ys n a b = a
length_both (x ∷ xs) [] n a b = b
length_both (x ∷ xs) (y ∷ ys) zero a b = absurd (omega (arith, a))
length_both (x ∷ xs) (y ∷ ys) (suc n) a b = ap suc (length_both xs ys n (omega (arith, a)) (omega (arith, b)))

pub holds_minus : (xs ys : Nodes) (i : ℕ) → length xs ≡ length ys → holds (minus xs ys) i ≡ holds xs i && not (holds ys i)
holds_minus [] ys i e = refl
holds_minus (x ∷ xs) [] i e = absurd (omega (arith, e))
holds_minus (x ∷ xs) (y ∷ ys) zero e = refl
holds_minus (x ∷ xs) (y ∷ ys) (suc i) e = holds_minus xs ys i (omega (arith, e))

-- each register of the first set is in the second one
abbrev pub Within : Nodes → Nodes → Type 0
Within xs ys = (i : ℕ) → holds xs i ≡ true → holds ys i ≡ true

pub within_self : (xs : Nodes) → Within xs xs
within_self xs i e = e

pub within_left : (xs ys : Nodes) → Within (both xs ys) xs
within_left xs ys i e = (and_parts (holds xs i) (holds ys i) (sym (holds_both xs ys i) ∙ e)).0

pub within_right : (xs ys : Nodes) → Within (both xs ys) ys
within_right xs ys i e = (and_parts (holds xs i) (holds ys i) (sym (holds_both xs ys i) ∙ e)).1

both_with : (x y : Bool) → (y ≡ true → x ≡ true) → x && y ≡ y
both_with true y h = refl
both_with false true h = h refl
both_with false false h = refl

pub both_within : (xs ys : Nodes) → length xs ≡ length ys → Within ys xs → both xs ys ≡ ys
both_within xs ys e h =
    all_held (both xs ys) ys (length_both xs ys (length ys) e refl) (λ i. holds_both xs ys i ∙ both_with (holds xs i) (holds ys i) (h i))

pub without_within : (xs : Nodes) (n : ℕ) → Within (without_node xs n) xs
without_within [] n i e = e
without_within (x ∷ xs) zero zero e = cc
without_within (x ∷ xs) zero (suc i) e = e
without_within (x ∷ xs) (suc n) zero e = e
without_within (x ∷ xs) (suc n) (suc i) e = without_within xs n i e

-- ---- comparing

same_bit : (x y : Bool) → beq x y ≡ true → x ≡ y
same_bit true true e = refl
same_bit true false e = cc
same_bit false true e = cc
same_bit false false e = refl

bit_itself : (x : Bool) → beq x x ≡ true
bit_itself true = refl
bit_itself false = refl

pub same_is : (xs ys : Nodes) → same xs ys ≡ true → xs ≡ ys
same_is [] [] e = refl
same_is [] (y ∷ ys) e = cc
same_is (x ∷ xs) [] e = cc
same_is (x ∷ xs) (y ∷ ys) e = let h = and_parts (beq x y) (same xs ys) e in ap₂ (λ a b. a ∷ b) (same_bit x y h.0) (same_is xs ys h.1)

pub same_itself : (xs : Nodes) → same xs xs ≡ true
same_itself [] = refl
same_itself (x ∷ xs) = rw (bit_itself x) (same_itself xs)

-- ---- lists of sets

pub in_left : (h : Nodes) (xs ys : List Nodes) → IsIn h xs → IsIn h (xs ++ ys)
in_left h [] ys e = absurd e
in_left h (x ∷ xs) ys (inl e) = inl e
in_left h (x ∷ xs) ys (inr e) = inr (in_left h xs ys e)

pub in_right : (h : Nodes) (xs ys : List Nodes) → IsIn h ys → IsIn h (xs ++ ys)
in_right h [] ys e = e
in_right h (x ∷ xs) ys e = inr (in_right h xs ys e)

pub in_either : (h : Nodes) (xs ys : List Nodes) → IsIn h (xs ++ ys) → IsIn h xs ⊎ IsIn h ys
in_either h [] ys e = inr e
in_either h (x ∷ xs) ys (inl e) = inl (inl e)
in_either h (x ∷ xs) ys (inr e) = by (in_either h xs ys e)
  where
    by : IsIn h xs ⊎ IsIn h ys → IsIn h (x ∷ xs) ⊎ IsIn h ys
    by (inl a) = inl (inr a)
    by (inr b) = inr b

pub among : (h : Nodes) (xs : List Nodes) → IsIn h xs → is_among h xs ≡ true
among h [] e = absurd e
among h (x ∷ xs) (inl e) = or_left (same h x) (is_among h xs) (subst (λ y. same h y ≡ true) e (same_itself h))
among h (x ∷ xs) (inr e) = or_right (same h x) (is_among h xs) (among h xs e)

-- the intersection of all sets is within each of them
pub all_within : (h : Nodes) (xs : List Nodes) (g : Nodes) → IsIn h xs → all_of xs ≡ Some g → Within g h
all_within h [] g e all = absurd e
all_within h (x ∷ xs) g e all = by (λ m e f. all_within h xs m e f) (all_of xs) refl e all
  where
    by : ((m : Nodes) → IsIn h xs → all_of xs ≡ Some m → Within m h) → (o : Option Nodes) → all_of xs ≡ o → (h ≡ x) ⊎ IsIn h xs → both_of (Some x) o ≡ Some g → Within g h
    by rest None f (inl e) all = let same : x ≡ g = cc in λ i k. rw e (rw same k)
    by rest None f (inr e) all = absurd (none xs f e)
      where
        none : (xs : List Nodes) → all_of xs ≡ None → IsIn h xs → ⊥
        none [] f e = e
        none (y ∷ ys) f e = some (all_of ys) f
          where
            some : (o : Option Nodes) → both_of (Some y) o ≡ None → ⊥
            some None f = cc
            some (Some z) f = cc
    by rest (Some m) f (inl e) all = let same : both x m ≡ g = cc in λ i k. rw e (within_left x m i (rw same k))
    by rest (Some m) f (inr e) all = let same : both x m ≡ g = cc in λ i k. rest m e f i (within_right x m i (rw same k))
