-- Sets of node registers: intersection and difference.
use Rattle.std.proofs.Common.{◌≡◌, ◌≢◌, ℕ, zero, suc, List, [], ◌∷◌, ◌++◌, length, Bool, true, false, ◌&&◌, Option, Some, None, refl, sym, ap, ap₂, ◌∙◌, arith}
use Rattle.std.specs.Prelude.{not}
use Rattle.tl_lowering.specs.Sets.{Nodes, holds, with_node, without_node, both, minus, both_of, all_of}
use Rattle.tl_lowering.specs.Paths.{keeping}

and_self : (x : Bool) → x && x ≡ x
and_self true = refl
and_self false = refl

and_comm : (x y : Bool) → x && y ≡ y && x
and_comm true true = refl
and_comm true false = refl
and_comm false true = refl
and_comm false false = refl

and_false : (x y : Bool) → y ≡ false → false ≡ x && y
and_false true y e = sym e
and_false false y e = refl

and_assoc : (x y z : Bool) → (x && y) && z ≡ x && (y && z)
and_assoc true y z = refl
and_assoc false y z = refl

pub all_held : (a b : Nodes) → length a ≡ length b → ((n : ℕ) → holds a n ≡ holds b n) → a ≡ b
all_held [] [] e h = refl
all_held [] (y ∷ b) e h = absurd (omega (arith, e))
all_held (x ∷ a) [] e h = absurd (omega (arith, e))
all_held (x ∷ a) (y ∷ b) e h = ap₂ (λ z c. z ∷ c) (h 0) (all_held a b (omega (arith, e)) (λ n. h (suc n)))

-- ---- what is in both

pub holds_both : (a b : Nodes) (n : ℕ) → holds (both a b) n ≡ holds a n && holds b n
holds_both [] b n = refl
holds_both (x ∷ a) [] n = and_false (holds (x ∷ a) n) false refl
holds_both (x ∷ a) (y ∷ b) zero = refl
holds_both (x ∷ a) (y ∷ b) (suc n) = holds_both a b n

pub length_both : (a b : Nodes) (n : ℕ) → length a ≡ n → length b ≡ n → length (both a b) ≡ n
length_both [] b n e f = e
length_both (x ∷ a) [] n e f = f
length_both (x ∷ a) (y ∷ b) zero e f = absurd (omega (arith, e))
length_both (x ∷ a) (y ∷ b) (suc n) e f = ap suc (length_both a b n (omega (arith, e)) (omega (arith, f)))

pub holds_minus : (a b : Nodes) (n : ℕ) → length a ≡ length b → holds (minus a b) n ≡ holds a n && not (holds b n)
holds_minus [] b n e = refl
holds_minus (x ∷ a) [] n e = absurd (omega (arith, e))
holds_minus (x ∷ a) (y ∷ b) zero e = refl
holds_minus (x ∷ a) (y ∷ b) (suc n) e = holds_minus a b n (omega (arith, e))

pub length_minus : (a b : Nodes) (n : ℕ) → length a ≡ n → length b ≡ n → length (minus a b) ≡ n
length_minus [] b n e f = e
length_minus (x ∷ a) [] n e f = f
length_minus (x ∷ a) (y ∷ b) zero e f = absurd (omega (arith, e))
length_minus (x ∷ a) (y ∷ b) (suc n) e f = ap suc (length_minus a b n (omega (arith, e)) (omega (arith, f)))

pub both_minus : (a b : Nodes) → both a (minus a b) ≡ minus a b
both_minus [] b = refl
both_minus (x ∷ a) [] = refl
both_minus (true ∷ a) (y ∷ b) = ap (λ c. not y ∷ c) (both_minus a b)
both_minus (false ∷ a) (y ∷ b) = ap (λ c. false ∷ c) (both_minus a b)

pub both_self : (a : Nodes) → both a a ≡ a
both_self [] = refl
both_self (x ∷ a) = ap₂ (λ y b. y ∷ b) (and_self x) (both_self a)

pub both_comm : (a b : Nodes) → both a b ≡ both b a
both_comm [] [] = refl
both_comm [] (y ∷ b) = refl
both_comm (x ∷ a) [] = refl
both_comm (x ∷ a) (y ∷ b) = ap₂ (λ z c. z ∷ c) (and_comm x y) (both_comm a b)

pub both_assoc : (a b c : Nodes) → both (both a b) c ≡ both a (both b c)
both_assoc [] b c = refl
both_assoc (x ∷ a) [] c = refl
both_assoc (x ∷ a) (y ∷ b) [] = refl
both_assoc (x ∷ a) (y ∷ b) (z ∷ c) = ap₂ (λ u d. u ∷ d) (and_assoc x y z) (both_assoc a b c)

-- ---- one set within another: what is in both is the first one

pub within_trans : (a b c : Nodes) → both a b ≡ a → both b c ≡ b → both a c ≡ a
within_trans a b c p q = ap (λ z. both z c) (sym p) ∙ both_assoc a b c ∙ ap (both a) q ∙ p

pub within_both : (a b c : Nodes) → both a c ≡ a → both (both a b) c ≡ both a b
within_both a b c p = ap (λ z. both z c) (both_comm a b) ∙ both_assoc b a c ∙ ap (both b) p ∙ both_comm b a

pub both_within : (a b : Nodes) → both (both a b) b ≡ both a b
both_within a b = both_assoc a b b ∙ ap (both a) (both_self b)

pub within_without : (a : Nodes) (n : ℕ) → both (without_node a n) a ≡ without_node a n
within_without [] n = refl
within_without (x ∷ a) zero = ap (λ b. false ∷ b) (both_self a)
within_without (x ∷ a) (suc n) = ap₂ (λ y b. y ∷ b) (and_self x) (within_without a n)

pub within_with : (a : Nodes) (n : ℕ) → both a (with_node a n) ≡ a
within_with [] n = refl
within_with (true ∷ a) zero = ap (λ b. true ∷ b) (both_self a)
within_with (false ∷ a) zero = ap (λ b. false ∷ b) (both_self a)
within_with (x ∷ a) (suc n) = ap₂ (λ y b. y ∷ b) (and_self x) (within_with a n)

-- if a set is within another with a node added, then without that node it is within the other
pub without_with : (a h : Nodes) (n : ℕ) → both a (with_node h n) ≡ a → both (without_node a n) h ≡ without_node a n
without_with [] h n e = refl
without_with (x ∷ a) [] n e = cc
without_with (x ∷ a) (y ∷ h) zero e = let rest : both a h ≡ a = cc in ap (λ b. false ∷ b) rest
without_with (x ∷ a) (y ∷ h) (suc n) e =
    let rest : both a (with_node h n) ≡ a = cc in let head : x && y ≡ x = cc in ap₂ (λ z b. z ∷ b) head (without_with a h n rest)

pub without_swap : (a : Nodes) (n k : ℕ) → without_node (without_node a n) k ≡ without_node (without_node a k) n
without_swap [] n k = refl
without_swap (x ∷ a) zero zero = refl
without_swap (x ∷ a) zero (suc k) = refl
without_swap (x ∷ a) (suc n) zero = refl
without_swap (x ∷ a) (suc n) (suc k) = ap (λ b. x ∷ b) (without_swap a n k)

-- ---- nodes that a set doesn't hold

pub with_held : (h : Nodes) (n : ℕ) → holds h n ≡ true → with_node h n ≡ h
with_held [] n e = refl
with_held (x ∷ h) zero e = ap (λ y. y ∷ h) (sym e)
with_held (x ∷ h) (suc n) e = ap (λ b. x ∷ b) (with_held h n e)

-- removing a node that isn't in the second set doesn't change the intersection
pub both_without : (a h : Nodes) (n : ℕ) → holds h n ≡ false → both (without_node a n) h ≡ both a h
both_without [] h n e = refl
both_without (x ∷ a) [] zero e = refl
both_without (x ∷ a) [] (suc n) e = refl
both_without (x ∷ a) (y ∷ h) zero e = ap (λ b. b ∷ both a h) (and_false x y e)
both_without (x ∷ a) (y ∷ h) (suc n) e = ap (λ b. (x && y) ∷ b) (both_without a h n e)

pub holds_other : (h : Nodes) (n k : ℕ) → n ≢ k → holds (with_node h n) k ≡ holds h k
holds_other [] n k ne = refl
holds_other (x ∷ h) zero zero ne = absurd (ne refl)
holds_other (x ∷ h) zero (suc k) ne = refl
holds_other (x ∷ h) (suc n) zero ne = refl
holds_other (x ∷ h) (suc n) (suc k) ne = holds_other h n k (λ e. ne (omega arith))

pub without_falls : (h : Nodes) (n k : ℕ) → holds h k ≡ false → holds (without_node h n) k ≡ false
without_falls [] n k e = e
without_falls (x ∷ h) zero zero e = refl
without_falls (x ∷ h) zero (suc k) e = e
without_falls (x ∷ h) (suc n) zero e = e
without_falls (x ∷ h) (suc n) (suc k) e = without_falls h n k e

-- a node that isn't in a set isn't in its subsets
pub within_falls : (a h : Nodes) (k : ℕ) → both a h ≡ a → holds h k ≡ false → holds a k ≡ false
within_falls [] h k e f = refl
within_falls (x ∷ a) [] k e f = cc
within_falls (x ∷ a) (y ∷ h) zero e f = let head : x && y ≡ x = cc in sym head ∙ sym (and_false x y f)
within_falls (x ∷ a) (y ∷ h) (suc k) e f = let rest : both a h ≡ a = cc in within_falls a h k rest f

-- ---- at two places of which there may be one or none

pub both_of_comm : (a b : Option Nodes) → both_of a b ≡ both_of b a
both_of_comm None None = refl
both_of_comm None (Some b) = refl
both_of_comm (Some a) None = refl
both_of_comm (Some a) (Some b) = ap Some (both_comm a b)

pub both_of_none : (a : Option Nodes) → both_of a None ≡ a
both_of_none None = refl
both_of_none (Some a) = refl

pub both_of_self : (a : Option Nodes) → both_of a a ≡ a
both_of_self None = refl
both_of_self (Some a) = ap Some (both_self a)

pub both_of_assoc : (a b c : Option Nodes) → both_of (both_of a b) c ≡ both_of a (both_of b c)
both_of_assoc None b c = refl
both_of_assoc (Some a) None c = refl
both_of_assoc (Some a) (Some b) None = refl
both_of_assoc (Some a) (Some b) (Some c) = ap Some (both_assoc a b c)

pub all_of_append : (xs ys : List Nodes) → all_of (xs ++ ys) ≡ both_of (all_of xs) (all_of ys)
all_of_append [] ys = refl
all_of_append (x ∷ xs) ys = ap (both_of (Some x)) (all_of_append xs ys) ∙ sym (both_of_assoc (Some x) (all_of xs) (all_of ys))

pub keeping_self : (h : Nodes) (a : Option Nodes) → keeping h (keeping h a) ≡ keeping h a
keeping_self h None = refl
keeping_self h (Some a) = ap Some (both_within a h)

pub keeping_both : (h : Nodes) (a b : Option Nodes) → keeping h (both_of a b) ≡ both_of (keeping h a) (keeping h b)
keeping_both h None b = refl
keeping_both h (Some a) None = refl
keeping_both h (Some a) (Some b) = ap Some (fold a b)
  where
    fold : (a b : Nodes) → both (both a b) h ≡ both (both a h) (both b h)
    fold a b =
        sym (ap (both (both a b)) (both_self h)) ∙ sym (both_assoc (both a b) h h)
        ∙ ap (λ z. both z h) (both_assoc a b h ∙ ap (both a) (both_comm b h) ∙ sym (both_assoc a h b))
        ∙ both_assoc (both a h) b h
