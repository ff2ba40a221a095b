-- Comparing sets of registers.
use Rattle.std.proofs.Common.{◌≡◌, ℕ, ◌<◌, List, [], ◌∷◌, Option, Some, Bool, true, false, refl, sym, ap, ◌∙◌, ◌⊎◌, inl, inr}
use Rattle.std.specs.Prelude.{◌≢◌, ◌||◌, nat_eq}
use Rattle.std.proofs.lemmas.Bool.{eqb-true, eqb-false}
use Rattle.tl_instr.specs.declared.instr.Instr.{Instr}
use Rattle.tl_verify.specs.declared.marks.Marks.{Marks}
use Rattle.tl_verify.specs.declared.arrivals.Arrivals.{Arrivals}
use Rattle.tl_verify.specs.Bits.{bits_of, number_of, number_of_bits}
use Rattle.tl_verify.specs.Pass.{Compares, is_end}
use lib.Pointwise.{pointwise}
use mathlib.Core.Bool.{beq, not}

pub pointwise_same : (xs ys : List Bool) → pointwise beq xs ys ≡ true → xs ≡ ys
pointwise_same [] [] e = refl
pointwise_same [] (y ∷ ys) e = cc
pointwise_same (x ∷ xs) [] e = cc
pointwise_same (true ∷ xs) (true ∷ ys) e = ap (λ zs. true ∷ zs) (pointwise_same xs ys e)
pointwise_same (false ∷ xs) (false ∷ ys) e = ap (λ zs. false ∷ zs) (pointwise_same xs ys e)
pointwise_same (true ∷ xs) (false ∷ ys) e = cc
pointwise_same (false ∷ xs) (true ∷ ys) e = cc

pub pointwise_itself : (xs : List Bool) → pointwise beq xs xs ≡ true
pointwise_itself [] = refl
pointwise_itself (true ∷ xs) = pointwise_itself xs
pointwise_itself (false ∷ xs) = pointwise_itself xs

-- two bytes are equal exactly if their bits are
pub compared : (a b : ℕ) → a < 256 → b < 256 → nat_eq a b ≡ pointwise beq (bits_of 8 a) (bits_of 8 b)
compared a b small little = by (nat_eq a b) refl (pointwise beq (bits_of 8 a) (bits_of 8 b)) refl
  where
    by : (r : Bool) → nat_eq a b ≡ r → (s : Bool) → pointwise beq (bits_of 8 a) (bits_of 8 b) ≡ s → r ≡ s
    by true e s f = sym (sym f ∙ ap (λ x. pointwise beq (bits_of 8 a) (bits_of 8 x)) (sym (eqb-true a b e)) ∙ pointwise_itself (bits_of 8 a))
    by false e false f = refl
    by false e true f = absurd (eqb-false a b e (sym (number_of_bits 8 a small) ∙ ap number_of (pointwise_same (bits_of 8 a) (bits_of 8 b) f) ∙ number_of_bits 8 b little))

not_false : (b : Bool) → not b ≡ false → b ≡ true
not_false true e = refl
not_false false e = cc

not_true : (b : Bool) → not b ≡ true → b ≡ false
not_true false e = refl
not_true true e = cc

-- the negated comparison is false exactly for equal sets
pub not_differs : (r : Bool) (xs ys : List Bool) → r ≡ not (pointwise beq xs ys) → r ≡ false → xs ≡ ys
not_differs r xs ys e f = pointwise_same xs ys (not_false (pointwise beq xs ys) (sym e ∙ f))

pub differs : (r : Bool) (xs ys : List Bool) → r ≡ not (pointwise beq xs ys) → r ≡ true → xs ≢ ys
differs r xs ys e f = λ same.
    let other = not_true (pointwise beq xs ys) (sym e ∙ f) in
    let itself = ap (λ zs. pointwise beq zs ys) same ∙ pointwise_itself ys in
    cc

pub or_false : (a b : Bool) → (a || b) ≡ false → (a ≡ false) × (b ≡ false)
or_false false false e = (refl, refl)
or_false false true e = cc
or_false true b e = cc

pub or_true : (a b : Bool) → (a || b) ≡ true → (a ≡ true) ⊎ (b ≡ true)
or_true true b e = inl refl
or_true false true e = inr refl
or_true false false e = cc

-- two sets of registers are equal or not
pub same_or_not : (xs ys : List Bool) → (xs ≡ ys) ⊎ (xs ≢ ys)
same_or_not xs ys = by (pointwise beq xs ys) refl
  where
    by : (b : Bool) → pointwise beq xs ys ≡ b → (xs ≡ ys) ⊎ (xs ≢ ys)
    by true e = inl (pointwise_same xs ys e)
    by false e = inr (differs true xs ys (sym (ap not e)) refl)

module _ (i : Instr) (start : Option Arrivals) (m : Marks) (a : Arrivals) (ends : is_end i ≡ true) (is : start ≡ Some a) where
  pub other_registers : (r : Bool) → r ≡ not (pointwise beq a.marks.held m.held) → r ≡ true → Compares i start m r
  other_registers r e f = record {
    changes = λ g. (a, ends, is, inl (λ same. differs r a.marks.held m.held e f (sym same)));
    keeps = λ g. cc;
  }

  module _ (r : Bool) (e : r ≡ not (pointwise beq a.marks.held m.held)) (f : r ≡ false) where
    -- if the same registers are held, `first` decides
    first_decides : (changed : Bool) → (changed ≡ true → (a.marks.is_open ≡ true) × (m.is_open ≡ false)) → (changed ≡ false → a.marks.is_open ≡ true → m.is_open ≡ true) → Compares i start m changed
    first_decides changed spent kept = record {
      changes = λ g. (a, ends, is, inr (spent g));
      keeps = λ g h b there.
          let same : a ≡ b = let k : Some a ≡ Some b = sym is ∙ there in cc in
          (sym (not_differs r a.marks.held m.held e f) ∙ ap (λ (x : Arrivals). x.marks.held) same, λ o. kept g (ap (λ (x : Arrivals). x.marks.is_open) same ∙ o));
    }

    pub where_open : a.marks.is_open ≡ true → Compares i start m (not m.is_open)
    where_open o = first_decides (not m.is_open) (λ g. (o, not_true m.is_open g)) (λ g h. not_false m.is_open g)

    pub where_spent : a.marks.is_open ≡ false → Compares i start m a.marks.is_open
    where_spent o = first_decides a.marks.is_open (λ g. cc) (λ g h. cc)
