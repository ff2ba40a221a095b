-- Each set of node registers is in the list of all sets, and a handler may need no pads.
use Rattle.std.proofs.Common.{◌≡◌, ℕ, zero, suc, ◌+◌, ◌*◌, ◌^◌, ◌/◌, ◌%◌, ◌<◌, ◌≤◌, List, [], ◌∷◌, length, map, Bool, true, false, not, ◌&&◌, refl, sym, ap, ap₂, ◌∙◌, subst, arith, ◌⊎◌, inl, inr}
use Rattle.std.specs.List.{range_with_len}
use Rattle.std.proofs.lemmas.Bool.{eq-eqb, ne_eqb}
use Rattle.std.proofs.Math.Nat.{two-pow-succ, eq-or-lt_of_le}
use Rattle.tl_instr.specs.declared.operand.TheConstants.{NODE_REGISTERS}
use Rattle.tl_verify.specs.Bits.{bits_of, number_of}
use Rattle.tl_lowering.specs.Sets.{Nodes, same, is_among}
use Rattle.tl_compiler.specs.NodeSets.{all_sets}
use Rattle.tl_compiler.specs.Statements.{Pads, one_pad, pads_of}
use Rattle.tl_compiler.specs.Among.{IsIn}

number_small : (h : Nodes) → number_of h < 2 ^ length h
number_small [] = omega arith
number_small (true ∷ h) = let less = number_small h in omega (arith, less, two-pow-succ (length h))
number_small (false ∷ h) = let less = number_small h in omega (arith, less, two-pow-succ (length h))

bits_again : (h : Nodes) → bits_of (length h) (number_of h) ≡ h
bits_again [] = refl
bits_again (true ∷ h) =
    let rest = bits_again h in
    let half : (2 * number_of h + 1) / 2 ≡ number_of h = omega arith in
    ap₂ (λ b l. b ∷ l) (eq-eqb ((2 * number_of h + 1) % 2) 1 (omega arith)) (ap (bits_of (length h)) half ∙ rest)
bits_again (false ∷ h) =
    let rest = bits_again h in
    let half : (2 * number_of h) / 2 ≡ number_of h = omega arith in
    ap₂ (λ b l. b ∷ l) (ne_eqb ((2 * number_of h) % 2) 1 (λ e. absurd (omega (arith, e)))) (ap (bits_of (length h)) half ∙ rest)

in_range : (f : ℕ → Nodes) (from count n : ℕ) → from ≤ n → n < from + count → IsIn (f n) (map f (range_with_len from count))
in_range f from zero n le lt = absurd (omega arith)
in_range f from (suc count) n le lt = by (eq-or-lt_of_le le) (λ a b. in_range f (from + 1) count n a b)
  where
    by : (from ≡ n) ⊎ (from < n) → (from + 1 ≤ n → n < from + 1 + count → IsIn (f n) (map f (range_with_len (from + 1) count))) → IsIn (f n) (map f (range_with_len from (suc count)))
    by (inl e) rest = inl (ap f (sym e))
    by (inr less) rest = inr (rest (omega arith) (omega arith))

pub one_of_all : (h : Nodes) → length h ≡ NODE_REGISTERS → IsIn h all_sets
one_of_all h size =
    let less : number_of h < 256 = subst (λ n. number_of h < 2 ^ n) size (number_small h) in
    subst (λ g. IsIn g all_sets) (ap (λ n. bits_of n (number_of h)) (sym size) ∙ bits_again h) (in_range (bits_of NODE_REGISTERS) 0 256 (number_of h) (omega arith) (omega (arith, less)))

pub pads_none : (sets failing : List Nodes) (handled : Nodes) (label : ℕ) (base : Pads) → (pads_of sets failing handled label base).are_some ≡ false → (pads_of sets failing handled label base).code ≡ base.code
pads_none [] failing handled label base e = refl
pads_none (g ∷ others) failing handled label base e = by (is_among g failing && not (same g handled)) (λ f. pads_none others failing handled label base f) e
  where
    by : (b : Bool) → ((pads_of others failing handled label base).are_some ≡ false → (pads_of others failing handled label base).code ≡ base.code)
        → (one_pad b g handled label (pads_of others failing handled label base)).are_some ≡ false → (one_pad b g handled label (pads_of others failing handled label base)).code ≡ base.code
    by false rest e = rest e
    by true rest e = cc
