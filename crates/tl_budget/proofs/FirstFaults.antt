-- The loops of a code either nest or have a first fault.
use Rattle.std.proofs.Common.{◌≡◌, ◌⊎◌, inl, inr, ℕ, zero, suc, ◌+◌, ◌<◌, ◌≤◌, List, [], ◌∷◌, ◌++◌, length, Option, Some, None, refl, sym, ◌∙◌, ap, subst, arith}
use Rattle.std.proofs.lemmas.Bool.{cases_lt, cases_order}
use Rattle.tl_instr.specs.declared.instr.Instr.{Instr}
use Rattle.tl_budget.specs.declared.fault.NestFault.{NestFault}
use Rattle.tl_budget.specs.declared.fault.NestFault.TheVariants.{EndAlone, ZeroCount, TooDeep, LoopOpen}
use Rattle.tl_budget.specs.Findings.{Finding, Alone, Zero, Deep, Unclosed, pass, position, rank, Precedes, fault_of, IsFirstFault}
use Rattle.tl_budget.specs.Loops.{Kind, Opens, Closes, Returns, Acts, kind_at}
use Rattle.tl_budget.specs.Nested.{IsNested}
use Rattle.tl_budget.proofs.NothingFound.{Clear, ClearAt, clear_start, clear_next, clear_opens, clear_closes, clear_else, is_nested, first_zero, first_deep, first_alone, first_unclosed}
use Rattle.tl_budget.proofs.OpenLoops.{opened}
use Rattle.tl_budget.proofs.AroundLemmas.{nothing_found}

pub none_where_nested : (code : List Instr) (f : NestFault) → IsNested code → IsFirstFault code f → ⊥
none_where_nested code f nested h = nothing_found code nested h.finding h.arises

-- the finding with this position and rank
pub ranked : ℕ → ℕ → Finding
ranked p zero = Alone p
ranked p (suc zero) = Zero p
ranked p (suc (suc zero)) = Deep p
ranked p (suc (suc (suc n))) = Unclosed p

pub is_ranked : (f : Finding) → ranked (position f) (rank f) ≡ f
unfolding ranked
is_ranked (Alone p) = refl
is_ranked (Zero p) = refl
is_ranked (Deep p) = refl
is_ranked (Unclosed p) = refl

-- of two different findings one precedes the other
same_finding : (f g : Finding) → (Precedes f g → ⊥) → (Precedes g f → ⊥) → f ≡ g
same_finding f g not_before not_after = passes (cases_order (pass f) (pass g))
  where
    ranks : pass f ≡ pass g → position f ≡ position g → (rank f ≡ rank g) ⊎ ((rank f < rank g) ⊎ (rank g < rank f)) → f ≡ g
    ranks e there (inl same) = sym (is_ranked f) ∙ ap (λ p. ranked p (rank f)) there ∙ ap (ranked (position g)) same ∙ is_ranked g
    ranks e there (inr (inl lt)) = absurd (not_before (inr (e, inr (there, lt))))
    ranks e there (inr (inr lt)) = absurd (not_after (inr (sym e, inr (sym there, lt))))

    positions : pass f ≡ pass g → (position f ≡ position g) ⊎ ((position f < position g) ⊎ (position g < position f)) → f ≡ g
    positions e (inl there) = ranks e there (cases_order (rank f) (rank g))
    positions e (inr (inl lt)) = absurd (not_before (inr (e, inl lt)))
    positions e (inr (inr lt)) = absurd (not_after (inr (sym e, inl lt)))

    passes : (pass f ≡ pass g) ⊎ ((pass f < pass g) ⊎ (pass g < pass f)) → f ≡ g
    passes (inl e) = positions e (cases_order (position f) (position g))
    passes (inr (inl lt)) = absurd (not_before (inl lt))
    passes (inr (inr lt)) = absurd (not_after (inl lt))

pub one_first : (code : List Instr) (f g : NestFault) → IsFirstFault code f → IsFirstFault code g → f ≡ g
one_first code f g a b =
    a.fault
    ∙ ap fault_of (same_finding a.finding b.finding (b.first a.finding a.arises) (a.first b.finding b.arises))
    ∙ sym b.fault

abbrev HasFirst : List Instr → Type 0
HasFirst code = (f : NestFault) × IsFirstFault code f

-- there is no fault at p, or the code has a first fault
clear_or_first : (code : List Instr) (p : ℕ) → Clear code p → ClearAt code p ⊎ HasFirst code
clear_or_first code p clear = by (kind_at code p) refl
  where
    opens : (w : ℕ) → kind_at code p ≡ Some (Opens w) → 0 < w → (length (opened code p) < 4) ⊎ (4 ≤ length (opened code p)) → ClearAt code p ⊎ HasFirst code
    opens w at turns (inl room) = inl (clear_opens code p w at turns room)
    opens w at turns (inr deep) = inr (TooDeep p, first_deep code p w clear at turns deep)

    closes : kind_at code p ≡ Some Closes → (0 < length (opened code p)) ⊎ (length (opened code p) ≤ 0) → ClearAt code p ⊎ HasFirst code
    closes at (inl some) = inl (clear_closes code p at some)
    closes at (inr none) = let empty : length (opened code p) ≡ 0 = omega arith in inr (EndAlone p, first_alone code p clear at empty)

    by : (k : Option Kind) → kind_at code p ≡ k → ClearAt code p ⊎ HasFirst code
    by (Some (Opens zero)) at = inr (ZeroCount p, first_zero code p clear at)
    by (Some (Opens (suc w))) at = opens (suc w) at (omega arith) (cases_lt (length (opened code p)) 4)
    by (Some Closes) at = closes at (cases_lt 0 (length (opened code p)))
    by (Some Returns) at = inl (clear_else code p (λ w e. cc) (λ e. cc))
    by (Some Acts) at = inl (clear_else code p (λ w e. cc) (λ e. cc))
    by None at = inl (clear_else code p (λ w e. cc) (λ e. cc))

clear_up_to : (code : List Instr) (p : ℕ) → Clear code p ⊎ HasFirst code
clear_up_to code zero = inl (clear_start code)
clear_up_to code (suc p) = by (clear_up_to code p)
  where
    on : Clear code p → ClearAt code p ⊎ HasFirst code → Clear code (suc p) ⊎ HasFirst code
    on clear (inl at) = let e : p + 1 ≡ suc p = omega arith in inl (subst (Clear code) e (clear_next code p clear at))
    on clear (inr first) = inr first

    by : Clear code p ⊎ HasFirst code → Clear code (suc p) ⊎ HasFirst code
    by (inl clear) = on clear (clear_or_first code p clear)
    by (inr first) = inr first

-- a nonempty list has a last element
last : (o : ℕ) (s : List ℕ) → (front : List ℕ) × (l : ℕ) × (o ∷ s ≡ front ++ l ∷ [])
last o [] = ([], o, refl)
last o (q ∷ s) = let h = last q s in (o ∷ h.0, h.1, ap (λ (t : List ℕ). o ∷ t) h.2)

pub nested_or_first : (code : List Instr) → IsNested code ⊎ HasFirst code
nested_or_first code = by (clear_up_to code (length code))
  where
    ends : Clear code (length code) → (s : List ℕ) → opened code (length code) ≡ s → IsNested code ⊎ HasFirst code
    ends clear [] is = inl (is_nested code clear is)
    ends clear (o ∷ s) is = let h = last o s in inr (LoopOpen h.1, first_unclosed code h.1 h.0 clear (is ∙ h.2))

    by : Clear code (length code) ⊎ HasFirst code → IsNested code ⊎ HasFirst code
    by (inl clear) = ends clear (opened code (length code)) refl
    by (inr first) = inr first
