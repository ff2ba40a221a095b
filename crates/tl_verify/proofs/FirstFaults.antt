-- An acceptable code has no first fault, and no code has two.
use Rattle.std.proofs.Common.{◌≡◌, ◌⊎◌, inl, inr, ℕ, zero, suc, ◌<◌, List, Bool, true, false, refl, sym, ◌∙◌, ap, subst, arith}
use Rattle.std.proofs.lemmas.Bool.{cases_order}
use Rattle.tl_instr.specs.declared.instr.Instr.{Instr}
use Rattle.tl_budget.specs.Findings as loops
use Rattle.tl_budget.proofs.FirstFaults.{ranked, is_ranked}
use Rattle.tl_verify.specs.declared.marks.Marks.{Marks}
use Rattle.tl_verify.specs.declared.fault.VerifyFault.{VerifyFault}
use Rattle.tl_verify.specs.Acceptable.{Acceptable}
use Rattle.tl_verify.specs.Marks.{is_held}
use Rattle.tl_verify.specs.Findings.{Finding, OfLoops, TargetBack, TargetPastEnd, TargetInLoop, Joined, Spent, Missing, Taken, LeftHeld, Changed, NextPastEnd, Steps, Locks, Emits, Arises, Meets, Precedes, pass, position, rank, fault_of, IsFirstFault}
use Rattle.tl_verify.proofs.MarksLemmas.{pointwise_same, pointwise_itself}
use Rattle.tl_verify.proofs.NoFindings.{nothing_found}
use lib.Pointwise.{pointwise}
use mathlib.Core.Bool.{beq}

pub none_where_accepted : (code : List Instr) (f : VerifyFault) → Acceptable code → IsFirstFault code f → ⊥
none_where_accepted code f acc h = nothing_found code acc h.finding h.arises

-- ---- a finding is fixed by its pass, position, rank and register

register : Finding → ℕ
register (Missing p n) = n
register (Taken p n) = n
register (LeftHeld p n) = n
register f = 0

of_registers : ℕ → ℕ → ℕ → Finding
of_registers p zero n = Joined p
of_registers p (suc zero) n = Spent p
of_registers p (suc (suc zero)) n = Missing p n
of_registers p (suc (suc (suc zero))) n = Taken p n
of_registers p (suc (suc (suc (suc zero)))) n = LeftHeld p n
of_registers p (suc (suc (suc (suc (suc zero))))) n = Changed p
of_registers p (suc (suc (suc (suc (suc (suc r)))))) n = NextPastEnd p

of_target : ℕ → ℕ → Finding
of_target p zero = TargetBack p
of_target p (suc zero) = TargetPastEnd p
of_target p (suc (suc r)) = TargetInLoop p

of_sums : ℕ → Finding
of_sums zero = Steps
of_sums (suc zero) = Locks
of_sums (suc (suc r)) = Emits

named : ℕ → ℕ → ℕ → ℕ → Finding
named zero p r n = OfLoops (ranked p r)
named (suc zero) p r n = OfLoops (ranked p r)
named (suc (suc zero)) p r n = of_target p r
named (suc (suc (suc zero))) p r n = of_registers p r n
named (suc (suc (suc (suc k)))) p r n = of_sums r

is_named : (f : Finding) → named (pass f) (position f) (rank f) (register f) ≡ f
unfolding register of_registers of_target of_sums named
is_named (OfLoops (loops.Alone p)) = ap OfLoops (is_ranked (loops.Alone p))
is_named (OfLoops (loops.Zero p)) = ap OfLoops (is_ranked (loops.Zero p))
is_named (OfLoops (loops.Deep p)) = ap OfLoops (is_ranked (loops.Deep p))
is_named (OfLoops (loops.Unclosed p)) = ap OfLoops (is_ranked (loops.Unclosed p))
is_named (TargetBack p) = refl
is_named (TargetPastEnd p) = refl
is_named (TargetInLoop p) = refl
is_named (Joined p) = refl
is_named (Spent p) = refl
is_named (Missing p n) = refl
is_named (Taken p n) = refl
is_named (LeftHeld p n) = refl
is_named (Changed p) = refl
is_named (NextPastEnd p) = refl
is_named Steps = refl
is_named Locks = refl
is_named Emits = refl

-- ---- the register is fixed too, where no earlier finding arises

Alone : List Instr → Finding → Type 0
Alone code f = (other : Finding) → Arises code other → Precedes other f → ⊥

missing_once : (code : List Instr) (p m n : ℕ) → Arises code (Missing p m) → Arises code (Missing p n) → m ≡ n
missing_once code p m n (i, k, x, is, empty) (j, l, y, also, void) =
    let a = x.at in let b = y.at in cc

taken_once : (code : List Instr) (p m n : ℕ) → Arises code (Taken p m) → Arises code (Taken p n) → m ≡ n
taken_once code p m n (i, k, x, is, full) (j, l, y, also, busy) =
    let a = x.at in let b = y.at in cc

same_least : (a b : Marks) (m n : ℕ) → a.held ≡ b.held → is_held a m ≡ true → ((k : ℕ) → k < m → is_held a k ≡ false)
    → is_held b n ≡ true → ((k : ℕ) → k < n → is_held b k ≡ false) → m ≡ n
same_least a b m n e held least held' least' = by (cases_order m n)
  where
    by : (m ≡ n) ⊎ ((m < n) ⊎ (n < m)) → m ≡ n
    by (inl e') = e'
    by (inr (inl lt)) = let empty = least' m lt in cc
    by (inr (inr lt)) = let empty = least n lt in cc

left_once : (code : List Instr) (p m n : ℕ) → Alone code (LeftHeld p m) → Arises code (LeftHeld p m) → Arises code (LeftHeld p n) → m ≡ n
unfolding Alone
left_once code p m n first (i, k, x, is, held, least) (j, l, y, also, held', least') =
    by (pointwise beq k.held l.held) refl
  where
    same_instr : i ≡ j
    same_instr = let a = x.at in let b = y.at in cc

    by : (b : Bool) → pointwise beq k.held l.held ≡ b → m ≡ n
    by true e = same_least k l m n (pointwise_same k.held l.held e) held least held' least'
    by false e = absurd (first (Joined p) (i, k, l, x, (let P : Instr → Type 0 = λ v. Meets code p v l in subst P (sym same_instr) y), λ same. differ same) (inr (refl, inr (refl, omega arith))))
      where
        differ : k.held ≡ l.held → ⊥
        differ same = let itself = pointwise_itself k.held in let e' : pointwise beq k.held k.held ≡ false = ap (λ h. pointwise beq k.held h) same ∙ e in cc

same_named : (code : List Instr) (pass' p r m n : ℕ) → Alone code (named pass' p r m) → Arises code (named pass' p r m) → Arises code (named pass' p r n)
    → named pass' p r m ≡ named pass' p r n
unfolding of_registers named
same_named code zero p r m n first a b = refl
same_named code (suc zero) p r m n first a b = refl
same_named code (suc (suc zero)) p r m n first a b = refl
same_named code (suc (suc (suc zero))) p zero m n first a b = refl
same_named code (suc (suc (suc zero))) p (suc zero) m n first a b = refl
same_named code (suc (suc (suc zero))) p (suc (suc zero)) m n first a b = ap (Missing p) (missing_once code p m n a b)
same_named code (suc (suc (suc zero))) p (suc (suc (suc zero))) m n first a b = ap (Taken p) (taken_once code p m n a b)
same_named code (suc (suc (suc zero))) p (suc (suc (suc (suc zero)))) m n first a b = ap (LeftHeld p) (left_once code p m n first a b)
same_named code (suc (suc (suc zero))) p (suc (suc (suc (suc (suc zero))))) m n first a b = refl
same_named code (suc (suc (suc zero))) p (suc (suc (suc (suc (suc (suc r)))))) m n first a b = refl
same_named code (suc (suc (suc (suc k)))) p r m n first a b = refl

-- ---- of two findings one comes before the other, or they are one

same_finding : (code : List Instr) (f g : Finding) → Arises code f → Arises code g → Alone code f → Alone code g → f ≡ g
unfolding Alone
same_finding code f g a b first first' = passes (cases_order (pass f) (pass g))
  where
    ranks : pass f ≡ pass g → position f ≡ position g → rank f ≡ rank g → f ≡ g
    ranks e there same =
        let as_named : named (pass f) (position f) (rank f) (register g) ≡ g
        = ap (λ k. named k (position f) (rank f) (register g)) e ∙ ap (λ p. named (pass g) p (rank f) (register g)) there
        ∙ ap (λ r. named (pass g) (position g) r (register g)) same ∙ is_named g in
        let A : Finding → Type 0 = λ h. Arises code h in
        let F : Finding → Type 0 = λ h. Alone code h in
        sym (is_named f)
        ∙ same_named code (pass f) (position f) (rank f) (register f) (register g) (subst F (sym (is_named f)) first) (subst A (sym (is_named f)) a) (subst A (sym as_named) b)
        ∙ as_named

    by_rank : pass f ≡ pass g → position f ≡ position g → (rank f ≡ rank g) ⊎ ((rank f < rank g) ⊎ (rank g < rank f)) → f ≡ g
    by_rank e there (inl same) = ranks e there same
    by_rank e there (inr (inl lt)) = absurd (first' f a (inr (e, inr (there, lt))))
    by_rank e there (inr (inr lt)) = absurd (first g b (inr (sym e, inr (sym there, lt))))

    positions : pass f ≡ pass g → (position f ≡ position g) ⊎ ((position f < position g) ⊎ (position g < position f)) → f ≡ g
    positions e (inl there) = by_rank e there (cases_order (rank f) (rank g))
    positions e (inr (inl lt)) = absurd (first' f a (inr (e, inl lt)))
    positions e (inr (inr lt)) = absurd (first g b (inr (sym e, inl lt)))

    passes : (pass f ≡ pass g) ⊎ ((pass f < pass g) ⊎ (pass g < pass f)) → f ≡ g
    passes (inl e) = positions e (cases_order (position f) (position g))
    passes (inr (inl lt)) = absurd (first' f a (inl lt))
    passes (inr (inr lt)) = absurd (first g b (inl lt))

pub one_first : (code : List Instr) (f g : VerifyFault) → IsFirstFault code f → IsFirstFault code g → f ≡ g
unfolding Alone
one_first code f g a b =
    a.fault ∙ ap fault_of (same_finding code a.finding b.finding a.arises b.arises a.first b.first) ∙ sym b.fault
