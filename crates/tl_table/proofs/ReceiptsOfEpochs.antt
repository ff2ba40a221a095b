-- The receipt of a call of one of a table's epochs.
use Rattle.std.proofs.Common.{◌≡◌, ◌≢◌, ◌↔◌, ℕ, zero, suc, List, [], ◌∷◌, ◌++◌, length, Option, Some, None, Result, Ok, Err, refl, sym, ap, ◌∙◌, subst}
use Rattle.std.specs.Prelude.{IfOk, IfErr, IfSome, IsOk, MatchOption, slice_get}
use Rattle.std.proofs.lemmas.Option.{none-some, same_Some}
use Rattle.tl_core.specs.declared.fault.CoreFault.TheVariants as core_fault
use Rattle.tl_table.specs.declared.fault.TableFault.{TableFault}
use Rattle.tl_table.specs.declared.fault.TableFault.TheVariants as fault
use Rattle.tl_table.specs.declared.receipt.Receipt.{Receipt}
use Rattle.tl_table.specs.Epochs.{EpochValue, IsKnown, Stands}

pub receipt_call : {E : Type 0} (P : Type 0) (r : Result (Option Receipt) E) (e : EpochValue) (n c : ℕ) → e.number ≡ n
    → IfOk r (λ o. MatchOption o P (λ x. (x.call ≡ c) × Stands e x)) → IfOk r (λ o. IfSome o (λ x. (x.epoch ≡ n) × (x.call ≡ c)))
receipt_call P (Ok (Some x)) e n c at h = (h.1.epoch ∙ at, h.0)
receipt_call P (Ok None) e n c at h = tt
receipt_call P (Err f) e n c at h = tt

at_front : (es more : List EpochValue) (n : ℕ) (e : EpochValue) → slice_get es n ≡ Some e → slice_get (es ++ more) n ≡ Some e
at_front [] more n e at = absurd (none-some e at)
at_front (f ∷ es) more zero e at = at
at_front (f ∷ es) more (suc n) e at = at_front es more n e at

pub receipt_fault : {X : Type 0} (r : Result X TableFault) (es more : List EpochValue) (e : EpochValue) (n c : ℕ) → slice_get es n ≡ Some e → (IsOk r ↔ IsKnown e c)
    → IfErr r (λ f. f ≡ fault.Core core_fault.NoCall)
    → IfErr r (λ f. (f ≡ fault.Core core_fault.NoCall) × ((g : EpochValue) → slice_get (es ++ more) n ≡ Some g → IsKnown g c → ⊥))
receipt_fault (Ok x) es more e n c at known err = tt
receipt_fault (Err f) es more e n c at known err = (
  err,
  (λ g there k.
      let same : e ≡ g = same_Some e g (sym (at_front es more n e at) ∙ there) in
      let ok = known.1 (subst (λ x. IsKnown x c) (sym same) k) in
      absurd (let z : ⊥ = cc in z)),
)

pub no_epoch : (es : List EpochValue) (last : EpochValue) (n : ℕ) (e : EpochValue) → slice_get es n ≡ None → n ≢ length es → slice_get (es ++ last ∷ []) n ≡ Some e → ⊥
no_epoch [] last zero e out other at = other refl
no_epoch [] last (suc n) e out other at = none-some e at
no_epoch (f ∷ es) last zero e out other at = let z : ⊥ = cc in z
no_epoch (f ∷ es) last (suc n) e out other at = no_epoch es last n e out (λ same. other (ap suc same)) at
