-- The answer to a line.
use Rattle.std.proofs.Common.{◌≡◌, ◌≢◌, ◌+◌, ◌<◌, ◌⊎◌, ◌++◌, List, ℕ, ℤ, [], refl, sym, subst, ◌∙◌, inl, inr, Bool, true, false}
use Rattle.std.specs.Prelude.{◌↔◌, Result, Ok, Err, IfOk, IfErr, OnErr, Vec}
use Rattle.std.specs.declared.alloc.Global.{Global}
use Rattle.tl_procedures.specs.declared.request.Request.{Request}
use Rattle.tl_table.specs.declared.receipt.Receipt.{Receipt}
use Rattle.tl_workers.specs.declared.refusal.Refusal.TheVariants as refusal
use Rattle.tl_workers.specs.Kept.{SessionValue, Gains, AnswersEach, asked_of, call_of, gots_of}
use Rattle.tl_server.specs.Outcomes.{BatchOutcome, IsCalledOnce}
use Rattle.tl_server.specs.declared.outcome.RequestOutcome.TheVariants.{Called}
use Rattle.tl_server.specs.declared.journal.Claim.{Claim}
use Rattle.tl_server.specs.declared.journal.Claim.TheVariants.{Granted, NoStore}
use Rattle.tl_workers.specs.declared.refusal.Refusal.{Refusal}
use Rattle.tl_table.specs.declared.epoch.TheConstants.{MAX_EPOCHS}
use Rattle.tl_workers.specs.Refusals.{IsCallRefusal, AreCallRefusals, IsSealRefused, IsRestedSealRefused}
use Rattle.tl_server.specs.declared.fault.LineFault.{LineFault}
use Rattle.tl_server.specs.declared.fault.LineFault.TheVariants as fault
use Rattle.tl_server.specs.Faults.{numbers_of, ruling_numbers_of}
use Rattle.tl_server.specs.declared.fault.RulingFault.TheVariants.{Frozen}
use Rattle.tl_workers.specs.declared.session.Did.{Did}
use Rattle.tl_server.specs.Requests.{LineValue, is_barred, IsRequest, IsLineFault}
use Rattle.tl_server.specs.Answers.{line_text, error_text}
use Rattle.tl_server.specs.Served.{keying, Ways, AnswersLine, AnswersRequest, AnswersUnless, IsRefused, IsSealable, SealOutcome}

-- a line that isn't read as a request
pub faulted : (ways : Ways) (may_seal : ℕ → Type 0) (line : List ℕ) (f : LineFault) → (f ≢ fault.Memory → IsLineFault line f) → AnswersLine ways may_seal line [] (line_text (error_text (numbers_of f)))
faulted ways may_seal line fault.NotRequest h = inr (inl (fault.NotRequest, h (λ e. cc), refl, refl))
faulted ways may_seal line fault.TooLong h = inr (inl (fault.TooLong, h (λ e. cc), refl, refl))
faulted ways may_seal line fault.NotUtf8 h = inr (inl (fault.NotUtf8, h (λ e. cc), refl, refl))
faulted ways may_seal line fault.Memory h = inl (refl, refl)

-- the result of a seal
pub seal_outcome : (seals : Bool) (answer : Result ℕ Refusal) → IfOk answer (λ n. n + 1 < MAX_EPOCHS) → IfErr answer (λ e. IsSealRefused e) → (seals ≡ true → IfErr answer IsRestedSealRefused)
    → SealOutcome seals IsSealable answer
seal_outcome seals (Ok epoch) few h rested = few
seal_outcome seals (Err e) few h rested = (h, rested)

-- the call that was run since its key was free
pub granted : (storing : Bool) (claim : Claim) (seals : Bool) (q : List ℕ × List ℤ) (s t : SessionValue) (answer : Result Receipt Refusal) → ((claim ≡ NoStore) ↔ (storing ≡ false)) → claim ≡ Granted
    → IfOk answer (λ r. r.args.items ≡ q.1) → IfOk answer (λ r. Gains s t (call_of q.0 q.1 r)) → OnErr answer (Gains s t []) → IfErr answer (IsCallRefusal seals)
    → (own : List Did) × Gains s t own × IsCalledOnce (keying storing) seals q own (Called answer)
granted true claim seals q s t (Ok r) none is args kept err refused = (call_of q.0 q.1 r, kept, (args, refl))
granted true claim seals q s t (Err e) none is args kept err refused = ([], err, (refl, refused))
granted false claim seals q s t answer none is args kept err refused = let both : Granted ≡ NoStore = sym is ∙ none.1 refl in absurd cc

-- the answer to a request is the answer to a line that contains it
pub asked_line : (ways : Ways) (may_seal : ℕ → Type 0) (line : List ℕ) (r : LineValue) (gained : List Did) (out : List ℕ) → IsRequest line r → is_barred ways.frozen r ≡ false → (IsRefused gained out ⊎ AnswersRequest ways may_seal r gained out)
    → AnswersLine ways may_seal line gained out
asked_line ways may_seal line r gained out is free (inl refused) = inl refused
asked_line ways may_seal line r gained out is free (inr answer) =
    let P : Bool → Type 0 = λ b. AnswersUnless b ways may_seal r gained out in
    inr (inr (r, is, subst P (sym free) answer))

-- a request that is barred
pub barred_line : (ways : Ways) (may_seal : ℕ → Type 0) (line : List ℕ) (r : LineValue) → IsRequest line r → is_barred ways.frozen r ≡ true → AnswersLine ways may_seal line [] (line_text (error_text (ruling_numbers_of Frozen)))
barred_line ways may_seal line r is barred =
    let P : Bool → Type 0 = λ b. AnswersUnless b ways may_seal r [] (line_text (error_text (ruling_numbers_of Frozen))) in
    inr (inr (r, is, subst P (sym barred) (refl, refl)))

-- the result of a batch
pub batch_came : (requests : List Request) (s t : SessionValue) (seals : Bool) (answer : Result (Vec (Result Receipt Refusal) Global) Refusal) → IfOk answer (λ v. AnswersEach requests v.items)
    → IfOk answer (λ v. AreCallRefusals seals v.items) → IfOk answer (λ v. Gains s t (asked_of requests v.items ++ gots_of v.items)) → IfErr answer (λ e. (e ≡ refusal.Memory) × Gains s t [])
    → (x : List Did) × Gains s t x × BatchOutcome seals requests x answer
batch_came requests s t seals (Ok v) each refused kept err = (asked_of requests v.items ++ gots_of v.items, kept, (each, refused, refl))
batch_came requests s t seals (Err e) each refused kept err = ([], err.1, (refl, err.0))
