-- Batches: admissions and answers, request by request.
use Rattle.std.proofs.Common.{◌≡◌, ℕ, suc, ◌<◌, ◌+◌, List, [], ◌∷◌, ◌++◌, length, take, get_or, refl, sym, ap, ◌∙◌, subst, add-one}
use Rattle.std.specs.Prelude.{Ok, Err, Result, string_bytes}
use Rattle.std.proofs.Math.Seq.{take-suc}
use Rattle.std.proofs.lemmas.List.{append-nil}
use Rattle.tl_table.specs.declared.receipt.Receipt.{Receipt}
use Rattle.tl_workers.specs.declared.asking.Asking.{Asking}
use Rattle.tl_procedures.specs.declared.request.Request.{Request}
use Rattle.tl_workers.specs.declared.refusal.Refusal.{Refusal}
use Rattle.tl_workers.specs.declared.session.Did.{Did}
use Rattle.tl_workers.specs.declared.session.Did.TheVariants.{Asked}
use Rattle.tl_workers.specs.Kept.{SessionValue, Gains, asking, Answers, AnswersEach, AsksFor, AdmittedEach, ReceiptsEach, asked_of, askings_of}

-- ---- a whole batch

pub admitted_long : (qs : List Request) (all : List (Result Asking Refusal)) → AdmittedEach qs all → length all ≡ length qs
admitted_long [] [] h = refl
admitted_long [] (a ∷ all) h = absurd h
admitted_long (q ∷ qs) [] h = absurd h
admitted_long (q ∷ qs) (Ok a ∷ all) h = ap suc (admitted_long qs all h.2)
admitted_long (q ∷ qs) (Err e ∷ all) h = ap suc (admitted_long qs all h)

pub receipts_long : (all : List (Result Asking Refusal)) (rs : List (Result Receipt Refusal)) → ReceiptsEach all rs → length rs ≡ length all
receipts_long [] [] h = refl
receipts_long [] (r ∷ rs) h = absurd h
receipts_long (Ok a ∷ all) [] h = absurd h
receipts_long (Ok a ∷ all) (Ok r ∷ rs) h = ap suc (receipts_long all rs h.3)
receipts_long (Ok a ∷ all) (Err f ∷ rs) h = absurd h
receipts_long (Err e ∷ all) [] h = absurd h
receipts_long (Err e ∷ all) (Ok r ∷ rs) h = absurd h
receipts_long (Err e ∷ all) (Err f ∷ rs) h = ap suc (receipts_long all rs h.1)

pub answers_each : (qs : List Request) (all : List (Result Asking Refusal)) (rs : List (Result Receipt Refusal)) → AdmittedEach qs all → ReceiptsEach all rs → AnswersEach qs rs
answers_each [] [] [] h g = tt
answers_each [] [] (r ∷ rs) h g = absurd g
answers_each [] (a ∷ all) rs h g = absurd h
answers_each (q ∷ qs) [] rs h g = absurd h
answers_each (q ∷ qs) (Ok a ∷ all) [] h g = absurd g
answers_each (q ∷ qs) (Ok a ∷ all) (Ok r ∷ rs) h g = (g.2 ∙ h.1, answers_each qs all rs h.2 g.3)
answers_each (q ∷ qs) (Ok a ∷ all) (Err f ∷ rs) h g = absurd g
answers_each (q ∷ qs) (Err e ∷ all) [] h g = absurd g
answers_each (q ∷ qs) (Err e ∷ all) (Ok r ∷ rs) h g = absurd g
answers_each (q ∷ qs) (Err e ∷ all) (Err f ∷ rs) h g = answers_each qs all rs h g.1

same_asking : (a : Asking) (q : Request) (r : Receipt) → a.name ≡ string_bytes q.name → a.args.items ≡ q.args.items → r.epoch ≡ a.epoch → r.call ≡ a.call → asking r.epoch r.call (string_bytes q.name) q.args.items ≡ a
same_asking a q r names args epoch call = (λ i. record { epoch = epoch i; call = call i; name = sym names i; args = record { items = sym args i } })

pub asked_are : (qs : List Request) (all : List (Result Asking Refusal)) (rs : List (Result Receipt Refusal)) → AdmittedEach qs all → ReceiptsEach all rs → askings_of all ≡ asked_of qs rs
asked_are [] [] [] h g = refl
asked_are [] [] (r ∷ rs) h g = absurd g
asked_are [] (a ∷ all) rs h g = absurd h
asked_are (q ∷ qs) [] rs h g = absurd h
asked_are (q ∷ qs) (Ok a ∷ all) [] h g = absurd g
asked_are (q ∷ qs) (Ok a ∷ all) (Ok r ∷ rs) h g = (λ i. Asked (sym (same_asking a q r h.0 h.1 g.0 g.1) i) ∷ asked_are qs all rs h.2 g.3 i)
asked_are (q ∷ qs) (Ok a ∷ all) (Err f ∷ rs) h g = absurd g
asked_are (q ∷ qs) (Err e ∷ all) [] h g = absurd g
asked_are (q ∷ qs) (Err e ∷ all) (Ok r ∷ rs) h g = absurd g
asked_are (q ∷ qs) (Err e ∷ all) (Err f ∷ rs) h g = asked_are qs all rs h g.1

-- ---- one request more

admitted-push : (qs : List Request) (all : List (Result Asking Refusal)) (q : Request) (a : Result Asking Refusal) → AdmittedEach qs all → AsksFor q a → AdmittedEach (qs ++ q ∷ []) (all ++ a ∷ [])
admitted-push [] [] q (Ok x) h e = (e.0, e.1, tt)
admitted-push [] [] q (Err x) h e = tt
admitted-push [] (a ∷ all) q x h e = absurd h
admitted-push (p ∷ qs) [] q x h e = absurd h
admitted-push (p ∷ qs) (Ok y ∷ all) q x h e = (h.0, h.1, admitted-push qs all q x h.2 e)
admitted-push (p ∷ qs) (Err y ∷ all) q x h e = admitted-push qs all q x h e

pub admitted-next : (qs : List Request) (i : ℕ) (all now : List (Result Asking Refusal)) (d : Request) (a : Result Asking Refusal) → i < length qs → AdmittedEach (take i qs) all
    → AsksFor (get_or qs i d) a → now ≡ all ++ a ∷ [] → AdmittedEach (take (i + 1) qs) now
admitted-next qs i all now d a lt h e is =
    let P : List Request → Type 0 = λ xs. AdmittedEach xs now in
    let Q : List (Result Asking Refusal) → Type 0 = λ ys. AdmittedEach (take i qs ++ get_or qs i d ∷ []) ys in
    subst P (sym (ap (λ k. take k qs) (add-one i) ∙ take-suc qs i d lt)) (subst Q (sym is) (admitted-push (take i qs) all (get_or qs i d) a h e))

receipts-push : (all : List (Result Asking Refusal)) (rs : List (Result Receipt Refusal)) (a : Result Asking Refusal) (r : Result Receipt Refusal) → ReceiptsEach all rs → Answers a r → ReceiptsEach (all ++ a ∷ []) (rs ++ r ∷ [])
receipts-push [] [] (Ok a) (Ok r) h e = (e.0, e.1, e.2, tt)
receipts-push [] [] (Ok a) (Err f) h e = absurd e
receipts-push [] [] (Err x) (Ok r) h e = absurd e
receipts-push [] [] (Err x) (Err f) h e = (e, tt)
receipts-push [] (r ∷ rs) a x h e = absurd h
receipts-push (Ok a ∷ all) [] b x h e = absurd h
receipts-push (Ok a ∷ all) (Ok r ∷ rs) b x h e = (h.0, h.1, h.2, receipts-push all rs b x h.3 e)
receipts-push (Ok a ∷ all) (Err f ∷ rs) b x h e = absurd h
receipts-push (Err y ∷ all) [] b x h e = absurd h
receipts-push (Err y ∷ all) (Ok r ∷ rs) b x h e = absurd h
receipts-push (Err y ∷ all) (Err f ∷ rs) b x h e = (h.0, receipts-push all rs b x h.1 e)

pub receipts-next : (all : List (Result Asking Refusal)) (i : ℕ) (rs now : List (Result Receipt Refusal)) (d : Result Asking Refusal) (r : Result Receipt Refusal) → i < length all → ReceiptsEach (take i all) rs
    → Answers (get_or all i d) r → now ≡ rs ++ r ∷ [] → ReceiptsEach (take (i + 1) all) now
receipts-next all i rs now d r lt h e is =
    let P : List (Result Asking Refusal) → Type 0 = λ xs. ReceiptsEach xs now in
    let Q : List (Result Receipt Refusal) → Type 0 = λ ys. ReceiptsEach (take i all ++ get_or all i d ∷ []) ys in
    subst P (sym (ap (λ k. take k all) (add-one i) ∙ take-suc all i d lt)) (subst Q (sym is) (receipts-push (take i all) rs (get_or all i d) r h e))

-- first nothing is gained, and then these entries
pub gains_then : (a b c : SessionValue) (xs ys : List Did) → Gains a b [] → Gains b c xs → xs ≡ ys → Gains a c ys
gains_then a b c xs ys h g e = record {
  number = g.number ∙ h.number;
  kept = g.kept ∙ ap (λ k. k ++ xs) (h.kept ∙ append-nil a.kept) ∙ ap (λ more. a.kept ++ more) e;
}
