-- Requests: when two are equal, and at which entry a request is.
use Rattle.std.proofs.Common.{◌≡◌, ℕ, zero, suc, ◌+◌, ◌<◌, ◌≤◌, Bool, List, [], ◌∷◌, length, take, drop, refl, sym, ap, ◌∙◌, arith, add-one, length-take}
use Rattle.std.specs.Prelude.{ℤ, IsTrue, Some, slice_get}
use Rattle.std.specs.Cmp.Rules.{signed_items}
use Rattle.std.specs.Ordering.{int_eq}
use lib.Pointwise.{pointwise}
use Rattle.std.proofs.Math.ListN.{drop_of_length-le}
use Rattle.std.proofs.lemmas.Option.{none-some, same_Some, slice_get_within}
use Rattle.tl_table.specs.declared.receipt.Receipt.{Receipt}
use Rattle.tl_workers.specs.declared.asking.Asking.{Asking}
use Rattle.tl_workers.specs.declared.session.Did.{Did}
use Rattle.tl_workers.specs.declared.session.Did.TheVariants.{Asked, Got}
use Rattle.tl_workers.specs.Kept.{asking, AsksAt}
use Rattle.tl_workers.specs.Matching.{asked_in, asked_from, WasAsked}

-- requests for the same call with the same name are compared by their arguments
pub same_but_args : (a : Asking) (epoch call : ℕ) (name : List ℕ) (args given : List ℤ) (r : Bool) → a.epoch ≡ epoch → a.call ≡ call → a.name ≡ name → given ≡ a.args.items → r ≡ pointwise int_eq given args
    → (IsTrue r → a ≡ asking epoch call name args) × (a ≡ asking epoch call name args → IsTrue r)
same_but_args a epoch call name args given r epochs calls names same is =
    let compare = signed_items given args in (
      (λ t. let e : a.args.items ≡ args = sym same ∙ compare.0 (sym is ∙ t) in (λ i. record { epoch = epochs i; call = calls i; name = names i; args = record { items = e i } })),
      (λ e. is ∙ compare.1 (same ∙ ap (λ x. x.args.items) e)),
    )

-- ---- where a call was asked for

take_at : (dids : List Did) (n i : ℕ) → i < n → slice_get (take n dids) i ≡ slice_get dids i
take_at [] zero i lt = refl
take_at [] (suc n) i lt = refl
take_at (d ∷ dids) zero i lt = absurd (omega (arith, lt))
take_at (d ∷ dids) (suc n) zero lt = refl
take_at (d ∷ dids) (suc n) (suc i) lt = take_at dids n i (omega (arith, lt))

-- before an entry
pub was_asked_at : (dids : List Did) (place i e c : ℕ) → i < place → AsksAt dids i e c → WasAsked (take place dids) e c
was_asked_at dids place i e c lt h = (i, h.0, take_at dids place i lt ∙ h.1, h.2, h.3)

pub asked_before : (dids : List Did) (place e c : ℕ) → WasAsked (take place dids) e c → (i : ℕ) × (i < place) × AsksAt dids i e c
asked_before dids place e c h =
    let within = slice_get_within (take place dids) h.0 (Asked h.1) h.2 in
    let long = length-take place dids in
    let lt : h.0 < place = omega (arith, within, long) in
    (h.0, lt, (h.1, sym (take_at dids place h.0 lt) ∙ h.2, h.3, h.4))

-- ---- what was asked for from a place on

from_next : (dids : List Did) (i : ℕ) (did : Did) → slice_get dids i ≡ Some did → drop i dids ≡ did ∷ drop (suc i) dids
from_next [] i did at = absurd (none-some did at)
from_next (d ∷ dids) zero did at = ap (λ x. x ∷ dids) (same_Some d did at)
from_next (d ∷ dids) (suc i) did at = from_next dids i did at

-- the entry at i is a request
pub asked_here : (dids : List Did) (i : ℕ) (a : Asking) → slice_get dids i ≡ Some (Asked a) → asked_from dids i ≡ a ∷ asked_from dids (i + 1)
asked_here dids i a at = ap asked_in (from_next dids i (Asked a) at) ∙ ap (λ k. a ∷ asked_from dids k) (sym (add-one i))

-- the entry at i is a receipt
pub got_here : (dids : List Did) (i : ℕ) (r : Receipt) → slice_get dids i ≡ Some (Got r) → asked_from dids i ≡ asked_from dids (i + 1)
got_here dids i r at = ap asked_in (from_next dids i (Got r) at) ∙ ap (asked_from dids) (sym (add-one i))

pub none_here : (dids : List Did) (i : ℕ) → length dids ≤ i → asked_from dids i ≡ []
none_here dids i le = ap asked_in (drop_of_length-le dids le)
