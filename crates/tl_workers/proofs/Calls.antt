-- The calls of a session.
use Rattle.std.proofs.Common.{◌≡◌, ◌⊎◌, ⊎_elim, inl, inr, ℕ, zero, suc, ◌+◌, ◌<◌, Bool, true, false, List, [], ◌∷◌, ◌++◌, length, refl, sym, ap, ◌∙◌, arith}
use Rattle.std.specs.Prelude.{◌==◌, if◌then◌else◌, Some, slice_get}
use Rattle.std.proofs.lemmas.Option.{none-some}
use Rattle.tl_tree.specs.Records.{Records}
use Rattle.tl_tree_locking.specs.History.{records_now}
use Rattle.tl_procedures.specs.Names.{Named}
use Rattle.tl_table.specs.Epochs.{EpochValue, seen, IsKnown}
use Rattle.tl_table.specs.Tables.{InLine, IsChain}
use Rattle.tl_workers.specs.declared.asking.Asking.{Asking}
use Rattle.tl_workers.specs.declared.session.Did.{Did}
use Rattle.tl_workers.specs.declared.session.Did.TheVariants.{Asked, Got}
use Rattle.tl_workers.specs.Matching.{asked_in, asking_of, calls_from, calls_of, all_calls_of, GotsStand, AreKnown}

-- each is a call with this number or a higher one, and with an owner
below_case : (e : EpochValue) (n : ℕ) (owners : List ℕ) (s : ℕ) (test : Bool) → ((k : ℕ) (a : Asking) → slice_get (calls_from e (n + 1) owners s) k ≡ Some a → a.call < (n + 1) + length owners)
    → (k : ℕ) (a : Asking) → slice_get (if test then asking_of e n ∷ calls_from e (n + 1) owners s else calls_from e (n + 1) owners s) k ≡ Some a → a.call < n + (1 + length owners)
below_case e n owners s true later zero a at = let at_n : a.call ≡ n = (let same : asking_of e n ≡ a = cc in sym (ap (λ x. x.call) same)) in omega (arith, at_n)
below_case e n owners s true later (suc k) a at = let l = later k a at in omega (arith, l)
below_case e n owners s false later k a at = let l = later k a at in omega (arith, l)

calls_below : (e : EpochValue) (n : ℕ) (owners : List ℕ) (s : ℕ) (k : ℕ) (a : Asking) → slice_get (calls_from e n owners s) k ≡ Some a → a.call < n + length owners
calls_below e n [] s k a at = absurd (none-some a at)
calls_below e n (o ∷ owners) s k a at = let l = below_case e n owners s (o == s) (calls_below e (n + 1) owners s) k a at in omega (arith, l)

-- the position among the requests
place_asked : (dids : List Did) (j : ℕ) (a : Asking) → slice_get dids j ≡ Some (Asked a) → (k : ℕ) × (slice_get (asked_in dids) k ≡ Some a)
place_asked [] j a at = absurd (none-some (Asked a) at)
place_asked (Asked b ∷ dids) zero a at = (zero, cc)
place_asked (Asked b ∷ dids) (suc j) a at = let p = place_asked dids j a at in (suc p.0, p.1)
place_asked (Got r ∷ dids) zero a at = absurd (let e : ⊥ = cc in e)
place_asked (Got r ∷ dids) (suc j) a at = place_asked dids j a at

-- each is a call of this epoch
epoch_case : (e : EpochValue) (n : ℕ) (owners : List ℕ) (s : ℕ) (test : Bool) → ((k : ℕ) (a : Asking) → slice_get (calls_from e (n + 1) owners s) k ≡ Some a → a.epoch ≡ e.number)
    → (k : ℕ) (a : Asking) → slice_get (if test then asking_of e n ∷ calls_from e (n + 1) owners s else calls_from e (n + 1) owners s) k ≡ Some a → a.epoch ≡ e.number
epoch_case e n owners s true later zero a at = let same : asking_of e n ≡ a = cc in sym (ap (λ x. x.epoch) same)
epoch_case e n owners s true later (suc k) a at = later k a at
epoch_case e n owners s false later k a at = later k a at

calls_epoch : (e : EpochValue) (n : ℕ) (owners : List ℕ) (s : ℕ) (k : ℕ) (a : Asking) → slice_get (calls_from e n owners s) k ≡ Some a → a.epoch ≡ e.number
calls_epoch e n [] s k a at = absurd (none-some a at)
calls_epoch e n (o ∷ owners) s k a at = epoch_case e n owners s (o == s) (calls_epoch e (n + 1) owners s) k a at

at_append : (xs ys : List Asking) (k : ℕ) (a : Asking) → slice_get (xs ++ ys) k ≡ Some a → (slice_get xs k ≡ Some a) ⊎ ((j : ℕ) × (slice_get ys j ≡ Some a))
at_append [] ys k a at = inr (k, at)
at_append (x ∷ xs) ys zero a at = inl at
at_append (x ∷ xs) ys (suc k) a at = at_append xs ys k a at

-- the epoch with number n or higher that has the call
pub record IsCallIn (es : List EpochValue) (n : ℕ) (a : Asking) : Type 0 where
  pub place : ℕ
  pub epoch : EpochValue
  pub there : slice_get es place ≡ Some epoch
  pub numbered : a.epoch ≡ n + place
  pub known : IsKnown epoch a.call

one_later : (e : EpochValue) (es : List EpochValue) (n : ℕ) (a : Asking) → IsCallIn es (n + 1) a → IsCallIn (e ∷ es) n a
one_later e es n a h = record { place = suc h.place; epoch = h.epoch; there = h.there; numbered = (let q = h.numbered in omega (arith, q)); known = h.known }

call_in : (n : ℕ) (parents : List ℕ) (opening : Records) (procedures : List Named) (es : List EpochValue) → InLine n parents opening procedures es → (s k : ℕ) (a : Asking)
    → slice_get (all_calls_of es s) k ≡ Some a → IsCallIn es n a
call_in n parents opening procedures [] line s k a at = absurd (none-some a at)
call_in n parents opening procedures (e ∷ es) line s k a at = ⊎_elim
    (λ (own : slice_get (calls_of e s) k ≡ Some a).
    let lt = calls_below e 0 e.owners s k a own in
    let owned = line.1.owned.each in
    record {
      place = zero;
      epoch = e;
      there = refl;
      numbered = (let q = calls_epoch e 0 e.owners s k a own in let r = line.0.number in omega (arith, q, r));
      known = omega (arith, lt, owned);
    })
    (λ (later : (j : ℕ) × (slice_get (all_calls_of es s) j ≡ Some a)). one_later e es n a (call_in (n + 1) parents (records_now (seen e).past (seen e).opening) (seen e).procedures es line.2 s later.0 a later.1))
    (at_append (calls_of e s) (all_calls_of es s) k a at)

pub known_entries : (es : List EpochValue) → IsChain es → (dids : List Did) (s : ℕ) → asked_in dids ≡ all_calls_of es s → GotsStand es dids → AreKnown es dids
unfolding GotsStand AreKnown
known_entries es chain dids s asked gots i (Asked a) at =
    let p = place_asked dids i a at in
    let h = call_in 0 chain.parents chain.opening [] es chain.line s p.0 a (sym (ap (λ xs. slice_get xs p.0) asked) ∙ p.1) in
    let number : a.epoch ≡ h.place = (let q = h.numbered in omega (arith, q)) in
    (h.epoch, ap (slice_get es) number ∙ h.there, h.known)
known_entries es chain dids s asked gots i (Got r) at = (gots i (Got r) at).0
