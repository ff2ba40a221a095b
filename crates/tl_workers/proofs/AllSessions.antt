-- All sessions of a table together request each call once, and each session finds its own writes.
use Rattle.std.proofs.Common.{◌≡◌, ◌≢◌, ⊎_elim, ℕ, zero, suc, ◌+◌, ◌<◌, Bool, true, false, List, [], ◌∷◌, ◌++◌, length, get_or, sym, ap, ◌∙◌, subst, inl, inr, arith, All, refl}
use Rattle.std.specs.Prelude.{◌==◌, ◌&&◌, if◌then◌else◌, Some, slice_get, sum_by, count_by}
use Rattle.std.proofs.lemmas.Bool.{cases_Bool, eq-eqb, ne_eqb}
use Rattle.std.proofs.lemmas.List.Elements.{All-head, All-tail}
use Rattle.std.proofs.lemmas.List.Sums.{sum_by-cons, sum_by-append}
use Rattle.std.proofs.lemmas.Option.{none-some, same_Some}
use Rattle.tl_tree.specs.Records.{Records}
use Rattle.tl_tree_locking.specs.Actions.{locked}
use Rattle.tl_tree_locking.specs.History.{part_of, records_now}
use Rattle.tl_procedures.specs.Names.{Named}
use Rattle.tl_table.specs.Ends.{EndsBefore}
use Rattle.tl_table.specs.Epochs.{EpochValue, seen, owner_of, IsKnown}
use Rattle.tl_table.specs.Tables.{epoch_world, InLine, IsChain}
use Rattle.tl_table.specs.Finding.{FindsWhatWasLeft}
use Rattle.tl_table.proofs.AcrossEpochs.{finds_across}
use Rattle.tl_table.proofs.Finding.{finds_what_was_left}
use Rattle.tl_workers.specs.declared.asking.Asking.{Asking}
use Rattle.tl_workers.specs.declared.session.Did.{Did}
use Rattle.tl_workers.specs.declared.session.Did.TheVariants.{Asked, Got}
use Rattle.tl_workers.specs.Kept.{SessionValue}
use Rattle.tl_workers.specs.Matching.{asked_in, asking_of, calls_from, calls_of, all_calls_of, past_at, GoInTurn, Matches}
use Rattle.tl_workers.specs.Sessions.{asks_for, times_asked, AreAllOf, AskForEachOnce, FindsItsWrites}
use Rattle.tl_workers.proofs.Turns.{rested_at, past_is}

-- ---- one session

abbrev is_of : ℕ → ℕ → Asking → Bool
is_of n c a = (a.epoch == n) && (a.call == c)

count-cons : {X : Type 0} (p : X → Bool) (x : X) (xs : List X) → count_by p (x ∷ xs) ≡ (if p x then 1 else 0) + count_by p xs
count-cons p x xs = sum_by-cons (λ y. if p y then 1 else 0) x xs

counted-asked : (n c : ℕ) (dids : List Did) → count_by (asks_for n c) dids ≡ count_by (is_of n c) (asked_in dids)
counted-asked n c [] = refl
counted-asked n c (Asked a ∷ dids) =
    count-cons (asks_for n c) (Asked a) dids ∙ ap (λ k. (if is_of n c a then 1 else 0) + k) (counted-asked n c dids) ∙ sym (count-cons (is_of n c) a (asked_in dids))
counted-asked n c (Got r ∷ dids) = let e = count-cons (asks_for n c) (Got r) dids in let h = counted-asked n c dids in omega (arith, e, h)

-- whether it is this call of the epoch
is_own : (e : EpochValue) (k : ℕ) → is_of e.number k (asking_of e k) ≡ true
is_own e k = let p = eq-eqb e.number e.number refl in let q = eq-eqb k k refl in rw (p, q) refl

is_other_call : (e : EpochValue) (j k : ℕ) → j ≢ k → is_of e.number k (asking_of e j) ≡ false
is_other_call e j k ne = let p = eq-eqb e.number e.number refl in let q = ne_eqb j k ne in rw (p, q) refl

is_other_epoch : (e : EpochValue) (n c j : ℕ) → e.number ≢ n → is_of n c (asking_of e j) ≡ false
is_other_epoch e n c j ne = let p = ne_eqb e.number n ne in rw p refl

-- one more call, which isn't the one that is counted
counted-past : (p : Asking → Bool) (a : Asking) (rest : List Asking) (k : ℕ) → p a ≡ false → count_by p rest ≡ k → count_by p (a ∷ rest) ≡ k
counted-past p a rest k other h =
    let e : count_by p (a ∷ rest) ≡ 0 + count_by p rest = count-cons p a rest ∙ ap (λ (b : Bool). (if b then 1 else 0) + count_by p rest) other in
    omega (arith, e, h)

-- it isn't among calls with higher numbers
counted-higher : (e : EpochValue) (n : ℕ) (owners : List ℕ) (s c : ℕ) → c < n → count_by (is_of e.number c) (calls_from e n owners s) ≡ 0
counted-higher e n [] s c lt = refl
counted-higher e n (o ∷ owners) s c lt =
    let rest = counted-higher e (n + 1) owners s c (omega arith) in
    elim (cases_Bool (o == s)) [
      | inl h ↦ rw h (counted-past (is_of e.number c) (asking_of e n) (calls_from e (n + 1) owners s) 0 (is_other_call e n c (λ w. omega arith)) rest)
      | inr h ↦ rw h rest
    ]

-- it isn't among the calls of another epoch
counted-other : (e : EpochValue) (n : ℕ) (owners : List ℕ) (s m c : ℕ) → e.number ≢ m → count_by (is_of m c) (calls_from e n owners s) ≡ 0
counted-other e n [] s m c ne = refl
counted-other e n (o ∷ owners) s m c ne =
    let rest = counted-other e (n + 1) owners s m c ne in
    elim (cases_Bool (o == s)) [
      | inl h ↦ rw h (counted-past (is_of m c) (asking_of e n) (calls_from e (n + 1) owners s) 0 (is_other_epoch e m c n ne) rest)
      | inr h ↦ rw h rest
    ]

-- the call of the k-th owner
counted-own : (e : EpochValue) (n : ℕ) (owners : List ℕ) (s k : ℕ) → k < length owners → count_by (is_of e.number (n + k)) (calls_from e n owners s) ≡ (if get_or owners k 0 == s then 1 else 0)
counted-own e n [] s k lt = absurd (omega arith)
counted-own e n (o ∷ owners) s zero lt =
    let none = counted-higher e (n + 1) owners s (n + 0) (omega arith) in
    elim (cases_Bool (o == s)) [
      | inl h ↦
          let at : n + 0 ≡ n = omega arith in
          let own : is_of e.number (n + 0) (asking_of e n) ≡ true = subst (λ m. is_of e.number m (asking_of e n) ≡ true) (sym at) (is_own e n) in
          rw h (count-cons (is_of e.number (n + 0)) (asking_of e n) (calls_from e (n + 1) owners s)
          ∙ ap (λ (b : Bool). (if b then 1 else 0) + count_by (is_of e.number (n + 0)) (calls_from e (n + 1) owners s)) own ∙ ap (λ k. 1 + k) none)
      | inr h ↦ rw h none
    ]
counted-own e n (o ∷ owners) s (suc k) lt =
    let same : (n + 1) + k ≡ n + suc k = omega arith in
    let lt2 : k < length owners = omega arith in
    let rest : count_by (is_of e.number (n + suc k)) (calls_from e (n + 1) owners s) ≡ (if get_or owners k 0 == s then 1 else 0)
    = subst (λ m. count_by (is_of e.number m) (calls_from e (n + 1) owners s) ≡ (if get_or owners k 0 == s then 1 else 0)) same (counted-own e (n + 1) owners s k lt2) in
    elim (cases_Bool (o == s)) [
      | inl h ↦ rw h (counted-past (is_of e.number (n + suc k)) (asking_of e n) (calls_from e (n + 1) owners s) (if get_or owners k 0 == s then 1 else 0) (is_other_call e n (n + suc k) (λ w. omega arith)) rest)
      | inr h ↦ rw h rest
    ]

-- ---- all epochs

count-append : (p : Asking → Bool) (xs ys : List Asking) → count_by p (xs ++ ys) ≡ count_by p xs + count_by p ys
count-append p xs ys = sum_by-append (λ y. if p y then 1 else 0) xs ys

-- it isn't among the calls of epochs with higher numbers
counted-later : (k : ℕ) (parents : List ℕ) (opening : Records) (procedures : List Named) (es : List EpochValue) → InLine k parents opening procedures es → (s n c : ℕ) → n < k
    → count_by (is_of n c) (all_calls_of es s) ≡ 0
counted-later k parents opening procedures [] line s n c lt = refl
counted-later k parents opening procedures (e ∷ es) line s n c lt =
    let number = line.0.number in
    let own = counted-other e 0 e.owners s n c (λ w. omega (arith, number, w, lt)) in
    let rest = counted-later (k + 1) parents (records_now (seen e).past (seen e).opening) (seen e).procedures es line.2 s n c (omega (arith, lt)) in
    let both = count-append (is_of n c) (calls_of e s) (all_calls_of es s) in
    omega (arith, own, rest, both)

counted-in : (k : ℕ) (parents : List ℕ) (opening : Records) (procedures : List Named) (es : List EpochValue) → InLine k parents opening procedures es → (i : ℕ) (e : EpochValue)
    → slice_get es i ≡ Some e → (s c : ℕ) → IsKnown e c → count_by (is_of (k + i) c) (all_calls_of es s) ≡ (if owner_of e c == s then 1 else 0)
counted-in k parents opening procedures [] line i e at s c known = absurd (none-some e at)
counted-in k parents opening procedures (f ∷ es) line zero e at s c known =
    let same = same_Some f e at in
    let number : f.number ≡ k + 0 = (let q = line.0.number in omega (arith, q)) in
    let owned = line.1.owned.each in
    let known2 : c < length (seen f).calls = subst (λ g. c < length (seen g).calls) (sym same) known in
    let lt : c < length f.owners = omega (arith, known2, owned) in
    let at_call : 0 + c ≡ c = omega arith in
    let numbered : count_by (is_of f.number c) (calls_of f s) ≡ (if owner_of f c == s then 1 else 0)
    = subst (λ m. count_by (is_of f.number m) (calls_of f s) ≡ (if owner_of f c == s then 1 else 0)) at_call (counted-own f 0 f.owners s c lt) in
    let own : count_by (is_of (k + 0) c) (calls_of f s) ≡ (if owner_of f c == s then 1 else 0) = subst (λ m. count_by (is_of m c) (calls_of f s) ≡ (if owner_of f c == s then 1 else 0)) number numbered in
    let rest = counted-later (k + 1) parents (records_now (seen f).past (seen f).opening) (seen f).procedures es line.2 s (k + 0) c (omega arith) in
    let both = count-append (is_of (k + 0) c) (calls_of f s) (all_calls_of es s) in
    let whole : count_by (is_of (k + 0) c) (all_calls_of (f ∷ es) s) ≡ count_by (is_of (k + 0) c) (calls_of f s) = omega (arith, both, rest) in
    whole ∙ own ∙ ap (λ g. if owner_of g c == s then 1 else 0) same
counted-in k parents opening procedures (f ∷ es) line (suc i) e at s c known =
    let number = line.0.number in
    let other = counted-other f 0 f.owners s (k + suc i) c (λ w. omega (arith, number, w)) in
    let at_next : (k + 1) + i ≡ k + suc i = omega arith in
    let rest : count_by (is_of (k + suc i) c) (all_calls_of es s) ≡ (if owner_of e c == s then 1 else 0)
    = subst (λ m. count_by (is_of m c) (all_calls_of es s) ≡ (if owner_of e c == s then 1 else 0)) at_next
    (counted-in (k + 1) parents (records_now (seen f).past (seen f).opening) (seen f).procedures es line.2 i e at s c known) in
    let both = count-append (is_of (k + suc i) c) (calls_of f s) (all_calls_of es s) in
    let whole : count_by (is_of (k + suc i) c) (all_calls_of (f ∷ es) s) ≡ count_by (is_of (k + suc i) c) (all_calls_of es s) = omega (arith, both, other) in
    whole ∙ rest

pub asked_by_owner : (es : List EpochValue) (s : SessionValue) (n c : ℕ) (e : EpochValue) → IsChain es → Matches es s → slice_get es n ≡ Some e → IsKnown e c
    → times_asked n c s ≡ (if owner_of e c == s.number then 1 else 0)
asked_by_owner es s n c e chain same at known =
    let place : 0 + n ≡ n = omega arith in
    let own : count_by (is_of n c) (all_calls_of es s.number) ≡ (if owner_of e c == s.number then 1 else 0)
    = subst (λ m. count_by (is_of m c) (all_calls_of es s.number) ≡ (if owner_of e c == s.number then 1 else 0)) place (counted-in 0 chain.parents chain.opening [] es chain.line n e at s.number c known) in
    counted-asked n c s.kept ∙ ap (count_by (is_of n c)) same.asked ∙ own

-- ---- all sessions

summed : (es : List EpochValue) (n c : ℕ) (e : EpochValue) (sessions : List SessionValue) → IsChain es → All (Matches es) sessions → slice_get es n ≡ Some e → IsKnown e c
    → sum_by (times_asked n c) sessions ≡ count_by (λ s. owner_of e c == s.number) sessions
summed es n c e [] chain all at known = refl
summed es n c e (s ∷ sessions) chain all at known =
    let one = asked_by_owner es s n c e chain (All-head (Matches es) s sessions all) at known in
    let rest = summed es n c e sessions chain (All-tail (Matches es) s sessions all) at known in
    sum_by-cons (times_asked n c) s sessions ∙ ap (λ k. k + sum_by (times_asked n c) sessions) one ∙ ap (λ k. (if owner_of e c == s.number then 1 else 0) + k) rest
    ∙ sym (count-cons (λ u. owner_of e c == u.number) s sessions)

pub asked_once : (es : List EpochValue) (sessions : List SessionValue) → IsChain es → All (Matches es) sessions → AreAllOf es sessions → AskForEachOnce es sessions
asked_once es sessions chain all each n c e at known =
    let rested = rested_at 0 chain.parents chain.opening [] es chain.line n e at in
    summed es n c e sessions chain all at known ∙ each n (owner_of e c) e at (rested.owned.given c known)

-- ---- what a session finds again

pub finds_its_writes : (es : List EpochValue) (s : SessionValue) → IsChain es → Matches es s → FindsItsWrites es s
unfolding GoInTurn FindsItsWrites
finds_its_writes es s chain same i j r a x lt got asked mine later = ⊎_elim
    (λ (l : r.epoch < a.epoch). inr (l, finds_across es r.epoch a.epoch r.call a.call x chain l mine later))
    (λ (w : (r.epoch ≡ a.epoch) × EndsBefore (past_at es r.epoch) r.call a.call).
    let e = mine.0 in
    let past : past_at es r.epoch ≡ (seen e).past = past_is es r.epoch e mine.1 in
    let rested = rested_at 0 chain.parents chain.opening [] es chain.line r.epoch e mine.1 in
    let one : later.0 ≡ e = same_Some later.0 e (sym later.1 ∙ ap (slice_get es) (sym w.0) ∙ mine.1) in
    let lb : locked (part_of a.call (seen e).past) x ≡ true = subst (λ f. locked (part_of a.call (seen f).past) x ≡ true) one later.2 in
    inl (w.0, subst (λ p. FindsWhatWasLeft p r.call a.call x) (sym past) (finds_what_was_left (epoch_world e) r.call a.call x rested.sound (subst (λ p. EndsBefore p r.call a.call) past w.1) mine.2 lb)))
    (same.in_turn i j r a lt got asked)

pub all_find : (es : List EpochValue) (sessions : List SessionValue) → IsChain es → All (Matches es) sessions → All (FindsItsWrites es) sessions
all_find es sessions chain all k d lt = finds_its_writes es (get_or sessions k d) chain (all k d lt)
