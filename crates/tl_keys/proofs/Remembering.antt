-- What is remembered after one call more.
use Rattle.std.proofs.Common.{◌≡◌, ◌≢◌, ◌≤◌, ◌+◌, ◌⊎◌, ◌∙◌, ℕ, List, Option, Some, None, inl, inr, refl, sym, ap, subst, false, bytes_eq, arith}
use Rattle.std.specs.Prelude.{IsSome}
use Rattle.std.specs.HashMap.{hash_map_len}
use Rattle.std.specs.Option.{option_or}
use Rattle.std.proofs.lemmas.Bool.{cases_Bool, both_ways}
use Rattle.std.proofs.lemmas.Slice.Eq.{bytes_eq-Decides}
use Rattle.tl_keys.specs.declared.index.KeyIndex.{KeyIndex}
use Rattle.tl_keys.specs.declared.index.TheConstants.{CAPACITY}
use Rattle.tl_keys.specs.Kept.{KeptValue}
use Rattle.tl_keys.specs.Keys.{recent_at, earlier_at, recall, AllUnder, Stays, Ages, Remembers, Lasts}

then_stays : (old mid new : KeyIndex) (other : List ℕ) → Stays old mid other ⊎ Ages old mid other → Stays mid new other → Stays old new other ⊎ Ages old new other
then_stays old mid new other (inl stays) more = inl (more.0 ∙ stays.0, more.1 ∙ stays.1)
then_stays old mid new other (inr ages) more = inr (ages.0, more.0 ∙ ages.1, more.1 ∙ ages.2)

pub remembers : (old mid new : KeyIndex) (key : List ℕ) (kept : KeptValue) → ((other : List ℕ) → Stays old mid other ⊎ Ages old mid other) → recent_at new key ≡ Some kept
    → ((other : List ℕ) → other ≢ key → Stays mid new other) → hash_map_len mid.recent ≤ hash_map_len old.recent → (CAPACITY ≤ hash_map_len old.recent → hash_map_len mid.recent ≡ 0)
    → hash_map_len new.recent ≤ hash_map_len mid.recent + 1 → Remembers old new key kept
remembers old mid new key kept room here others less fresh more = record {
  here = here;
  others = λ other differs. then_stays old mid new other (room other) (others other differs);
  grows = omega (arith, less, more);
  fresh = λ full. omega (arith, fresh full, more);
}

-- ---- how long it is remembered

or_first : {X : Type 0} (a b : Option X) → IsSome a → IsSome (option_or a b)
or_first None b some = absurd cc
or_first (Some x) b some = refl

or_second : {X : Type 0} (a b : Option X) → IsSome b → IsSome (option_or a b)
or_second None b some = some
or_second (Some x) b some = refl

pub lasts_found : (i : KeyIndex) (key : List ℕ) (n : ℕ) → Lasts i key n → IsSome (recall i key)
lasts_found i key n (inl here) = or_first (recent_at i key) (earlier_at i key) here.0
lasts_found i key n (inr there) = or_second (recent_at i key) (earlier_at i key) there.0

pub lasts_here : (old new : KeyIndex) (key : List ℕ) (kept : KeptValue) → Remembers old new key kept → Lasts new key CAPACITY
lasts_here old new key kept now = inl (subst IsSome (sym now.here) refl, omega arith)

-- how many calls more it lasts at most
lasts_few : (i : KeyIndex) (key : List ℕ) (n : ℕ) → Lasts i key n → n ≤ CAPACITY
lasts_few i key n (inl here) = here.1
lasts_few i key n (inr there) = omega (arith, there.1)

other_lasts : (old new : KeyIndex) (key other : List ℕ) (kept : KeptValue) (n : ℕ) → Remembers old new key kept → Lasts old other (n + 1) → Stays old new other ⊎ Ages old new other → Lasts new other n
other_lasts old new key other kept n now (inl here) (inl stays) = inl (subst IsSome (sym stays.0) here.0, omega (arith, here.1))
other_lasts old new key other kept n now (inr there) (inl stays) = inr (subst IsSome (sym stays.1) there.0, omega (arith, there.1, now.grows))
other_lasts old new key other kept n now (inl here) (inr ages) = inr (subst IsSome (sym ages.2) here.0, omega (arith, here.1, now.fresh ages.0))
other_lasts old new key other kept n now (inr there) (inr ages) = absurd (omega (arith, there.1, ages.0))

-- ---- what holds of all that is remembered

-- what is remembered of another key was remembered before
before : (old new : KeyIndex) (other : List ℕ) (kept : KeptValue) → Stays old new other ⊎ Ages old new other → recall new other ≡ Some kept → recall old other ≡ Some kept
before old new other kept (inl stays) found = sym (ap (λ r. option_or r (earlier_at new other)) stays.0 ∙ ap (option_or (recent_at old other)) stays.1) ∙ found
before old new other kept (inr ages) found =
    let there : recent_at old other ≡ Some kept = sym (ap (λ r. option_or r (earlier_at new other)) ages.1 ∙ ages.2) ∙ found in
    ap (λ r. option_or r (earlier_at old other)) there

differs : (other key : List ℕ) → bytes_eq other key ≡ false → other ≢ key
differs other key h e = both_ways (bytes_eq other key) h ((bytes_eq-Decides other key).1 e)

pub all_more : (P : List ℕ → KeptValue → Type 0) (old new : KeyIndex) (key : List ℕ) (kept : KeptValue) → AllUnder P old → P key kept → Remembers old new key kept → AllUnder P new
all_more P old new key kept all one now other found is = elim (cases_Bool (bytes_eq other key)) [
  | inl h ↦
      let same : other ≡ key = (bytes_eq-Decides other key).0 h in
      let there : recall new key ≡ Some kept = ap (λ r. option_or r (earlier_at new key)) now.here in
      let both : Some kept ≡ Some found = sym there ∙ ap (recall new) (sym same) ∙ is in
      let it : kept ≡ found = cc in
      subst (λ k. P k found) (sym same) (subst (P key) it one)
  | inr h ↦ all other found (before old new other found (now.others other (differs other key h)) is)
]

-- nothing is remembered
pub all_none : (P : List ℕ → KeptValue → Type 0) (i : KeyIndex) → ((key : List ℕ) → recall i key ≡ None) → AllUnder P i
all_none P i none key kept is = let both : None ≡ Some kept = sym (none key) ∙ is in cc

-- one call more
pub lasts_on : (old new : KeyIndex) (key other : List ℕ) (kept : KeptValue) (n : ℕ) → Remembers old new key kept → Lasts old other (n + 1) → Lasts new other n
lasts_on old new key other kept n now lasts = elim (cases_Bool (bytes_eq other key)) [
  | inl h ↦
      let same : other ≡ key = (bytes_eq-Decides other key).0 h in
      let few : n + 1 ≤ CAPACITY = lasts_few old other (n + 1) lasts in
      inl (subst (λ k. IsSome (recent_at new k)) (sym same) (subst IsSome (sym now.here) refl), omega (arith, few))
  | inr h ↦ other_lasts old new key other kept n now lasts (now.others other (differs other key h))
]
