-- The actions of one call alone on two trees.
use Rattle.std.proofs.Common.{◌≡◌, ℕ, zero, suc, ◌<◌, true, false, List, [], ◌∷◌, length, refl, sym, ap, ◌∙◌, subst, inl, inr, arith, ◌⊎◌, Option, Some, None, slice_get}
use Rattle.std.proofs.lemmas.Bool.{both_ways, eqb-true, eq-eqb, or_cases}
use Rattle.tl_tree.specs.Records.{Record, Records, record_at}
use Rattle.tl_tree_locking.specs.declared.action.Action.{Action}
use Rattle.tl_tree_locking.specs.declared.action.Action.TheVariants as A
use Rattle.tl_tree_locking.specs.Actions.{locks, is_end, locked, taken, Permitted, EachPermitted, PermittedAfter}
use Rattle.tl_tree_locking.specs.Alone.{Outcome, FindOther, SameUntilFound, Finds, EndsOnce, IsAlone}

pub locked-taken : (k : ℕ) (actions done : List Action) (x : ℕ) → locked done x ≡ true → locked (taken k actions done) x ≡ true
locked-taken zero actions done x h = h
locked-taken (suc k) [] done x h = h
locked-taken (suc k) (a ∷ actions) done x h = locked-taken k actions (a ∷ done) x (grind (arith, h))

pub taken-next : (k : ℕ) (actions done : List Action) (a : Action) → slice_get actions k ≡ Some a → taken (suc k) actions done ≡ a ∷ taken k actions done
taken-next zero [] done a h = cc
taken-next zero (b ∷ actions) done a h = let e : b ≡ a = cc in ap (λ z. z ∷ done) e
taken-next (suc k) [] done a h = cc
taken-next (suc k) (b ∷ actions) done a h = taken-next k actions (b ∷ done) a h

pub obeys_taken : (parents : List ℕ) (k : ℕ) (actions done : List Action) → PermittedAfter parents done actions → EachPermitted parents done → EachPermitted parents (taken k actions done)
obeys_taken parents zero actions done h o = o
obeys_taken parents (suc k) [] done h o = o
obeys_taken parents (suc k) (a ∷ actions) done h o = obeys_taken parents k actions (a ∷ done) h.2 (h.0, h.1, o)

pub permitted_at : (parents : List ℕ) (k : ℕ) (actions done : List Action) (a : Action) → PermittedAfter parents done actions → slice_get actions k ≡ Some a → Permitted parents (taken k actions done) a
permitted_at parents zero [] done a h e = absurd cc
permitted_at parents zero (b ∷ actions) done a h e = let same : b ≡ a = cc in subst (Permitted parents done) same h.0
permitted_at parents (suc k) [] done a h e = absurd cc
permitted_at parents (suc k) (b ∷ actions) done a h e = permitted_at parents k actions (b ∷ done) a h.2 e

finds_rest : (t : Records) (a : Action) (actions : List Action) → Finds t (a ∷ actions) → Finds t actions
finds_rest t (A.Lock x found) actions h = h.2
finds_rest t (A.Read x field n) actions h = h
finds_rest t (A.Write x field n) actions h = h
finds_rest t (A.Free x left) actions h = h
finds_rest t (A.Emit n) actions h = h
finds_rest t A.End actions h = h
finds_rest t A.Plain actions h = h

pub finds_at : (t : Records) (k : ℕ) (actions : List Action) (x : ℕ) (found : Record) → Finds t actions → slice_get actions k ≡ Some (A.Lock x found) → (x < length t) × (found ≡ record_at t x)
finds_at t zero [] x found h e = absurd cc
finds_at t zero (b ∷ actions) x found h e = let same : b ≡ A.Lock x found = cc in let g : Finds t (A.Lock x found ∷ actions) = subst (λ z. Finds t (z ∷ actions)) same h in (g.0, g.1)
finds_at t (suc k) [] x found h e = absurd cc
finds_at t (suc k) (b ∷ actions) x found h e = finds_at t k actions x found (finds_rest t b actions h) e

-- the two next actions are the same, or lock the same node; or there are none
abbrev pub Alike : Option Action → Option Action → Type 0
Alike None None = Unit {0}
Alike None (Some b) = ⊥
Alike (Some a) None = ⊥
Alike (Some a) (Some b) = (a ≡ b) ⊎ FindOther a b

no_split : (a b : Action) (more bs done : List Action) (k : ℕ) (t u : Records) → FindOther a b → Finds t (a ∷ more) → Finds u (b ∷ bs)
    → ((x : ℕ) → locked (taken k more (a ∷ done)) x ≡ true → record_at t x ≡ record_at u x) → ⊥
no_split (A.Lock x r) (A.Lock y s) more bs done k t u f ft fu agree =
    let self = eq-eqb x x refl in
    let here = agree x (locked-taken k more (A.Lock x r ∷ done) x (grind (arith, self))) in
    let su : s ≡ record_at u x = fu.1 ∙ ap (record_at u) (sym f.0) in
    f.1 (ft.1 ∙ here ∙ sym su)
no_split _ _ more bs done k t u f ft fu agree = f

-- on two trees that agree at the nodes locked by the first k actions, these actions are the same, and the next ones are alike
pub same_taken : (k : ℕ) (more bs done : List Action) (t u : Records) → SameUntilFound more bs → Finds t more → Finds u bs
    → ((x : ℕ) → locked (taken k more done) x ≡ true → record_at t x ≡ record_at u x) → (taken k more done ≡ taken k bs done) × Alike (slice_get more k) (slice_get bs k)
same_taken zero [] [] done t u h ft fu agree = (refl, tt)
same_taken zero [] (b ∷ bs) done t u h ft fu agree = absurd h
same_taken zero (a ∷ more) [] done t u h ft fu agree = absurd h
same_taken zero (a ∷ more) (b ∷ bs) done t u h ft fu agree = (refl, elim h [ inl same ↦ inl same.0 | inr other ↦ inr other ])
same_taken (suc k) [] [] done t u h ft fu agree = (refl, tt)
same_taken (suc k) [] (b ∷ bs) done t u h ft fu agree = absurd h
same_taken (suc k) (a ∷ more) [] done t u h ft fu agree = absurd h
same_taken (suc k) (a ∷ more) (b ∷ bs) done t u h ft fu agree = elim h [
  | inl same ↦
      let r = same_taken k more bs (a ∷ done) t u same.1 (finds_rest t a more ft) (finds_rest u b bs fu) agree in
      (r.0 ∙ ap (λ z. taken k bs (z ∷ done)) same.0, r.1)
  | inr other ↦ absurd (no_split a b more bs done k t u other ft fu agree)
]

pub alike_lock : (x : ℕ) (r : Record) (o : Option Action) → Alike (Some (A.Lock x r)) o → (s : Record) × (o ≡ Some (A.Lock x s))
alike_lock x r None h = absurd h
alike_lock x r (Some b) h = elim h [ inl same ↦ (r, ap Some (sym same)) | inr other ↦ go b other ]
  where
    go : (b : Action) → FindOther (A.Lock x r) b → (s : Record) × (Some b ≡ Some (A.Lock x s))
    go (A.Lock y s) f = (s, ap (λ z. Some (A.Lock z s)) (sym f.0))
    go _ f = absurd f

pub ends_there : (k : ℕ) (actions : List Action) → EndsOnce actions → slice_get actions k ≡ Some A.End → length actions ≡ suc k
ends_there zero [] h e = absurd h
ends_there zero (b ∷ actions) h e =
    let same : b ≡ A.End = cc in
    let g : EndsOnce (A.End ∷ actions) = subst (λ z. EndsOnce (z ∷ actions)) same h in
    rw g refl
ends_there (suc k) [] h e = absurd h
ends_there (suc k) (A.Lock x r ∷ actions) h e = ap suc (ends_there k actions h e)
ends_there (suc k) (A.Read x f n ∷ actions) h e = ap suc (ends_there k actions h e)
ends_there (suc k) (A.Write x f n ∷ actions) h e = ap suc (ends_there k actions h e)
ends_there (suc k) (A.Free x r ∷ actions) h e = ap suc (ends_there k actions h e)
ends_there (suc k) (A.Emit n ∷ actions) h e = ap suc (ends_there k actions h e)
ends_there (suc k) (A.End ∷ actions) h e = let none : slice_get actions k ≡ None = rw h refl in absurd cc
ends_there (suc k) (A.Plain ∷ actions) h e = ap suc (ends_there k actions h e)

pub ends_some : (actions : List Action) → EndsOnce actions → 0 < length actions
ends_some [] h = absurd h
ends_some (a ∷ actions) h = omega arith

pub ends_later : (k : ℕ) (actions : List Action) (a : Action) → EndsOnce actions → slice_get actions k ≡ Some a → is_end a ≡ false → suc k < length actions
ends_later zero [] a h e n = absurd h
ends_later zero (b ∷ actions) a h e n =
    let same : b ≡ a = cc in
    let nb : is_end b ≡ false = ap is_end same ∙ n in
    let go = rest b actions nb h in
    let some = ends_some actions go in omega arith
  where
    rest : (b : Action) (actions : List Action) → is_end b ≡ false → EndsOnce (b ∷ actions) → EndsOnce actions
    rest A.End actions n h = absurd cc
    rest (A.Lock x r) actions n h = h
    rest (A.Read x f m) actions n h = h
    rest (A.Write x f m) actions n h = h
    rest (A.Free x r) actions n h = h
    rest (A.Emit m) actions n h = h
    rest A.Plain actions n h = h
ends_later (suc k) [] a h e n = absurd h
ends_later (suc k) (A.Lock x r ∷ actions) a h e n = let i = ends_later k actions a h e n in omega arith
ends_later (suc k) (A.Read x f m ∷ actions) a h e n = let i = ends_later k actions a h e n in omega arith
ends_later (suc k) (A.Write x f m ∷ actions) a h e n = let i = ends_later k actions a h e n in omega arith
ends_later (suc k) (A.Free x r ∷ actions) a h e n = let i = ends_later k actions a h e n in omega arith
ends_later (suc k) (A.Emit m ∷ actions) a h e n = let i = ends_later k actions a h e n in omega arith
ends_later (suc k) (A.End ∷ actions) a h e n = let none : slice_get actions k ≡ None = rw h refl in absurd cc
ends_later (suc k) (A.Plain ∷ actions) a h e n = let i = ends_later k actions a h e n in omega arith

lock_inside : (t : Records) (a : Action) (actions : List Action) → Finds t (a ∷ actions) → (x : ℕ) → locks a x ≡ true → x < length t
lock_inside t (A.Lock y found) actions h x l = subst (λ z. z < length t) (eqb-true y x l) h.0
lock_inside t (A.Read y f n) actions h x l = absurd (both_ways false refl l)
lock_inside t (A.Write y f n) actions h x l = absurd (both_ways false refl l)
lock_inside t (A.Free y left) actions h x l = absurd (both_ways false refl l)
lock_inside t (A.Emit n) actions h x l = absurd (both_ways false refl l)
lock_inside t A.End actions h x l = absurd (both_ways false refl l)
lock_inside t A.Plain actions h x l = absurd (both_ways false refl l)

-- each locked node is a node of the tree
pub taken_inside : (t : Records) (k : ℕ) (actions done : List Action) → Finds t actions → (x : ℕ) → locked (taken k actions done) x ≡ true → (x < length t) ⊎ (locked done x ≡ true)
taken_inside t zero actions done f x l = inr l
taken_inside t (suc k) [] done f x l = inr l
taken_inside t (suc k) (a ∷ actions) done f x l = elim (taken_inside t k actions (a ∷ done) (finds_rest t a actions f) x l) [
  | inl here ↦ inl here
  | inr more ↦ elim (or_cases (locks a x) (locked done x) more) [ inl mine ↦ inl (lock_inside t a actions f x mine) | inr old ↦ inr old ]
]

-- on two trees of the shape that agree at the nodes locked by a call's first k actions, the call does the same k actions,
-- and its next actions are alike
pub alone_same : (parents : List ℕ) (alone : Records → Outcome) → IsAlone parents alone → (t u : Records) → length t ≡ length parents → length u ≡ length parents → (k : ℕ)
    → ((x : ℕ) → locked (taken k (alone t).actions []) x ≡ true → record_at t x ≡ record_at u x)
    → (taken k (alone t).actions [] ≡ taken k (alone u).actions []) × Alike (slice_get (alone t).actions k) (slice_get (alone u).actions k)
alone_same parents alone is t u lt lu k agree = same_taken k (alone t).actions (alone u).actions [] t u (is.same t u lt lu) (is.finds t lt) (is.finds u lu) agree
