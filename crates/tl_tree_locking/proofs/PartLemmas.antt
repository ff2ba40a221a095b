-- What an event adds to each call's part of the history.
use Rattle.std.proofs.Common.{◌≡◌, ◌≢◌, ℕ, ◌==◌, true, false, List, [], ◌∷◌, refl, sym, ◌∙◌, subst, inl, inr, arith, ◌⊎◌}
use Rattle.std.proofs.lemmas.Bool.{cases_Bool, cases_eq, both_ways, ne_eqb, eq-eqb}
use Rattle.std.proofs.lemmas.Bool.Decides.{nat_tests}
use Rattle.tl_tree.specs.Records.{Record}
use Rattle.tl_tree_locking.specs.declared.action.Action.TheVariants as A
use Rattle.tl_tree_locking.specs.declared.event.Event.{Event}
use Rattle.tl_tree_locking.specs.declared.event.Event.TheVariants.{Admit, Lock, Free, Done}
use Rattle.tl_tree_locking.specs.Actions.{locked, held, locked_any, EachPermitted}
use Rattle.tl_tree_locking.specs.History.{caller, part_of, Apart, IsLegalHistory}

pub part_of-lock : (c x : ℕ) (found : Record) (past : List Event) → part_of c (Lock x c found ∷ past) ≡ A.Lock x found ∷ part_of c past
part_of-lock c x found past = let e : (c == c) ≡ true = eq-eqb c c refl in rw e refl

pub part_of-free : (c x : ℕ) (left : Record) (past : List Event) → part_of c (Free x c left ∷ past) ≡ A.Free x left ∷ part_of c past
part_of-free c x left past = let e : (c == c) ≡ true = eq-eqb c c refl in rw e refl

pub part_of-done : (c : ℕ) (past : List Event) → part_of c (Done c ∷ past) ≡ A.End ∷ part_of c past
part_of-done c past = let e : (c == c) ≡ true = eq-eqb c c refl in rw e refl

-- an event of another call adds nothing
pub part_of-other : (e : Event) (c : ℕ) (past : List Event) → caller e ≢ c → part_of c (e ∷ past) ≡ part_of c past
part_of-other (Admit d) c past ne = refl
part_of-other (Lock x d found) c past ne = let e = ne_eqb d c ne in rw e refl
part_of-other (Free x d left) c past ne = let e = ne_eqb d c ne in rw e refl
part_of-other (Done d) c past ne = let e = ne_eqb d c ne in rw e refl

-- if all parts obey the protocol after an event, they did before it
pub obeys_before : (parents : List ℕ) (e : Event) (past : List Event) (c : ℕ) → EachPermitted parents (part_of c (e ∷ past)) → EachPermitted parents (part_of c past)
obeys_before parents e past c h = elim (cases_eq (caller e) c) [ inl same ↦ obeys_own parents e past c same h | inr other ↦ let q = part_of-other e c past other in rw q at h ]
  where
    obeys_own : (parents : List ℕ) (e : Event) (past : List Event) (c : ℕ) → caller e ≡ c → EachPermitted parents (part_of c (e ∷ past)) → EachPermitted parents (part_of c past)
    obeys_own parents (Admit d) past c same h = h
    obeys_own parents (Lock x d found) past c same h = let q = eq-eqb d c same in let g = rw q at h in g.2
    obeys_own parents (Free x d left) past c same h = let q = eq-eqb d c same in let g = rw q at h in g.2
    obeys_own parents (Done d) past c same h = let q = eq-eqb d c same in let g = rw q at h in g.2

-- if locks are apart after an event, they were before it
pub apart_before : (e : Event) (past : List Event) → Apart (e ∷ past) → Apart past
apart_before (Admit d) past h = h
apart_before (Lock x d found) past h = h.1
apart_before (Free x d left) past h = h
apart_before (Done d) past h = h

pub legal_before : (parents : List ℕ) (e : Event) (past : List Event) → IsLegalHistory parents (e ∷ past) → IsLegalHistory parents past
legal_before parents e past h = record {
  obeys = λ c. obeys_before parents e past c (h.obeys c);
  apart = apart_before e past h.apart;
  in_turn = h.in_turn.1;
}

-- after a lock, a call has locked a node if it is the one of the lock or had locked it before
pub locked-lock : (c x : ℕ) (found : Record) (past : List Event) (d y : ℕ) → locked (part_of d (Lock x c found ∷ past)) y ≡ true → ((c ≡ d) × (x ≡ y)) ⊎ (locked (part_of d past) y ≡ true)
locked-lock c x found past d y h = elim (cases_eq c d) [
  | inl same ↦ let q = eq-eqb c d same in let g = rw q at h in grind (arith, nat_tests, g, same)
  | inr other ↦ let q = part_of-other (Lock x c found) d past other in let g = rw q at h in inr g
]

-- after a lock, a call holds a node if it is the one of the lock or held it before
pub held-lock : (c x : ℕ) (found : Record) (past : List Event) (d y : ℕ) → held (part_of d (Lock x c found ∷ past)) y ≡ true → ((c ≡ d) × (x ≡ y)) ⊎ (held (part_of d past) y ≡ true)
held-lock c x found past d y h = elim (cases_eq c d) [
  | inl same ↦ let q = eq-eqb c d same in let g = rw q at h in grind (arith, nat_tests, g, same)
  | inr other ↦ let q = part_of-other (Lock x c found) d past other in let g = rw q at h in inr g
]

pub held-free : (c x : ℕ) (left : Record) (past : List Event) (d y : ℕ) → held (part_of d (Free x c left ∷ past)) y ≡ true → held (part_of d past) y ≡ true
held-free c x left past d y h = elim (cases_eq c d) [
  | inl same ↦ let q = eq-eqb c d same in let g = rw q at h in grind (arith, nat_tests, g)
  | inr other ↦ let q = part_of-other (Free x c left) d past other in rw q at h
]

pub held-done : (c : ℕ) (past : List Event) (d y : ℕ) → held (part_of d (Done c ∷ past)) y ≡ true → held (part_of d past) y ≡ true
held-done c past d y h = elim (cases_eq c d) [
  | inl same ↦ let q = eq-eqb c d same in let g = rw q at h in grind (arith, nat_tests, g)
  | inr other ↦ let q = part_of-other (Done c) d past other in rw q at h
]

-- no two calls hold the same node
pub exclusive : (past : List Event) → Apart past → (c d x : ℕ) → held (part_of c past) x ≡ true → held (part_of d past) x ≡ true → c ≡ d
exclusive [] apart c d x h k = absurd (both_ways false refl h)
exclusive (Admit e ∷ past) apart c d x h k = exclusive past apart c d x h k
exclusive (Lock y e found ∷ past) apart c d x h k =
    let f : (e' : ℕ) → held (part_of e' past) y ≡ false = apart.0 in
    elim (held-lock e y found past c x h) [
      | inl new ↦ elim (held-lock e y found past d x k) [ inl new' ↦ sym new.0 ∙ new'.0 | inr old' ↦ absurd (both_ways (held (part_of d past) x) (subst (λ z. held (part_of d past) z ≡ false) new.1 (f d)) old') ]
      | inr old ↦ elim (held-lock e y found past d x k) [ inl new' ↦ absurd (both_ways (held (part_of c past) x) (subst (λ z. held (part_of c past) z ≡ false) new'.1 (f c)) old) | inr old' ↦ exclusive past apart.1 c d x old old' ]
    ]
exclusive (Free y e left ∷ past) apart c d x h k = exclusive past apart c d x (held-free e y left past c x h) (held-free e y left past d x k)
exclusive (Done e ∷ past) apart c d x h k = exclusive past apart c d x (held-done e past c x h) (held-done e past d x k)

pub locked-free : (c x : ℕ) (left : Record) (past : List Event) (d y : ℕ) → locked (part_of d (Free x c left ∷ past)) y ≡ locked (part_of d past) y
locked-free c x left past d y = elim (cases_Bool (c == d)) [ inl h ↦ rw h refl | inr h ↦ rw h refl ]

pub locked_any-free : (c x : ℕ) (left : Record) (past : List Event) (d : ℕ) → locked_any (part_of d (Free x c left ∷ past)) ≡ locked_any (part_of d past)
locked_any-free c x left past d = elim (cases_Bool (c == d)) [ inl h ↦ rw h refl | inr h ↦ rw h refl ]

pub locked-done : (c : ℕ) (past : List Event) (d y : ℕ) → locked (part_of d (Done c ∷ past)) y ≡ locked (part_of d past) y
locked-done c past d y = elim (cases_Bool (c == d)) [ inl h ↦ rw h refl | inr h ↦ rw h refl ]

pub locked_any-done : (c : ℕ) (past : List Event) (d : ℕ) → locked_any (part_of d (Done c ∷ past)) ≡ locked_any (part_of d past)
locked_any-done c past d = elim (cases_Bool (c == d)) [ inl h ↦ rw h refl | inr h ↦ rw h refl ]
