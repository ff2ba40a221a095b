-- What a later call finds at a node that an earlier one left.
use Rattle.std.proofs.Common.{◌≡◌, ℕ, true, false, List, [], ◌∷◌, ◌++◌, refl, sym, ap, ◌∙◌, subst, inl, inr, arith, append_assoc}
use Rattle.std.specs.Prelude.{◌==◌, ◌||◌, if◌then◌else◌}
use Rattle.std.proofs.lemmas.Bool.{cases_Bool, cases_eq, both_ways, eq-eqb, ne_eqb}
use Rattle.tl_tree.specs.Records.{Record, Records, record_at}
use Rattle.tl_tree_locking.specs.declared.action.Action.TheVariants as A
use Rattle.tl_tree_locking.specs.declared.event.Event.{Event}
use Rattle.tl_tree_locking.specs.declared.event.Event.TheVariants.{Admit, Lock, Free, Done}
use Rattle.tl_tree_locking.specs.Actions.{locked, held}
use Rattle.tl_tree_locking.specs.History.{part_of, is_done, admits, InTurn, last_left, record_now, Follows, IsLegalHistory}
use Rattle.tl_tree_locking.specs.World.{World, IsSound}
use Rattle.tl_tree_locking.proofs.NoStandstill.{done_free, sound_history}
use Rattle.tl_tree_locking.proofs.PartLemmas.{part_of-other, legal_before, locked-lock, locked-free, locked-done}
use Rattle.tl_tree_locking.proofs.WorldSteps.{unadmitted}
use Rattle.tl_table.specs.Ends.{EndsBefore}
use Rattle.tl_table.specs.Finding.{FindsWhatWasLeft}
use Rattle.tl_table.proofs.Ended.{done_stays}

-- ---- where a call locked a node

pub record IsLockedIn (events : List Event) (c x : ℕ) : Type 0 where
  pub front : List Event
  pub back : List Event
  pub found : Record
  pub split : events ≡ front ++ Lock x c found ∷ back

locked_later : (e : Event) (events : List Event) (c x : ℕ) → IsLockedIn events c x → IsLockedIn (e ∷ events) c x
locked_later e events c x h = record { front = e ∷ h.front; back = h.back; found = h.found; split = ap (λ es. e ∷ es) h.split }

-- a call that has locked a node, but hadn't earlier, locked it in between
pub locked_in : (later earlier : List Event) (c x : ℕ) → locked (part_of c earlier) x ≡ false → locked (part_of c (later ++ earlier)) x ≡ true → IsLockedIn later c x
locked_in [] earlier c x none h = absurd (both_ways (locked (part_of c earlier) x) none h)
locked_in (Admit d ∷ later) earlier c x none h = locked_later (Admit d) later c x (locked_in later earlier c x none h)
locked_in (Lock y d found ∷ later) earlier c x none h = elim (locked-lock d y found (later ++ earlier) c x h) [
  | inl new ↦ record { front = []; back = later; found = found; split = λ i. Lock (new.1 i) (new.0 i) found ∷ later }
  | inr old ↦ locked_later (Lock y d found) later c x (locked_in later earlier c x none old)
]
locked_in (Free y d left ∷ later) earlier c x none h =
    let q = locked-free d y left (later ++ earlier) c x in locked_later (Free y d left) later c x (locked_in later earlier c x none (sym q ∙ h))
locked_in (Done d ∷ later) earlier c x none h =
    let q = locked-done d (later ++ earlier) c x in locked_later (Done d) later c x (locked_in later earlier c x none (sym q ∙ h))

-- ---- where a call freed a node

pub record IsFreedIn (events : List Event) (c x : ℕ) : Type 0 where
  pub front : List Event
  pub back : List Event
  pub left : Record
  pub split : events ≡ front ++ Free x c left ∷ back

freed_later : (e : Event) (events : List Event) (c x : ℕ) → IsFreedIn events c x → IsFreedIn (e ∷ events) c x
freed_later e events c x h = record { front = e ∷ h.front; back = h.back; left = h.left; split = ap (λ es. e ∷ es) h.split }

-- a call that locked a node and doesn't hold it any more has freed it
pub freed_in : (past : List Event) (c x : ℕ) → locked (part_of c past) x ≡ true → held (part_of c past) x ≡ false → IsFreedIn past c x
freed_in [] c x h free = absurd (both_ways false refl h)
freed_in (Admit d ∷ past) c x h free = freed_later (Admit d) past c x (freed_in past c x h free)
freed_in (Lock y d found ∷ past) c x h free = freed_later (Lock y d found) past c x (elim (cases_eq d c) [
  | inl same ↦
      let q = eq-eqb d c same in
      let l : ((y == x) || locked (part_of c past) x) ≡ true = rw q at h in
      let f : ((y == x) || held (part_of c past) x) ≡ false = rw q at free in
      elim (cases_Bool (y == x)) [
        | inl here ↦ absurd (let g : true ≡ false = rw here at f in let e : ⊥ = cc in e)
        | inr other ↦ let l2 : locked (part_of c past) x ≡ true = rw other at l in let f2 : held (part_of c past) x ≡ false = rw other at f in freed_in past c x l2 f2
      ]
  | inr other ↦ let q = part_of-other (Lock y d found) c past other in freed_in past c x (rw q at h) (rw q at free)
])
freed_in (Free y d left ∷ past) c x h free = elim (cases_eq d c) [
  | inl same ↦
      elim (cases_eq y x) [
        | inl here ↦ record { front = []; back = past; left = left; split = λ i. Free (here i) (same i) left ∷ past }
        | inr other ↦
            let q = eq-eqb d c same in
            let n = ne_eqb y x other in
            let l : locked (part_of c past) x ≡ true = rw q at h in
            let f : held (A.Free y left ∷ part_of c past) x ≡ false = rw q at free in
            let f2 : held (part_of c past) x ≡ false = rw n at f in
            freed_later (Free y d left) past c x (freed_in past c x l f2)
      ]
  | inr other ↦ let q = part_of-other (Free y d left) c past other in freed_later (Free y d left) past c x (freed_in past c x (rw q at h) (rw q at free))
]
freed_in (Done d ∷ past) c x h free = freed_later (Done d) past c x (elim (cases_eq d c) [
  | inl same ↦ let q = eq-eqb d c same in freed_in past c x (rw q at h) (rw q at free)
  | inr other ↦ let q = part_of-other (Done d) c past other in freed_in past c x (rw q at h) (rw q at free)
])

-- ---- a call that has ended

-- it locks no more nodes
locked_by_end : (later earlier : List Event) (c x : ℕ) → InTurn (later ++ earlier) → is_done c earlier ≡ true → locked (part_of c (later ++ earlier)) x ≡ true → locked (part_of c earlier) x ≡ true
locked_by_end [] earlier c x turn over h = h
locked_by_end (Admit d ∷ later) earlier c x turn over h = locked_by_end later earlier c x turn.1 over h
locked_by_end (Lock y d found ∷ later) earlier c x turn over h = elim (locked-lock d y found (later ++ earlier) c x h) [
  | inl new ↦ absurd (both_ways (is_done c (later ++ earlier)) (subst (λ k. is_done k (later ++ earlier) ≡ false) new.0 turn.0.1) (done_stays later earlier c over))
  | inr old ↦ locked_by_end later earlier c x turn.1 over old
]
locked_by_end (Free y d left ∷ later) earlier c x turn over h = locked_by_end later earlier c x turn.1 over (sym (locked-free d y left (later ++ earlier) c x) ∙ h)
locked_by_end (Done d ∷ later) earlier c x turn over h = locked_by_end later earlier c x turn.1 over (sym (locked-done d (later ++ earlier) c x) ∙ h)

-- ---- what a lock finds

legal_earlier : (parents : List ℕ) (later earlier : List Event) → IsLegalHistory parents (later ++ earlier) → IsLegalHistory parents earlier
legal_earlier parents [] earlier legal = legal
legal_earlier parents (e ∷ later) earlier legal = legal_earlier parents later earlier (legal_before parents e (later ++ earlier) legal)

pub found_then : (opening : Records) (later earlier : List Event) (c x : ℕ) (found : Record) → Follows opening (later ++ Lock x c found ∷ earlier) → found ≡ record_now earlier opening x
found_then opening [] earlier c x found follows = follows.0
found_then opening (Admit d ∷ later) earlier c x found follows = found_then opening later earlier c x found follows
found_then opening (Lock y d r ∷ later) earlier c x found follows = found_then opening later earlier c x found follows.1
found_then opening (Free y d r ∷ later) earlier c x found follows = found_then opening later earlier c x found follows
found_then opening (Done d ∷ later) earlier c x found follows = found_then opening later earlier c x found follows

-- the record left last after a free doesn't depend on the events before it
pub last_left-free : (since before : List Event) (c x : ℕ) (left r : Record) → last_left (since ++ Free x c left ∷ before) x r ≡ last_left since x left
last_left-free [] before c x left r = let q = eq-eqb x x refl in rw q refl
last_left-free (Admit d ∷ since) before c x left r = last_left-free since before c x left r
last_left-free (Lock y d found ∷ since) before c x left r = last_left-free since before c x left r
last_left-free (Free y d own ∷ since) before c x left r = ap (λ z. if y == x then own else z) (last_left-free since before c x left r)
last_left-free (Done d ∷ since) before c x left r = last_left-free since before c x left r

-- ---- both together

joined : (past later earlier front back mid before : List Event) (a b x : ℕ) (found left : Record) → past ≡ later ++ Admit b ∷ earlier → later ≡ front ++ Lock x b found ∷ back
    → earlier ≡ mid ++ Free x a left ∷ before → past ≡ front ++ Lock x b found ∷ ((back ++ Admit b ∷ mid) ++ Free x a left ∷ before)
joined past later earlier front back mid before a b x found left p q r =
    p ∙ ap (λ l. l ++ Admit b ∷ earlier) q ∙ append_assoc front (Lock x b found ∷ back) (Admit b ∷ earlier)
    ∙ ap (λ es. front ++ Lock x b found ∷ (back ++ Admit b ∷ es)) r
    ∙ ap (λ es. front ++ Lock x b found ∷ es) (sym (append_assoc back (Admit b ∷ mid) (Free x a left ∷ before)))

pub finds_what_was_left : (w : World) (a b x : ℕ) → IsSound w → EndsBefore w.past a b → locked (part_of a w.past) x ≡ true → locked (part_of b w.past) x ≡ true → FindsWhatWasLeft w.past a b x
finds_what_was_left w a b x sound ends la lb =
    let legal : IsLegalHistory w.parents (ends.later ++ Admit b ∷ ends.earlier) = subst (IsLegalHistory w.parents) ends.admission (sound_history w sound) in
    let own : IsLegalHistory w.parents (Admit b ∷ ends.earlier) = legal_earlier w.parents ends.later (Admit b ∷ ends.earlier) legal in
    let la2 : locked (part_of a (ends.later ++ Admit b ∷ ends.earlier)) x ≡ true = subst (λ p. locked (part_of a p) x ≡ true) ends.admission la in
    let lb2 : locked (part_of b (ends.later ++ Admit b ∷ ends.earlier)) x ≡ true = subst (λ p. locked (part_of b p) x ≡ true) ends.admission lb in
    let number : b ≡ admits ends.earlier = own.in_turn.0 in
    let none : part_of b ends.earlier ≡ [] = unadmitted ends.earlier own.in_turn.1 b (omega (arith, number)) in
    let lock = locked_in ends.later (Admit b ∷ ends.earlier) b x (ap (λ p. locked p x) none) lb2 in
    let mine : locked (part_of a ends.earlier) x ≡ true = locked_by_end ends.later (Admit b ∷ ends.earlier) a x legal.in_turn ends.ended la2 in
    let free = freed_in ends.earlier a x mine (done_free w.parents ends.earlier (legal_before w.parents (Admit b) ends.earlier own) a x ends.ended) in
    let places = joined w.past ends.later ends.earlier lock.front lock.back free.front free.back a b x lock.found free.left ends.admission lock.split free.split in
    record {
      later = lock.front;
      since = lock.back ++ Admit b ∷ free.front;
      before = free.back;
      found = lock.found;
      left = free.left;
      places = places;
      finds =
          found_then w.opening lock.front ((lock.back ++ Admit b ∷ free.front) ++ Free x a free.left ∷ free.back) b x lock.found (subst (Follows w.opening) places sound.legal.follows)
          ∙ last_left-free (lock.back ++ Admit b ∷ free.front) free.back a x free.left (record_at w.opening x);
    }
