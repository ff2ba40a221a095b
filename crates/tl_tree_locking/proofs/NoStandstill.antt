-- While a call is open, some call is enabled.
use Rattle.std.proofs.Common.{Some, slice_get, length, sym, ◌∙◌, zero, suc, ◌≡◌, ◌≢◌, ℕ, ◌<◌, ◌==◌, true, false, List, [], ◌∷◌, refl, subst, inl, inr, arith, ◌⊎◌}
use Rattle.std.proofs.lemmas.Bool.{cases_Bool, cases_eq, both_ways, false_from_ne_true, eqb-true, ne_eqb, eq-eqb}
use Rattle.tl_tree_locking.specs.declared.action.Action.{Action}
use Rattle.tl_tree_locking.specs.declared.action.Action.TheVariants as A
use Rattle.tl_tree_locking.specs.declared.event.Event.{Event}
use Rattle.tl_tree_locking.specs.declared.event.Event.TheVariants.{Admit, Lock, Free, Done}
use Rattle.tl_tree_locking.specs.Actions.{locked, held, locked_any, has_ended, with_found, taken, Permitted, EachPermitted}
use Rattle.tl_tree_locking.specs.History.{part_of, is_done, admits, IsOpen, IsLegalHistory}
use Rattle.tl_tree_locking.specs.Order.{stands, before, IsDistinct, placed}
use Rattle.tl_tree_locking.specs.World.{World, alone_of, Legal, IsSound, next_of, IsStuck, IsEnabled, IsFree, MayTake}
use Rattle.tl_tree_locking.proofs.MayComeLemmas.{held-locked, locked-any, child_may}
use Rattle.tl_tree_locking.proofs.Orders.{before-right}
use Rattle.tl_tree_locking.proofs.PartLemmas.{part_of-done, part_of-other, legal_before}
use Rattle.tl_tree_locking.proofs.PlacedAgrees.{KeepsOrder, placed_keeps_order}
use Rattle.tl_tree_locking.proofs.Records.{length-with_found}
use Rattle.tl_tree_locking.proofs.SharedActions.{permitted_shared}
use Rattle.tl_tree_locking.proofs.Alone.{permitted_at}
use Rattle.tl_tree_locking.proofs.WorldSteps.{legal_history}

-- a call that is done holds no nodes
pub done_free : (parents : List ℕ) (past : List Event) → IsLegalHistory parents past → (d x : ℕ) → is_done d past ≡ true → held (part_of d past) x ≡ false
done_free parents [] legal d x h = refl
done_free parents (Admit e ∷ past) legal d x h = done_free parents past (legal_before parents (Admit e) past legal) d x h
done_free parents (Lock y e found ∷ past) legal d x h =
    let ne : e ≢ d = λ (w : e ≡ d). both_ways (is_done d past) (subst (λ z. is_done z past ≡ false) w legal.in_turn.0.1) h in
    let q = part_of-other (Lock y e found) d past ne in rw q (done_free parents past (legal_before parents (Lock y e found) past legal) d x h)
done_free parents (Free y e left ∷ past) legal d x h =
    let ne : e ≢ d = λ (w : e ≡ d). both_ways (is_done d past) (subst (λ z. is_done z past ≡ false) w legal.in_turn.0.1) h in
    let q = part_of-other (Free y e left) d past ne in rw q (done_free parents past (legal_before parents (Free y e left) past legal) d x h)
done_free parents (Done e ∷ past) legal d x h = elim (cases_eq e d) [
  | inl same ↦
      let q = part_of-done e past in
      let mine : Permitted parents (part_of e past) A.End × (has_ended (part_of e past) ≡ false) × EachPermitted parents (part_of e past) = rw q at (legal.obeys e) in
      let free : held (part_of e (Done e ∷ past)) x ≡ false = rw q (mine.0 x) in
      subst (λ z. held (part_of z (Done e ∷ past)) x ≡ false) same free
  | inr other ↦
      let q = part_of-other (Done e) d past other in
      let ne = ne_eqb e d other in
      rw q (done_free parents past (legal_before parents (Done e) past legal) d x (rw ne at h))
]

-- a call that has locked a node was admitted
pub any_admitted : (parents : List ℕ) (past : List Event) → IsLegalHistory parents past → (c : ℕ) → locked_any (part_of c past) ≡ true → c < admits past
any_admitted parents [] legal c h = absurd (both_ways false refl h)
any_admitted parents (Admit e ∷ past) legal c h = let ih = any_admitted parents past (legal_before parents (Admit e) past legal) c h in omega arith
any_admitted parents (Lock y e found ∷ past) legal c h = elim (cases_eq e c) [
  | inl same ↦ subst (λ z. z < admits past) same legal.in_turn.0.0
  | inr other ↦ let q = part_of-other (Lock y e found) c past other in any_admitted parents past (legal_before parents (Lock y e found) past legal) c (rw q at h)
]
any_admitted parents (Free y e left ∷ past) legal c h = elim (cases_eq e c) [
  | inl same ↦ subst (λ z. z < admits past) same legal.in_turn.0.0
  | inr other ↦ let q = part_of-other (Free y e left) c past other in any_admitted parents past (legal_before parents (Free y e left) past legal) c (rw q at h)
]
any_admitted parents (Done e ∷ past) legal c h = elim (cases_eq e c) [
  | inl same ↦ subst (λ z. z < admits past) same legal.in_turn.0.0
  | inr other ↦ let q = part_of-other (Done e) c past other in any_admitted parents past (legal_before parents (Done e) past legal) c (rw q at h)
]

-- the earliest call of the order that isn't done
record IsEarliest (past : List Event) (order : List ℕ) (c : ℕ) : Type 0 where
  here : stands c order ≡ true
  open_still : is_done c past ≡ false
  earlier : (d : ℕ) → before order d c ≡ true → is_done d past ≡ true

earliest : (past : List Event) (order : List ℕ) → IsDistinct order → ((c : ℕ) × IsEarliest past order c) ⊎ ((c : ℕ) → stands c order ≡ true → is_done c past ≡ true)
earliest past [] once = inr (λ c h. absurd (both_ways false refl h))
earliest past (e ∷ es) once = elim (cases_Bool (is_done e past)) [
  | inl over ↦ elim (earliest past es once.1) [
    | inl found ↦ inl (
      found.0,
      record {
        here = let h = found.1.here in grind (arith, h);
        open_still = found.1.open_still;
        earlier = λ d b. elim (cases_Bool (e == d)) [ inl same ↦ subst (λ z. is_done z past ≡ true) (eqb-true e d same) over | inr other ↦ found.1.earlier d (rw other at b) ];
      },
    )
    | inr all ↦ inr (λ c h. elim (cases_Bool (e == c)) [ inl same ↦ subst (λ z. is_done z past ≡ true) (eqb-true e c same) over | inr other ↦ all c (rw other at h) ])
  ]
  | inr goes_on ↦
      let self = eq-eqb e e refl in
      inl (
        e,
        record {
          here = grind (arith, self);
          open_still = goes_on;
          earlier = λ d b. elim (cases_Bool (e == d)) [
            | inl same ↦ absurd (both_ways (stands e es) once.0 (rw same at b))
            | inr other ↦ let b2 : before es d e ≡ true = rw other at b in absurd (both_ways (stands e es) once.0 (before-right es d e b2))
          ];
        },
      )
]

-- ---- what a call does next in a world

-- the history of a sound world is legal
pub sound_history : (w : World) → IsSound w → IsLegalHistory w.parents w.past
sound_history w sound = legal_history w sound.legal sound.size sound.meanings

-- a list has an element at each position below its length
element : (k : ℕ) (actions : List Action) → k < length actions → (a : Action) × (slice_get actions k ≡ Some a)
element k [] lt = absurd (omega arith)
element zero (b ∷ actions) lt = (b, refl)
element (suc k) (b ∷ actions) lt = element k actions (omega arith)

-- an open call has a next action
pub next_some : (w : World) → Legal w → (c : ℕ) → IsOpen c w.past → (a : Action) × (next_of w c ≡ Some a)
next_some w legal c is_open =
    let h = legal.genuine c is_open.0 in
    let n = length (alone_of (w.meanings c) w.opening w.past c).actions in
    let ne : w.counts c ≢ n = λ (e : w.counts c ≡ n). both_ways (w.counts c == n) (sym h.ended ∙ is_open.1) (eq-eqb (w.counts c) n e) in
    let lt : w.counts c < n = let le = h.within in omega arith in
    element (w.counts c) (alone_of (w.meanings c) w.opening w.past c).actions lt

-- the next action is permitted
pub next_permitted : (w : World) → IsSound w → (c : ℕ) (a : Action) → IsOpen c w.past → next_of w c ≡ Some a → Permitted w.parents (part_of c w.past) a
next_permitted w sound c a is_open next =
    let h = sound.legal.genuine c is_open.0 in
    let t = with_found (part_of c w.past) w.opening in
    let actions = (w.meanings c t).actions in
    let size : length t ≡ length w.parents = length-with_found (part_of c w.past) w.opening ∙ sound.size in
    let p = permitted_at w.parents (w.counts c) actions [] a ((sound.meanings c is_open.0).obeys t size) next in
    subst (λ z. Permitted w.parents z a) (sym h.is_part) (permitted_shared w.parents (taken (w.counts c) actions []) a p)

-- ---- enabled calls

-- the earliest call of the order that isn't done is enabled
earliest_enabled : (w : World) → IsSound w → (order : List ℕ) → KeepsOrder w.parents order w.past → (c : ℕ) → IsEarliest w.past order c → IsEnabled w c
earliest_enabled w sound order k c first =
    let legal = sound_history w sound in
    let m = k.members c in
    let h = first.here in
    let o = first.open_still in
    let any : locked_any (part_of c w.past) ≡ true = grind (arith, m, h, o) in
    let is_open : IsOpen c w.past = (any_admitted w.parents w.past legal c any, first.open_still) in
    record {
      is_open = is_open;
      not_stuck = λ (stuck : IsStuck w c).
          let x = stuck.node in let d = stuck.holder in
          let p : Permitted w.parents (part_of c w.past) (A.Lock x stuck.found) = next_permitted w sound c (A.Lock x stuck.found) is_open stuck.is_next in
          let may = child_may w.parents sound.tree (part_of c w.past) x p.0 (p.1 any) in
          let b = k.ahead x d c (held-locked (part_of d w.past) x stuck.holds) may in
          both_ways (held (part_of d w.past) x) (done_free w.parents w.past legal d x (first.earlier d b)) stuck.holds;
    }

-- while a call is open, some call is enabled
pub some_enabled : (w : World) → IsSound w → (c : ℕ) → IsOpen c w.past → (d : ℕ) × IsEnabled w d
some_enabled w sound c open_c =
    let legal = sound_history w sound in
    let order = placed w.parents w.past in
    let k = placed_keeps_order w.parents sound.tree w.past legal in
    elim (earliest w.past order k.distinct) [
      | inl first ↦ (first.0, earliest_enabled w sound order k first.0 first.1)
      | inr all ↦ (
        c,
        record {
          is_open = open_c;
          not_stuck = λ (stuck : IsStuck w c).
              let x = stuck.node in let d = stuck.holder in
              let l = locked-any (part_of d w.past) x (held-locked (part_of d w.past) x stuck.holds) in
              let m = k.members d in
              both_ways (held (part_of d w.past) x) (done_free w.parents w.past legal d x (all d (grind (arith, m, l)))) stuck.holds;
        },
      )
    ]

free_next : (w : World) → IsSound w → (c : ℕ) → IsEnabled w c → (a : Action) → next_of w c ≡ Some a → IsFree w.past a
free_next w sound c enabled (A.Lock x found) next = λ d. false_from_ne_true (held (part_of d w.past) x) (λ h. elim (cases_eq d c) [
  | inl same ↦
      let p = next_permitted w sound c (A.Lock x found) enabled.is_open next in
      both_ways (locked (part_of c w.past) x) p.0 (held-locked (part_of c w.past) x (subst (λ z. held (part_of z w.past) x ≡ true) same h))
  | inr other ↦ enabled.not_stuck (record { is_open = enabled.is_open; node = x; found = found; holder = d; is_next = next; is_other = other; holds = h })
])
free_next w sound c enabled (A.Read x field value) next = tt
free_next w sound c enabled (A.Write x field value) next = tt
free_next w sound c enabled (A.Free x left) next = tt
free_next w sound c enabled (A.Emit value) next = tt
free_next w sound c enabled A.End next = tt
free_next w sound c enabled A.Plain next = tt

-- an enabled call may take its next action
pub enabled_may_take : (w : World) → IsSound w → (c : ℕ) → IsEnabled w c → (next : Action) × MayTake w c next
enabled_may_take w sound c enabled =
    let e = next_some w sound.legal c enabled.is_open in
    (e.0, record { is_open = enabled.is_open; is_next = e.1; is_free = free_next w sound c enabled e.0 e.1 })

-- a call that may take an action is enabled
pub may_take_enabled : (w : World) (c : ℕ) (next : Action) → MayTake w c next → IsEnabled w c
may_take_enabled w c next may = record {
  is_open = may.is_open;
  not_stuck = λ (stuck : IsStuck w c).
      let e : Some next ≡ Some (A.Lock stuck.node stuck.found) = sym may.is_next ∙ stuck.is_next in
      let same : next ≡ A.Lock stuck.node stuck.found = cc in
      let free : IsFree w.past (A.Lock stuck.node stuck.found) = subst (IsFree w.past) same may.is_free in
      both_ways (held (part_of stuck.holder w.past) stuck.node) (free stuck.holder) stuck.holds;
}

-- while a call is open, some call may take its next action
pub some_may_take : (w : World) → IsSound w → (c : ℕ) → IsOpen c w.past → (d : ℕ) × (next : Action) × MayTake w d next
some_may_take w sound c is_open =
    let e = some_enabled w sound c is_open in
    let m = enabled_may_take w sound e.0 e.1 in
    (e.0, m.0, m.1)
