-- The holder in a history is the one call that holds the node.
use Rattle.std.proofs.Common.{◌≢◌, ◌≡◌, ℕ, ◌==◌, true, false, List, [], ◌∷◌, refl, sym, ap, subst, inl, inr, arith, ◌⊎◌, Option, Some, None}
use Rattle.std.proofs.lemmas.Bool.{cases_Bool, cases_eq, false_from_ne_true, both_ways, ne_eqb, eq-eqb}
use Rattle.tl_tree.specs.Records.{Record}
use Rattle.tl_tree.specs.Shape.{IsTree, Above}
use Rattle.tl_tree_locking.specs.declared.action.Action.{Action}
use Rattle.tl_tree_locking.specs.declared.action.Action.TheVariants as A
use Rattle.tl_tree_locking.specs.declared.event.Event.{Event}
use Rattle.tl_tree_locking.specs.declared.event.Event.TheVariants.{Admit, Lock, Free, Done}
use Rattle.tl_tree_locking.specs.Actions.{locked, held, has_ended, Permitted, EachPermitted, may_come}
use Rattle.tl_tree_locking.specs.History.{part_of, IsOpen, IsLegalHistory}
use Rattle.tl_tree_locking.specs.World.{World, IsSound, next_of, IsStuck, IsFree, MayTake}
use Rattle.tl_tree_locking.specs.Holders.{holder_of}
use Rattle.tl_tree_locking.proofs.MayComeLemmas.{held-locked, may_come_holds}
use Rattle.tl_tree_locking.proofs.PartLemmas.{part_of-free, part_of-done, part_of-other, legal_before, held-lock, held-free, held-done, exclusive}
use Rattle.tl_tree_locking.proofs.RecordsAlongOrder.{free_held}
use Rattle.tl_tree_locking.proofs.NoStandstill.{sound_history, next_permitted}

held-free_back : (c x : ℕ) (left : Record) (past : List Event) (d y : ℕ) → held (part_of d past) y ≡ true → held (part_of d (Free x c left ∷ past)) y ≡ true ⊎ (c ≡ d) × (x ≡ y)
held-free_back c x left past d y h = elim (cases_eq c d) [
  | inl same ↦ elim (cases_eq x y) [
    | inl node ↦ inr (same, node)
    | inr other ↦ let q = eq-eqb c d same in let ne = ne_eqb x y other in inl (rw q (rw ne (grind (arith, h))))
  ]
  | inr other ↦ let q = part_of-other (Free x c left) d past other in inl (rw q h)
]

-- a call that holds a node is its holder
pub held-holder : (parents : List ℕ) (past : List Event) → IsLegalHistory parents past → (d x : ℕ) → held (part_of d past) x ≡ true → holder_of past x ≡ Some d
held-holder parents [] legal d x h = absurd (both_ways false refl h)
held-holder parents (Admit c ∷ past) legal d x h = held-holder parents past (legal_before parents (Admit c) past legal) d x h
held-holder parents (Done c ∷ past) legal d x h = held-holder parents past (legal_before parents (Done c) past legal) d x (held-done c past d x h)
held-holder parents (Lock y c found ∷ past) legal d x h =
    let legal' = legal_before parents (Lock y c found) past legal in
    elim (held-lock c y found past d x h) [
      | inl new ↦ let q = eq-eqb y x new.1 in rw q (ap Some new.0)
      | inr old ↦
          let ne : (y == x) ≡ false = elim (cases_eq y x) [
            | inl same ↦ absurd (both_ways (held (part_of d past) x) (subst (λ z. held (part_of d past) z ≡ false) same (legal.apart.0 d)) old)
            | inr other ↦ ne_eqb y x other
          ] in rw ne (held-holder parents past legal' d x old)
    ]
held-holder parents (Free y c left ∷ past) legal d x h =
    let legal' = legal_before parents (Free y c left) past legal in
    let old = held-free c y left past d x h in
    let ne : (y == x) ≡ false = elim (cases_eq y x) [
      | inl same ↦
          let mine : held (part_of c past) x ≡ true = subst (λ z. held (part_of c past) z ≡ true) same (free_held parents c y left past legal) in
          let one = exclusive past legal'.apart c d x mine old in
          let q = part_of-free c y left past in
          let h2 : held (part_of c (Free y c left ∷ past)) x ≡ true = subst (λ z. held (part_of z (Free y c left ∷ past)) x ≡ true) (sym one) h in
          let h3 : held (A.Free y left ∷ part_of c past) x ≡ true = rw q at h2 in
          let self = eq-eqb y x same in
          grind (arith, h3, self)
      | inr other ↦ ne_eqb y x other
    ] in
    rw ne (held-holder parents past legal' d x old)

-- the holder holds the node
pub holder-held : (parents : List ℕ) (past : List Event) → IsLegalHistory parents past → (d x : ℕ) → holder_of past x ≡ Some d → held (part_of d past) x ≡ true
holder-held parents [] legal d x h = absurd cc
holder-held parents (Admit c ∷ past) legal d x h = holder-held parents past (legal_before parents (Admit c) past legal) d x h
holder-held parents (Done c ∷ past) legal d x h =
    let legal' = legal_before parents (Done c) past legal in
    let old = holder-held parents past legal' d x h in
    elim (cases_eq c d) [
      | inl same ↦
          let q = part_of-done c past in
          let mine : Permitted parents (part_of c past) A.End × (has_ended (part_of c past) ≡ false) × EachPermitted parents (part_of c past) = rw q at (legal.obeys c) in
          absurd (both_ways (held (part_of d past) x) (subst (λ z. held (part_of z past) x ≡ false) same (mine.0 x)) old)
      | inr other ↦ let q = part_of-other (Done c) d past other in rw q old
    ]
holder-held parents (Lock y c found ∷ past) legal d x h = elim (cases_Bool (y == x)) [
  | inl same ↦
      let who : Some c ≡ Some d = rw same at h in
      let e : c ≡ d = cc in
      let q = eq-eqb c d e in
      rw q (grind (arith, same))
  | inr other ↦
      let old = holder-held parents past (legal_before parents (Lock y c found) past legal) d x (rw other at h) in
      elim (cases_Bool (c == d)) [ inl q ↦ rw q (grind (arith, old)) | inr q ↦ rw q old ]
]
holder-held parents (Free y c left ∷ past) legal d x h = elim (cases_Bool (y == x)) [
  | inl same ↦ let o : Option ℕ = None in let none : o ≡ Some d = rw same at h in absurd cc
  | inr other ↦
      let old = holder-held parents past (legal_before parents (Free y c left) past legal) d x (rw other at h) in
      elim (held-free_back c y left past d x old) [ inl kept ↦ kept | inr mine ↦ absurd (both_ways (y == x) other (eq-eqb y x mine.1)) ]
]

-- no call holds a node without a holder
pub nobody_holds : (parents : List ℕ) (past : List Event) → IsLegalHistory parents past → (x : ℕ) → holder_of past x ≡ None → (d : ℕ) → held (part_of d past) x ≡ false
nobody_holds parents past legal x none d = false_from_ne_true (held (part_of d past) x) (λ h. let some = held-holder parents past legal d x h in absurd cc)

-- an action is free if the node that it locks has no holder
pub free_without_holder : (parents : List ℕ) (past : List Event) → IsLegalHistory parents past → (a : Action) → ((x : ℕ) (found : Record) → a ≡ A.Lock x found → holder_of past x ≡ None) → IsFree past a
free_without_holder parents past legal (A.Lock x found) none = nobody_holds parents past legal x (none x found refl)
free_without_holder parents past legal (A.Read x field value) none = tt
free_without_holder parents past legal (A.Write x field value) none = tt
free_without_holder parents past legal (A.Free x left) none = tt
free_without_holder parents past legal (A.Emit value) none = tt
free_without_holder parents past legal A.End none = tt
free_without_holder parents past legal A.Plain none = tt

-- a call that may still lock x is the holder of a node strictly above x
pub coming_holder : (parents : List ℕ) → IsTree parents → (past : List Event) → IsLegalHistory parents past → (c x : ℕ) → may_come parents (part_of c past) x ≡ true
    → (y : ℕ) × Above parents y x × (y ≢ x) × (holder_of past y ≡ Some c)
coming_holder parents tree past legal c x may =
    let h = may_come_holds parents tree (part_of c past) x may in
    (h.0, h.1, h.2, held-holder parents past legal c h.0 h.3)

-- ---- stuck calls

-- the call that a stuck call waits for is the holder of the node
pub stuck_holder : (w : World) → IsSound w → (c : ℕ) (stuck : IsStuck w c) → holder_of w.past stuck.node ≡ Some stuck.holder
stuck_holder w sound c stuck = held-holder w.parents w.past (sound_history w sound) stuck.holder stuck.node stuck.holds

-- a call whose next lock is of a node with a holder is stuck
pub holder_stuck : (w : World) → IsSound w → (c x : ℕ) (found : Record) (d : ℕ) → IsOpen c w.past → next_of w c ≡ Some (A.Lock x found) → holder_of w.past x ≡ Some d → IsStuck w c
holder_stuck w sound c x found d is_open next h =
    let holds = holder-held w.parents w.past (sound_history w sound) d x h in
    let p = next_permitted w sound c (A.Lock x found) is_open next in
    record {
      is_open = is_open;
      node = x;
      found = found;
      holder = d;
      is_next = next;
      is_other = λ (same : d ≡ c). both_ways (locked (part_of c w.past) x) p.0 (held-locked (part_of c w.past) x (subst (λ z. held (part_of z w.past) x ≡ true) same holds));
      holds = holds;
    }

-- an open call may take its next action if the node that it locks has no holder
pub holderless_may_take : (w : World) → IsSound w → (c : ℕ) (next : Action) → IsOpen c w.past → next_of w c ≡ Some next → ((x : ℕ) (found : Record) → next ≡ A.Lock x found → holder_of w.past x ≡ None) → MayTake w c next
holderless_may_take w sound c next is_open is_next none = record { is_open = is_open; is_next = is_next; is_free = free_without_holder w.parents w.past (sound_history w sound) next none }
