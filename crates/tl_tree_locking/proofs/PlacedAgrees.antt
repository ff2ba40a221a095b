-- The order of a history agrees with it: an invariant that each event keeps.
use Rattle.std.proofs.Common.{◌≡◌, ℕ, ◌==◌, ◌||◌, Bool, true, false, List, [], ◌∷◌, ◌++◌, refl, sym, subst, inl, inr, arith}
use Rattle.std.proofs.lemmas.Bool.{cases_Bool, cases_eq, both_ways, ne_eqb, eq-eqb}
use Rattle.tl_tree.specs.Records.{Record}
use Rattle.tl_tree.specs.Shape.{parent, IsTree}
use Rattle.tl_tree_locking.specs.declared.action.Action.{Action}
use Rattle.tl_tree_locking.specs.declared.action.Action.TheVariants as A
use Rattle.tl_tree_locking.specs.declared.event.Event.{Event}
use Rattle.tl_tree_locking.specs.declared.event.Event.TheVariants.{Admit, Lock, Free, Done}
use Rattle.tl_tree_locking.specs.Actions.{is_lock, locked, held, locked_any, has_ended, Permitted, EachPermitted, may_come}
use Rattle.tl_tree_locking.specs.History.{caller, part_of, is_done, Apart, IsLegalHistory}
use Rattle.tl_tree_locking.specs.Order.{stands, before, IsDistinct, put_before, placed, InLockOrder, Agrees}
use Rattle.tl_tree_locking.proofs.MayComeLemmas.{held-locked, locked-any, child_pos, may_parts, may_below, child_may, may_up, may_shrinks, may_child_shrinks, may_any}
use Rattle.tl_tree_locking.proofs.Orders.{stands-put, IsDistinct-put, before-put, put-before_passing, before_put_call, put_before-none}
use Rattle.tl_tree_locking.proofs.PartLemmas.{part_of-lock, part_of-free, part_of-done, part_of-other, legal_before, locked-lock, exclusive, locked-free, locked_any-free, locked-done, locked_any-done}

-- the invariant: besides agreeing, a call that has locked a node comes before each call that may still lock it
pub record KeepsOrder (parents order : List ℕ) (past : List Event) : Type 0 where
  pub distinct : IsDistinct order
  pub members : (c : ℕ) → stands c order ≡ (locked_any (part_of c past) || is_done c past)
  pub in_lock_order : InLockOrder order past
  pub ahead : (x c d : ℕ) → locked (part_of c past) x ≡ true → may_come parents (part_of d past) x ≡ true → before order c d ≡ true

in_lock_order-more : (order longer : List ℕ) → ((a b : ℕ) → before order a b ≡ true → before longer a b ≡ true) → (past : List Event) → InLockOrder order past → InLockOrder longer past
in_lock_order-more order longer more [] h = tt
in_lock_order-more order longer more (Admit c ∷ past) h = in_lock_order-more order longer more past h
in_lock_order-more order longer more (Lock x d found ∷ past) h = (λ c l. more c d (h.0 c l), in_lock_order-more order longer more past h.1)
in_lock_order-more order longer more (Free x c left ∷ past) h = in_lock_order-more order longer more past h
in_lock_order-more order longer more (Done c ∷ past) h = in_lock_order-more order longer more past h

-- after a lock of a node whose parent is held, calls may still lock only nodes that they could lock before
may_lock_before : (parents : List ℕ) → IsTree parents → (past : List Event) (c x : ℕ) (found : Record)
    → locked (part_of c past) x ≡ false → held (part_of c past) (parent parents x) ≡ true
    → (d y : ℕ) → may_come parents (part_of d (Lock x c found ∷ past)) y ≡ true → may_come parents (part_of d past) y ≡ true
may_lock_before parents tree past c x found fresh under d y may = elim (cases_eq c d) [
  | inl same ↦
      let m : may_come parents (part_of c (Lock x c found ∷ past)) y ≡ true = subst (λ e. may_come parents (part_of e (Lock x c found ∷ past)) y ≡ true) (sym same) may in
      let q = part_of-lock c x found past in
      subst (λ e. may_come parents (part_of e past) y ≡ true) same (may_child_shrinks parents tree (part_of c past) x found fresh under y (rw q at m))
  | inr other ↦ let q = part_of-other (Lock x c found) d past other in rw q at may
]

-- a call that locks a node may not lock it again
not_again : (parents : List ℕ) (past : List Event) (c x : ℕ) (found : Record) → may_come parents (part_of c (Lock x c found ∷ past)) x ≡ true → ⊥
not_again parents past c x found may =
    let q = part_of-lock c x found past in
    let m = may_parts parents (A.Lock x found ∷ part_of c past) x (rw q at may) in
    let self = eq-eqb x x refl in
    grind (arith, m.0, self)

-- the invariant after a lock of a node whose parent is held
kept_child : (parents : List ℕ) → IsTree parents → (order : List ℕ) (past : List Event) (c x : ℕ) (found : Record) → Apart past → KeepsOrder parents order past
    → locked_any (part_of c past) ≡ true → locked (part_of c past) x ≡ false → held (part_of c past) (parent parents x) ≡ true → KeepsOrder parents order (Lock x c found ∷ past)
kept_child parents tree order past c x found apart old some fresh under = record {
  distinct = old.distinct;
  members = λ d. elim (cases_eq c d) [
    | inl same ↦
        let m = old.members d in
        let q = eq-eqb c d same in
        let s : locked_any (part_of d past) ≡ true = subst (λ e. locked_any (part_of e past) ≡ true) same some in
        rw q (grind (arith, m, s))
    | inr other ↦ let q = part_of-other (Lock x c found) d past other in rw q (old.members d)
  ];
  in_lock_order = (λ e l. old.ahead x e c l (child_may parents tree (part_of c past) x fresh under), old.in_lock_order);
  ahead = λ y e d l may.
      let may_old = may_lock_before parents tree past c x found fresh under d y may in
      elim (locked-lock c x found past e y l) [
        | inl new ↦
            let may_x : may_come parents (part_of d (Lock x c found ∷ past)) x ≡ true = subst (λ z. may_come parents (part_of d (Lock x c found ∷ past)) z ≡ true) (sym new.1) may in
            let old_x : may_come parents (part_of d past) x ≡ true = subst (λ z. may_come parents (part_of d past) z ≡ true) (sym new.1) may_old in
            let pos = child_pos parents tree (part_of c past) x fresh under in
            subst (λ z. before order z d ≡ true) new.0 (
            elim (cases_eq c d) [
              | inl same ↦ absurd (not_again parents past c x found (subst (λ z. may_come parents (part_of z (Lock x c found ∷ past)) x ≡ true) (sym same) may_x))
              | inr other ↦
                  let free : held (part_of d past) (parent parents x) ≡ false = elim (cases_Bool (held (part_of d past) (parent parents x))) [ inl h ↦ absurd (other (exclusive past apart c d (parent parents x) under h)) | inr h ↦ h ] in
                  old.ahead (parent parents x) c d (held-locked (part_of c past) (parent parents x) under) (may_up parents tree (part_of d past) x pos old_x free)
            ])
        | inr before' ↦ old.ahead y e d before' may_old
      ];
}

-- the invariant after a call's first lock
kept_first : (parents : List ℕ) → IsTree parents → (order : List ℕ) (past : List Event) (c x : ℕ) (found : Record) → ((d : ℕ) → EachPermitted parents (part_of d past)) → KeepsOrder parents order past
    → locked_any (part_of c past) ≡ false → stands c order ≡ false
    → KeepsOrder parents (put_before (λ d. may_come parents (part_of d past) x) c order) (Lock x c found ∷ past)
kept_first parents tree order past c x found obeys old none out =
    let test : ℕ → Bool = λ d. may_come parents (part_of d past) x in
    let more : (a b : ℕ) → before order a b ≡ true → before (put_before test c order) a b ≡ true = before-put test c order out in
    let member : (d y : ℕ) → locked (part_of d past) y ≡ true → stands d order ≡ true = λ d y l. let m = old.members d in let s = locked-any (part_of d past) y l in grind (arith, m, s) in
    record {
      distinct = IsDistinct-put test c order out old.distinct;
      members = λ d. elim (cases_eq c d) [
        | inl same ↦ let q = eq-eqb c d same in let s = stands-put test c order d in rw q (grind (arith, s, q))
        | inr other ↦ let q = part_of-other (Lock x c found) d past other in let s = stands-put test c order d in let m = old.members d in let ne = ne_eqb c d other in rw q (grind (arith, s, ne, m))
      ];
      in_lock_order = (λ e l. before_put_call test c order out old.distinct e (member e x l) (λ d k pass. old.ahead x e d l pass), in_lock_order-more order (put_before test c order) more past old.in_lock_order);
      ahead = λ y e d l may. elim (cases_eq c d) [
        | inl same ↦
            let mine : may_come parents (part_of c (Lock x c found ∷ past)) y ≡ true = subst (λ z. may_come parents (part_of z (Lock x c found ∷ past)) y ≡ true) (sym same) may in
            let q = part_of-lock c x found past in
            let m = may_parts parents (A.Lock x found ∷ part_of c past) y (rw q at mine) in
            subst (λ z. before (put_before test c order) e z ≡ true) same (elim (locked-lock c x found past e y l) [
              | inl new ↦ absurd (not_again parents past c x found (subst (λ z. may_come parents (part_of c (Lock x c found ∷ past)) z ≡ true) (sym new.1) mine))
              | inr earlier ↦ before_put_call test c order out old.distinct e (member e y earlier)
                  (λ d' k pass. old.ahead y e d' earlier (may_below parents tree (part_of c past) (part_of d' past) x found none (obeys d') pass y m.1))
            ])
        | inr other ↦
            let q = part_of-other (Lock x c found) d past other in
            let may_old : may_come parents (part_of d past) y ≡ true = rw q at may in
            elim (locked-lock c x found past e y l) [
              | inl new ↦
                  let any = may_any parents tree (part_of d past) y may_old in
                  let in_order : stands d order ≡ true = let m = old.members d in grind (arith, m, any) in
                  let pass : may_come parents (part_of d past) x ≡ true = subst (λ z. may_come parents (part_of d past) z ≡ true) (sym new.1) may_old in
                  subst (λ z. before (put_before test c order) z d ≡ true) new.0 (put-before_passing test c order out d in_order pass)
              | inr earlier ↦ more e d (old.ahead y e d earlier may_old)
            ]
      ];
    }

-- after an event that isn't a lock, calls may still lock only nodes that they could lock before
own_shrinks : (parents : List ℕ) → IsTree parents → (a : Action) → is_lock a ≡ false → (e : Event) (past : List Event) → part_of (caller e) (e ∷ past) ≡ a ∷ part_of (caller e) past
    → (d y : ℕ) → may_come parents (part_of d (e ∷ past)) y ≡ true → may_come parents (part_of d past) y ≡ true
own_shrinks parents tree a plain e past own d y may = elim (cases_eq (caller e) d) [
  | inl same ↦
      let mine : may_come parents (part_of (caller e) (e ∷ past)) y ≡ true = subst (λ z. may_come parents (part_of z (e ∷ past)) y ≡ true) (sym same) may in
      subst (λ z. may_come parents (part_of z past) y ≡ true) same (may_shrinks parents tree a (part_of (caller e) past) plain y (rw own at mine))
  | inr other ↦ let q = part_of-other e d past other in rw q at may
]

kept_free : (parents : List ℕ) → IsTree parents → (order : List ℕ) (past : List Event) (c x : ℕ) (left : Record) → KeepsOrder parents order past → KeepsOrder parents order (Free x c left ∷ past)
kept_free parents tree order past c x left old = record {
  distinct = old.distinct;
  members = λ d. let m = old.members d in let q = locked_any-free c x left past d in grind (arith, m, q);
  in_lock_order = old.in_lock_order;
  ahead = λ y e d l may. let q = locked-free c x left past e y in
      old.ahead y e d (rw q at l) (own_shrinks parents tree (A.Free x left) refl (Free x c left) past (part_of-free c x left past) d y may);
}

-- the invariant after a call is done, where the call occurs in the longer order
kept_done : (parents : List ℕ) → IsTree parents → (order longer : List ℕ) (past : List Event) (c : ℕ) → KeepsOrder parents order past
    → IsDistinct longer → ((d : ℕ) → stands d longer ≡ ((c == d) || stands d order)) → ((a b : ℕ) → before order a b ≡ true → before longer a b ≡ true)
    → KeepsOrder parents longer (Done c ∷ past)
kept_done parents tree order longer past c old distinct members more = record {
  distinct = distinct;
  members = λ d. let m = old.members d in let q = locked_any-done c past d in let s = members d in grind (arith, m, q, s);
  in_lock_order = in_lock_order-more order longer more past old.in_lock_order;
  ahead = λ y e d l may. let q = locked-done c past e y in
      more e d (old.ahead y e d (rw q at l) (own_shrinks parents tree A.End refl (Done c) past (part_of-done c past) d y may));
}

already : (c : ℕ) (order : List ℕ) → stands c order ≡ true → (d : ℕ) → stands d order ≡ ((c == d) || stands d order)
already c order here d = elim (cases_eq c d) [ inl same ↦ let h : stands d order ≡ true = subst (λ z. stands z order ≡ true) same here in grind (arith, h) | inr other ↦ let ne = ne_eqb c d other in rw ne refl ]

pub placed_keeps_order : (parents : List ℕ) → IsTree parents → (past : List Event) → IsLegalHistory parents past → KeepsOrder parents (placed parents past) past
placed_keeps_order parents tree [] legal = record { distinct = tt; members = λ c. refl; in_lock_order = tt; ahead = λ x c d l may. absurd (both_ways false refl l) }
placed_keeps_order parents tree (Admit c ∷ past) legal =
    let old = placed_keeps_order parents tree past (legal_before parents (Admit c) past legal) in
    record { distinct = old.distinct; members = old.members; in_lock_order = old.in_lock_order; ahead = old.ahead }
placed_keeps_order parents tree (Lock x c found ∷ past) legal =
    let legal' = legal_before parents (Lock x c found) past legal in
    let old = placed_keeps_order parents tree past legal' in
    let order = placed parents past in
    let m = old.members c in
    let q = part_of-lock c x found past in
    let mine : Permitted parents (part_of c past) (A.Lock x found) × (has_ended (part_of c past) ≡ false) × EachPermitted parents (part_of c past) = rw q at (legal.obeys c) in
    let goes_on : is_done c past ≡ false = legal.in_turn.0.1 in
    elim (cases_Bool (stands c order)) [
      | inl here ↦
          let some : locked_any (part_of c past) ≡ true = grind (arith, m, goes_on, here) in
          rw here (kept_child parents tree order past c x found legal'.apart old some mine.0.0 (mine.0.1 some))
      | inr out ↦
          let none : locked_any (part_of c past) ≡ false = grind (arith, m, goes_on, out) in
          rw out (kept_first parents tree order past c x found legal'.obeys old none out)
    ]
placed_keeps_order parents tree (Free x c left ∷ past) legal = kept_free parents tree (placed parents past) past c x left (placed_keeps_order parents tree past (legal_before parents (Free x c left) past legal))
placed_keeps_order parents tree (Done c ∷ past) legal =
    let old = placed_keeps_order parents tree past (legal_before parents (Done c) past legal) in
    let order = placed parents past in
    elim (cases_Bool (stands c order)) [
      | inl here ↦ rw here (kept_done parents tree order order past c old old.distinct (already c order here) (λ a b h. h))
      | inr out ↦
          let none_pass : ℕ → Bool = λ d. false in
          let same : order ++ c ∷ [] ≡ put_before none_pass c order = sym (put_before-none c order) in
          rw (out, same) (kept_done parents tree order (put_before none_pass c order) past c old (IsDistinct-put none_pass c order out old.distinct) (stands-put none_pass c order) (before-put none_pass c order out))
    ]

-- the order of a legal history agrees with it
pub placed-agrees : (parents : List ℕ) → IsTree parents → (past : List Event) → IsLegalHistory parents past → Agrees (placed parents past) past
placed-agrees parents tree past legal = let k = placed_keeps_order parents tree past legal in record { distinct = k.distinct; members = k.members; in_lock_order = k.in_lock_order }
