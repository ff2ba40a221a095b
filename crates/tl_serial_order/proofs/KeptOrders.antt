-- A stored order, after one more event.
use Rattle.std.proofs.Common.{◌≡◌, ℕ, ◌<◌, true, false, List, ◌∷◌, length, get_or, set, Option, Some, None, refl, sym, ap, ◌∙◌, subst, inl, inr, arith}
use Rattle.std.specs.Prelude.{insert, slice_get}
use Rattle.std.proofs.lemmas.Bool.{cases_eq, eq-eqb, ne_eqb}
use Rattle.std.proofs.lemmas.List.{get_or-set_same, get_or-set_other, length-set}
use Rattle.tl_tree.specs.Records.{Record}
use Rattle.tl_tree.specs.Shape.{IsTree}
use Rattle.tl_tree_locking.specs.declared.event.Event.{Event}
use Rattle.tl_tree_locking.specs.declared.event.Event.TheVariants.{Lock}
use Rattle.tl_tree_locking.specs.Actions.{locked_any}
use Rattle.tl_tree_locking.specs.History.{part_of, IsLegalHistory}
use Rattle.tl_tree_locking.specs.Order.{stands, put_before, placed}
use Rattle.tl_tree_locking.specs.Placing.{is_call, coming_calls, AreHolders, AreUnder}
use Rattle.tl_tree_locking.proofs.PartLemmas.{legal_before}
use Rattle.tl_tree_locking.proofs.PlacedAgrees.{placed-agrees}
use Rattle.tl_tree_locking.proofs.PlacingLemmas.{placed_before_nearest, keeps_rules, AreUnder-first, AreUnder-more}
use Rattle.tl_serial_order.specs.Kept.{KeptValue, IsKept}

-- the holders after a lock
AreHolders-lock : (holders : List (Option ℕ)) (past : List Event) (c x : ℕ) (found : Record) → AreHolders holders past → AreHolders (set holders x (Some c)) (Lock x c found ∷ past)
AreHolders-lock holders past c x found are y lt =
    let size = length-set holders x (Some c) in
    let inside : y < length holders = omega (arith, lt, size) in
    elim (cases_eq x y) [
      | inl same ↦
          let q = eq-eqb x y same in
          let here : x < length holders = omega (arith, inside, same) in
          ap (λ z. get_or (set holders x (Some c)) z None) (sym same) ∙ get_or-set_same holders x (Some c) None here ∙ rw q refl
      | inr other ↦
          let q = ne_eqb x y other in
          get_or-set_other holders x y (Some c) None (λ w. other (sym w)) ∙ are y inside ∙ rw q refl
    ]

-- a call that locks a node was in the order exactly if it had locked one before
stands-locked : (parents : List ℕ) → IsTree parents → (past : List Event) (c x : ℕ) (found : Record) → IsLegalHistory parents (Lock x c found ∷ past)
    → stands c (placed parents past) ≡ locked_any (part_of c past)
stands-locked parents tree past c x found legal =
    let before = legal_before parents (Lock x c found) past legal in
    let m = (placed-agrees parents tree past before).members c in
    let open_now = (keeps_rules parents tree past before (Lock x c found) legal).0.1 in
    grind (arith, m, open_now)

pub kept_again : (parents : List ℕ) → IsTree parents → (k : KeptValue) (past : List Event) (c x : ℕ) (found : Record) → stands c k.order.calls ≡ true → IsKept k parents past
    → IsLegalHistory parents (Lock x c found ∷ past) → IsKept (record k { holders = set k.holders x (Some c); under = set k.under x (Some c) }) parents (Lock x c found ∷ past)
kept_again parents tree k past c x found there kept legal =
    let before = legal_before parents (Lock x c found) past legal in
    let stays : stands c (placed parents past) ≡ true = subst (λ o. stands c o ≡ true) kept.order there in
    let some = sym (stands-locked parents tree past c x found legal) ∙ stays in
    let is = placed_before_nearest parents tree past before c x found in
    record {
      order = kept.order ∙ sym (is ∙ (rw stays refl));
      holders = AreHolders-lock k.holders past c x found kept.holders;
      under = AreUnder-more parents tree k.under past c x found legal some kept.under;
    }

pub kept_first : (parents : List ℕ) → IsTree parents → (k l : KeptValue) (past : List Event) (c x place : ℕ) (found : Record) → stands c k.order.calls ≡ false → IsKept k parents past
    → IsLegalHistory parents (Lock x c found ∷ past)
    → put_before (is_call (slice_get (coming_calls parents past x) 0)) c k.order.calls ≡ insert k.order.calls place c
    → l.order.calls ≡ insert k.order.calls place c → l.holders ≡ set k.holders x (Some c) → l.under ≡ k.under
    → IsKept l parents (Lock x c found ∷ past)
kept_first parents tree k l past c x place found out kept legal at order_is holders_are under_are =
    let before = legal_before parents (Lock x c found) past legal in
    let new : stands c (placed parents past) ≡ false = subst (λ o. stands c o ≡ false) kept.order out in
    let none = sym (stands-locked parents tree past c x found legal) ∙ new in
    let is = placed_before_nearest parents tree past before c x found in
    let put : placed parents (Lock x c found ∷ past) ≡ put_before (is_call (slice_get (coming_calls parents past x) 0)) c (placed parents past) = is ∙ (rw new refl) in
    record {
      order = order_is ∙ sym at ∙ ap (put_before (is_call (slice_get (coming_calls parents past x) 0)) c) kept.order ∙ sym put;
      holders = subst (λ h. AreHolders h (Lock x c found ∷ past)) (sym holders_are) (AreHolders-lock k.holders past c x found kept.holders);
      under = subst (λ u. AreUnder parents u (Lock x c found ∷ past)) (sym under_are) (AreUnder-first parents tree k.under past c x found legal none kept.under);
    }
