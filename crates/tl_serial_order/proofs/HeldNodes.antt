-- The number of nodes held, by a list of holders and by the history.
use Rattle.std.proofs.Common.{◌≡◌, ℕ, zero, suc, ◌+◌, ◌≤◌, List, length, replicate, take, Option, None, refl, ap, ◌∙◌, inl, inr, arith}
use Rattle.std.specs.Prelude.{is_some, cond}
use Rattle.std.proofs.lemmas.Bool.{cases_Bool}
use Rattle.std.proofs.lemmas.List.{take_all}
use Rattle.std.proofs.lemmas.List.Folds.{sum_by-replicate}
use Rattle.std.proofs.lemmas.List.Sums.{count_by_more_yes, count_by_more_no}
use Rattle.tl_tree_locking.specs.declared.event.Event.{Event}
use Rattle.tl_tree_locking.specs.Holders.{holder_of}
use Rattle.tl_tree_locking.specs.Placing.{held_below, AreHolders}
use Rattle.tl_tree_locking.proofs.PlacingLemmas.{held_below-grows}
use Rattle.tl_serial_order.specs.Kept.{count_held}

pub count_held-none : (n : ℕ) → count_held (replicate n None) ≡ 0
count_held-none n = omega (arith, sum_by-replicate {X = Option ℕ} (λ holder. cond (is_some holder) 1 0) n None)

-- both count the same among the first n nodes
held_below-take : (holders : List (Option ℕ)) (past : List Event) → AreHolders holders past → (n : ℕ) → n ≤ length holders
    → held_below n past ≡ count_held (take n holders)
held_below-take holders past are zero within = refl
held_below-take holders past are (suc n) within =
    let ih = held_below-take holders past are n (omega arith) in
    let entry = ap is_some (are n (omega arith)) in
    let e : n + 1 ≡ suc n = omega arith in
    let taken = ap (λ m. count_held (take m holders)) e in
    elim (cases_Bool (is_some (holder_of past n))) [
      | inl held ↦ let more = count_by_more_yes is_some holders n None (omega arith) (entry ∙ held) in rw held (omega (arith, ih, more, taken))
      | inr free ↦ let more = count_by_more_no is_some holders n None (omega arith) (entry ∙ free) in rw free (omega (arith, ih, more, taken))
    ]

-- the nodes held below x are at most all nodes held
pub held_below-all : (holders : List (Option ℕ)) (past : List Event) → AreHolders holders past → (x : ℕ) → x ≤ length holders
    → held_below x past ≤ count_held holders
held_below-all holders past are x within =
    let grows = held_below-grows past x (length holders) within in
    let same = held_below-take holders past are (length holders) (omega arith) in
    let whole = ap count_held (take_all (length holders) holders (omega arith)) in
    omega (arith, grows, same, whole)
