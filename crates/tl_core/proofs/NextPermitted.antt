-- The next action of a call, and the reserved place for its event.
use Rattle.std.proofs.Common.{◌≡◌, ℕ, suc, ◌+◌, ◌-◌, ◌<◌, ◌≤◌, false, List, [], ◌∷◌, length, ap, ap₂, ◌∙◌, subst, inl, inr, arith, Option, Some, slice_get}
use Rattle.std.specs.Prelude.{min}
use Rattle.std.proofs.lemmas.Bool.{cases_Bool, both_ways}
use Rattle.std.proofs.Math.Nat.{le-min}
use Rattle.tl_tree.specs.Records.{Record}
use Rattle.tl_tree.specs.Trees.{TreeValue}
use Rattle.tl_budget.specs.Loops.{lock_bound}
use Rattle.tl_tree_locking.specs.declared.action.Action.{Action}
use Rattle.tl_tree_locking.specs.declared.action.Action.TheVariants as did
use Rattle.tl_tree_locking.specs.Actions.{locked, freed, taken, lock_count, free_count, EachPermitted}
use Rattle.tl_tree_locking.specs.Alone.{all_taken}
use Rattle.tl_tree_locking.specs.History.{part_of}
use Rattle.tl_tree_locking.specs.World.{alone_of}
use Rattle.tl_tree_locking.proofs.Alone.{taken-next, obeys_taken, finds_at}
use Rattle.tl_tree_locking.proofs.MayComeLemmas.{held-locked}
use Rattle.tl_tree_locking.proofs.Counts.{frees_within, part_locks_within}
use Rattle.tl_tree_locking.proofs.RecordsAlongOrder.{freed-locked}
use Rattle.tl_tree_locking.proofs.SharedActions.{locked-shared_actions}
use Rattle.tl_tree_locking.proofs.WorldSteps.{part_inside}
use Rattle.tl_machine.specs.Runs.{Run, Then, actions}
use Rattle.tl_core.specs.Stored.{Kept}
use Rattle.tl_core.specs.Cores.{CoreValue, call_of, code_of, world_of, places}
use Rattle.tl_core.specs.Kept.{IsCore}
use Rattle.tl_machine.proofs.Along.{onto, taken-onto, length-onto}
use Rattle.tl_core.proofs.ActionEvents.{length-shared, lock_count-shared, lock_count-taken}
use Rattle.tl_core.proofs.CallInWorld.{admitted, found_tree, found_size, rest, whole, count_is, next_first, open_first}

-- a node that wasn't locked wasn't freed
pub unlocked_unfreed : (parents : List ℕ) (done : List Action) (x : ℕ) → EachPermitted parents done → locked done x ≡ false → freed done x ≡ false
unlocked_unfreed parents done x each fresh = elim (cases_Bool (freed done x)) [
  | inl is ↦ absurd (both_ways (locked done x) fresh (freed-locked parents done x each is))
  | inr not ↦ not
]

taken-more : (done more : List Action) (k : ℕ) → taken (length done + k) (onto done more) [] ≡ taken k more done
taken-more [] more k = let e : 0 + k ≡ k = omega arith in ap (λ n. taken n more []) e
taken-more (a ∷ done) more k =
    let e : length (a ∷ done) + k ≡ length done + suc k = omega arith in
    ap (λ n. taken n (onto done (a ∷ more)) []) e ∙ taken-more done (a ∷ more) (suc k)

module _ (v : CoreValue) (now : TreeValue) (kept : List Kept) (holders : List (Option ℕ)) (open_count reserved : ℕ) (h : IsCore v now kept holders open_count reserved) (c : ℕ) (k : Kept) (at : slice_get kept c ≡ Some k) (a : Action) (more : Run) (first : rest v now kept holders open_count reserved h c k at ≡ Then a more) where
  abbrev pub done : List Action
  done = (h.each c k at).done

  abbrev pub acts : List Action
  acts = (alone_of ((world_of v).meanings c) v.opening v.past c).actions

  taken_is : taken (call_of v c).count acts [] ≡ done
  taken_is =
      ap₂ (λ n list. taken n list []) (count_is v now kept holders open_count reserved h c k at) (whole v now kept holders open_count reserved h c k at)
      ∙ taken-onto done (actions (rest v now kept holders open_count reserved h c k at))

  pub next_permitted : EachPermitted v.parents (a ∷ done)
  next_permitted =
      let in_world = admitted v now kept holders open_count reserved h c k at in
      let size = found_size v now kept holders open_count reserved h c k at in
      let obeys = (h.sound.meanings c in_world).obeys (found_tree v now kept holders open_count reserved h c k at) size in
      let next = next_first v now kept holders open_count reserved h c k at a more first in
      subst (EachPermitted v.parents) (taken-next (call_of v c).count acts [] a next ∙ ap (λ d. a ∷ d) taken_is)
      (obeys_taken v.parents (suc (call_of v c).count) acts [] obeys tt)

  pub lock_inside : (x : ℕ) (found : Record) → a ≡ did.Lock x found → x < length v.parents
  lock_inside x found is =
      let in_world = admitted v now kept holders open_count reserved h c k at in
      let size = found_size v now kept holders open_count reserved h c k at in
      let finds = (h.sound.meanings c in_world).finds (found_tree v now kept holders open_count reserved h c k at) size in
      let next = next_first v now kept holders open_count reserved h c k at a more first ∙ ap Some is in
      let lt = (finds_at (found_tree v now kept holders open_count reserved h c k at) (call_of v c).count acts x found finds next).0 in
      omega arith

  pub lock_fresh : (x : ℕ) (found : Record) → a ≡ did.Lock x found → (locked done x ≡ false) × (freed done x ≡ false)
  lock_fresh x found is =
      let p = subst (λ b. EachPermitted v.parents (b ∷ done)) is next_permitted in
      (p.0.0, unlocked_unfreed v.parents done x p.2 p.0.0)

  pub free_inside : (x : ℕ) (left : Record) → a ≡ did.Free x left → x < length v.parents
  free_inside x left is =
      let p = subst (λ b. EachPermitted v.parents (b ∷ done)) is next_permitted in
      let was = held-locked done x p.0 in
      let keep' = h.each c k at in
      part_inside (world_of v) h.sound c x (ap (λ part. locked part x) keep'.part ∙ locked-shared_actions done x ∙ was)

  -- an open call has a place for its next event
  pub some_place : lock_count (all_taken acts) ≤ lock_bound (code_of v c) → 0 < k.places
  some_place bounded =
      let keep' = h.each c k at in
      let p = next_permitted in
      let parted : length (part_of c v.past) ≡ lock_count done + free_count done = ap length keep'.part ∙ length-shared done p.1 in
      let frees = frees_within v.parents done p.2 in
      let in_tree = part_locks_within (world_of v) h.sound c in
      let same : lock_count (part_of c v.past) ≡ lock_count done = ap lock_count keep'.part ∙ lock_count-shared done in
      let left = actions (rest v now kept holders open_count reserved h c k at) in
      let all : lock_count (all_taken acts) ≡ lock_count (taken (length left) left done) =
      ap (λ list. lock_count (all_taken list)) (whole v now kept holders open_count reserved h c k at)
      ∙ ap (λ n. lock_count (taken n (onto done left) [])) (length-onto done left) ∙ ap lock_count (taken-more done left (length left)) in
      let so_far = lock_count-taken (length left) left done in
      let over = (open_first v now kept holders open_count reserved h c k at a more first).1 in
      let owed : k.places ≡ places (code_of v c) (length v.parents) - (length (part_of c v.past) + 1) = let e = keep'.places in rw over at e in
      let least : lock_count done ≤ min (lock_bound (code_of v c)) (length v.parents) = le-min (omega arith) (omega arith) in
      omega arith
