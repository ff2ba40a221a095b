-- The order of events that are checked one by one, after one more event.
use Rattle.std.proofs.Common.{◌≡◌, ◌≢◌, ℕ, not, ◌+◌, ◌<◌, ◌≤◌, ◌==◌, Bool, true, false, List, ◌∷◌, length, Some, sym, ap, ◌∙◌, subst, inl, inr, arith}
use Rattle.std.specs.Prelude.{All, IsTrue, nat_eq, get_or, slice_set, Option}
use Rattle.std.specs.Option.{option_eq}
use Rattle.std.proofs.lemmas.Bool.{cases_Bool, cases_eq, cases_lt, both_ways, ne_eqb, eq-eqb}
use Rattle.std.proofs.lemmas.List.{get_or-set_same, get_or-set_other}
use Rattle.tl_tree.specs.Records.{Record}
use Rattle.tl_tree.specs.declared.shape.TheConstants.{MAX_NODES}
use Rattle.tl_tree.specs.Shape.{IsTree, parent}
use Rattle.tl_tree_locking.specs.declared.action.Action.TheVariants as A
use Rattle.tl_tree_locking.specs.declared.event.Event.{Event}
use Rattle.tl_tree_locking.specs.declared.event.Event.TheVariants.{Lock, Free, Done}
use Rattle.tl_tree_locking.specs.Actions.{held, locked_any, lock_count, free_count, Permitted}
use Rattle.tl_tree_locking.specs.History.{caller, part_of, is_done, IsOpen, IsLegalHistory}
use Rattle.tl_tree_locking.specs.Holders.{holder_of}
use Rattle.tl_tree_locking.specs.Nodes.{IsOfNodes}
use Rattle.tl_tree_locking.specs.Order.{stands, placed}
use Rattle.tl_tree_locking.specs.Placing.{under_of}
use Rattle.tl_tree_locking.specs.Rules.{KeepsRules}
use Rattle.tl_tree_locking.proofs.Counts.{frees_within, counts-none_held, locks_within}
use Rattle.tl_tree_locking.proofs.Holders.{holder-held}
use Rattle.tl_tree_locking.proofs.MayComeLemmas.{locked-any, held-locked}
use Rattle.tl_tree_locking.proofs.NoStandstill.{done_free, any_admitted}
use Rattle.tl_tree_locking.proofs.PartLemmas.{part_of-lock, part_of-free, part_of-other}
use Rattle.tl_tree_locking.proofs.PlacedAgrees.{placed-agrees}
use Rattle.tl_tree_locking.proofs.PlacingLemmas.{is_call-some, some-is_call, option_eq-call, lock_permitted, permitted_lock}
use Rattle.tl_tree_locking.proofs.RulesLemmas.{locked_inside}

-- ---- what is kept, after one more event

-- no call locks more nodes than there are
holding_few : (parents : List ℕ) (past : List Event) → IsLegalHistory parents past → All (IsOfNodes (length parents)) past → (c : ℕ) → lock_count (part_of c past) ≤ length parents
holding_few parents past legal inside c =
    locks_within parents (length parents) (part_of c past) (legal.obeys c) (λ x l. locked_inside (length parents) past inside c x l)

abbrev Counted : ℕ → List ℕ → List Event → Type 0
Counted calls holding past = (k : ℕ) → k < calls → lock_count (part_of k past) ≡ free_count (part_of k past) + get_or holding k 0

-- the number of nodes that a call holds after its own event is the one that was set
counted-set : (calls : ℕ) (past : List Event) (e : Event) (holding : List ℕ) → caller e < length holding → Counted calls holding past → (n : ℕ)
    → (caller e < calls → lock_count (part_of (caller e) (e ∷ past)) ≡ free_count (part_of (caller e) (e ∷ past)) + n)
    → Counted calls (slice_set holding (caller e) n) (e ∷ past)
counted-set calls past e holding inside h n own k lt = elim (cases_eq (caller e) k) [
  | inl same ↦
      subst (λ i. i < calls → lock_count (part_of i (e ∷ past)) ≡ free_count (part_of i (e ∷ past)) + get_or (slice_set holding (caller e) n) i 0) same
      (λ l. own l ∙ ap (λ v. free_count (part_of (caller e) (e ∷ past)) + v) (sym (get_or-set_same holding (caller e) n 0 inside)))
      lt
  | inr other ↦
      let q = part_of-other e k past other in
      let now = get_or-set_other holding (caller e) k n 0 (λ s. other (sym s)) in
      let before = h k lt in
      rw q (omega (arith, before, now))
]

module _ (calls : ℕ) (past : List Event) (c x : ℕ) (r : Record) (holding : List ℕ) (inside : c < length holding) (h : Counted calls holding past) (n : ℕ) where
  pub holding-lock : n ≡ get_or holding c 0 + 1 → Counted calls (slice_set holding c n) (Lock x c r ∷ past)
  holding-lock is =
      let locks : lock_count (part_of c (Lock x c r ∷ past)) ≡ lock_count (part_of c past) + 1 = ap lock_count (part_of-lock c x r past) in
      let frees : free_count (part_of c (Lock x c r ∷ past)) ≡ free_count (part_of c past) = ap free_count (part_of-lock c x r past) in
      counted-set calls past (Lock x c r) holding inside h n (λ lt. let before = h c lt in omega (arith, before, locks, frees, is))

  pub holding-free : n + 1 ≡ get_or holding c 0 → Counted calls (slice_set holding c n) (Free x c r ∷ past)
  holding-free is =
      let locks : lock_count (part_of c (Free x c r ∷ past)) ≡ lock_count (part_of c past) = ap lock_count (part_of-free c x r past) in
      let frees : free_count (part_of c (Free x c r ∷ past)) ≡ free_count (part_of c past) + 1 = ap free_count (part_of-free c x r past) in
      counted-set calls past (Free x c r) holding inside h n (λ lt. let before = h c lt in omega (arith, before, locks, frees, is))

pub holding-done : (calls : ℕ) (past : List Event) (c : ℕ) (holding : List ℕ) → Counted calls holding past → Counted calls holding (Done c ∷ past)
holding-done calls past c holding h k lt = elim (cases_Bool (c == k)) [ inl q ↦ rw q (h k lt) | inr q ↦ rw q (h k lt) ]

pub done-done : (calls : ℕ) (past : List Event) (c : ℕ) (done : List Bool) → c < length done → ((k : ℕ) → k < calls → get_or done k false ≡ is_done k past)
    → (k : ℕ) → k < calls → get_or (slice_set done c true) k false ≡ is_done k (Done c ∷ past)
done-done calls past c done inside h k lt = elim (cases_eq c k) [
  | inl same ↦
      let q = eq-eqb c k same in
      rw q (subst (λ i. get_or (slice_set done c true) i false ≡ true) same (get_or-set_same done c true false inside))
  | inr other ↦
      let q = ne_eqb c k other in
      rw q (get_or-set_other done c k true false (λ e. other (sym e)) ∙ h k lt)
]

-- a call that locks a node has locked fewer than MAX_NODES before
pub lock_room : (parents : List ℕ) → IsTree parents → (past : List Event) (c x : ℕ) (found : Record) → IsLegalHistory parents (Lock x c found ∷ past)
    → All (IsOfNodes (length parents)) (Lock x c found ∷ past) → lock_count (part_of c past) + 1 ≤ MAX_NODES
lock_room parents tree past c x found legal inside =
    let most : lock_count (part_of c (Lock x c found ∷ past)) ≤ length parents = holding_few parents (Lock x c found ∷ past) legal inside c in
    let few : length parents ≤ MAX_NODES = tree.few in
    let one : lock_count (part_of c (Lock x c found ∷ past)) ≡ lock_count (part_of c past) + 1 = ap lock_count (part_of-lock c x found past) in
    omega (arith, most, few, one)

-- a call that frees a node holds at least one
pub holds_one : (parents : List ℕ) (past : List Event) (c x : ℕ) (left : Record) → IsLegalHistory parents past → KeepsRules parents past (Free x c left) → free_count (part_of c past) < lock_count (part_of c past)
holds_one parents past c x left legal rules =
    let each = legal.obeys c in
    let few = frees_within parents (part_of c past) each in
    elim (cases_lt (free_count (part_of c past)) (lock_count (part_of c past))) [
      | inl less ↦ less
      | inr not_so ↦ absurd (both_ways (held (part_of c past) x) (counts-none_held parents (part_of c past) each (omega (arith, few, not_so)) x) rules.permitted)
    ]

-- an open call is in the order exactly if it has locked a node
pub stands_begun : (parents : List ℕ) → IsTree parents → (past : List Event) → IsLegalHistory parents past → (c : ℕ) → is_done c past ≡ false → stands c (placed parents past) ≡ locked_any (part_of c past)
stands_begun parents tree past legal c open' =
    let m = (placed-agrees parents tree past legal).members c in
    grind (arith, m, open')

-- a call that holds a node is open
pub holder_open : (parents : List ℕ) (past : List Event) → IsLegalHistory parents past → (c x : ℕ) → holder_of past x ≡ Some c → IsOpen c past
holder_open parents past legal c x holds =
    let own = holder-held parents past legal c x holds in
    let done = part_of c past in (
      any_admitted parents past legal c (locked-any done x (held-locked done x own)),
      elim (cases_Bool (is_done c past)) [ inl over ↦ absurd (both_ways (held done x) (done_free parents past legal c x over) own) | inr still ↦ still ],
    )

-- ---- whether it is this call

pub is_this : (b : Bool) (o : Option ℕ) (c : ℕ) → b ≡ option_eq nat_eq o (Some c) → (IsTrue b → o ≡ Some c) × (o ≡ Some c → IsTrue b)
is_this b o c is = (
  λ t. is_call-some o c (sym (option_eq-call o c) ∙ sym is ∙ t),
  λ some. is ∙ option_eq-call o c ∙ some-is_call o c some,
)

pub is_other : (b : Bool) (o : Option ℕ) (c : ℕ) → b ≡ not (option_eq nat_eq o (Some c)) → (b ≡ true → o ≢ Some c) × (b ≡ false → o ≡ Some c)
is_other b o c is = (
  λ t some. let same = option_eq-call o c in let call = some-is_call o c some in absurd (grind (arith, is, t, same, call)),
  λ f. let same = option_eq-call o c in is_call-some o c (grind (arith, is, f, same)),
)

-- ---- whether a call that has locked a node may lock this one

module _ (parents : List ℕ) (tree : IsTree parents) (past : List Event) (legal : IsLegalHistory parents past) (c x : ℕ) (found : Record) where
  pub first_lock : locked_any (part_of c past) ≡ false → Permitted parents (part_of c past) (A.Lock x found)
  first_lock none = permitted_lock parents tree past legal c x found (λ some. absurd (both_ways (locked_any (part_of c past)) none some))

  pub not_under : locked_any (part_of c past) ≡ true → ((0 < x) → holder_of past (parent parents x) ≡ Some c → ⊥) → ¬ Permitted parents (part_of c past) (A.Lock x found)
  not_under begun other p = let h = lock_permitted parents tree past legal c x found p begun in other h.0 h.1

  pub under_again : locked_any (part_of c past) ≡ true → under_of parents past x ≡ Some c → ¬ Permitted parents (part_of c past) (A.Lock x found)
  under_again begun again p = let h = lock_permitted parents tree past legal c x found p begun in h.2 again

  pub under_first : 0 < x → holder_of past (parent parents x) ≡ Some c → under_of parents past x ≢ Some c → Permitted parents (part_of c past) (A.Lock x found)
  under_first pos holds other = permitted_lock parents tree past legal c x found (λ some. (pos, holds, other))
