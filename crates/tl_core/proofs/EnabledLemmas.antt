-- Which calls are enabled.
use Rattle.std.proofs.Common.{◌≡◌, ◌≢◌, ℕ, ◌+◌, ◌<◌, ◌≤◌, ◌↔◌, ◌⊎◌, Bool, true, false, not, List, length, refl, sym, ap, ◌∙◌, subst, inl, inr, arith, Option, Some, None, Ok, Err, slice_get, IsTrue}
use Rattle.std.specs.Prelude.{Result, IsOk, IfOk, IsNone, IfSome}
use Rattle.std.specs.Result.{result_unwrap_or}
use Rattle.tl_core.specs.declared.fault.CoreFault.{CoreFault}
use Rattle.std.specs.Option.{is_some}
use Rattle.std.proofs.lemmas.Bool.{cases_eq, both_ways, cases_Bool}
use Rattle.tl_tree.specs.Trees.{TreeValue}
use Rattle.tl_tree_locking.specs.declared.action.Action.{Action}
use Rattle.tl_tree_locking.specs.declared.action.Action.TheVariants as did
use Rattle.tl_tree_locking.specs.History.{is_done, admits, AllDone}
use Rattle.tl_tree_locking.specs.Holders.{holder_of}
use Rattle.tl_tree_locking.specs.World.{World, IsEnabled}
use Rattle.std.proofs.lemmas.Option.{slice_get_within}
use Rattle.tl_core.specs.declared.call.Call.{Call}
use Rattle.tl_core.specs.declared.call.OpenCall.{OpenCall}
use Rattle.tl_tree_locking.proofs.Holders.{holder_stuck}
use Rattle.tl_tree_locking.proofs.NoStandstill.{may_take_enabled, some_enabled}
use Rattle.tl_machine.specs.Runs.{Run, Then, At, Ended}
use Rattle.tl_machine.specs.Turns.{Wants, Stops}
use Rattle.tl_machine.specs.Wants.{want_of}
use Rattle.tl_machine.specs.declared.want.Want.{Want}
use Rattle.tl_machine.specs.declared.want.Want.TheVariants as want
use Rattle.tl_machine.specs.declared.want.Stop.{Stop}
use Rattle.tl_machine.specs.declared.want.Stop.TheVariants as stop
use Rattle.tl_core.specs.Stored.{Kept}
use Rattle.tl_core.specs.Cores.{CoreValue, world_of}
use Rattle.tl_core.specs.Kept.{IsCore, IsWholeCore}
use Rattle.tl_core.proofs.OpenCall.{slot_open}
use Rattle.tl_core.proofs.StoredCalls.{same_item}
use Rattle.tl_machine.proofs.Along.{lock_first}
use Rattle.tl_core.proofs.CallInWorld.{rest, wants_here, next_first, open_first, may_first}
use Rattle.tl_core.proofs.StepExits.{inside_tree}

first_of : (r : Run) (w : Want) → want_of r ≡ w → w ≢ want.Stop stop.Over → (a : Action) × (more : Run) × (r ≡ Then a more)
first_of (Then a more) w h goes = (a, more, refl)
first_of (At p s) w h goes = absurd (goes (sym h))
first_of (Ended s) w h goes = absurd (goes (sym h))

-- a free and the return are no lock, and aren't `Over`
pub unlocking : (s : Stop) → ((x : ℕ) × (s ≡ stop.Free x)) ⊎ (s ≡ stop.Return) → (want.Stop s ≢ want.Stop stop.Over) × ((x : ℕ) → want.Stop s ≢ want.Stop (stop.Lock x))
unlocking s (inl (x, free)) = ((λ e. absurd cc), (λ y e. absurd cc))
unlocking s (inr end) = ((λ e. absurd cc), (λ x e. absurd cc))

module _ (v : CoreValue) (now : TreeValue) (kept : List Kept) (holders : List (Option ℕ)) (open_count reserved : ℕ) (h : IsCore v now kept holders open_count reserved) (c : ℕ) (k : Kept) (at : slice_get kept c ≡ Some k) where
  -- a call whose next action is no lock is enabled
  pub goes_on_enabled : (w : Want) → Wants k.turn w → w ≢ want.Stop stop.Over → ((x : ℕ) → w ≢ want.Stop (stop.Lock x)) → IsEnabled (world_of v) c
  goes_on_enabled w wants goes no_lock =
      let here = wants_here v now kept holders open_count reserved h c k at w wants in
      let first = first_of (rest v now kept holders open_count reserved h c k at) w here goes in
      may_take_enabled (world_of v) c first.0
      (may_first v now kept holders open_count reserved h c k at first.0 first.1 first.2
      (λ x found e. absurd (no_lock x (sym here ∙ ap want_of (first.2 ∙ ap (λ a. Then a first.1) e)))))

  pub lock_enabled : (x : ℕ) → Stops k.turn (stop.Lock x) → (o : Option ℕ) → slice_get holders x ≡ Some o → (b : Bool) → is_some o ≡ not b → IsTrue b ↔ IsEnabled (world_of v) c
  lock_enabled x wants None there true none =
      let first = lock_first (rest v now kept holders open_count reserved h c k at) x (wants_here v now kept holders open_count reserved h c k at (want.Stop (stop.Lock x)) wants) in
      let free : holder_of v.past x ≡ None = same_item (sym (h.holds x (inside_tree v now kept holders open_count reserved h c k at x wants)) ∙ there) in (
        (λ t. may_take_enabled (world_of v) c (did.Lock x first.0)
            (may_first v now kept holders open_count reserved h c k at (did.Lock x first.0) first.1 first.2
            (λ y found e. let same : x ≡ y = cc in subst (λ z. holder_of v.past z ≡ None) same free))),
        (λ e. refl),
      )
  lock_enabled x wants None there false none = absurd cc
  lock_enabled x wants (Some d) there true none = absurd cc
  lock_enabled x wants (Some d) there false none =
      let first = lock_first (rest v now kept holders open_count reserved h c k at) x (wants_here v now kept holders open_count reserved h c k at (want.Stop (stop.Lock x)) wants) in
      let held : holder_of v.past x ≡ Some d = same_item (sym (h.holds x (inside_tree v now kept holders open_count reserved h c k at x wants)) ∙ there) in
      let next = next_first v now kept holders open_count reserved h c k at (did.Lock x first.0) first.1 first.2 in
      let open' = open_first v now kept holders open_count reserved h c k at (did.Lock x first.0) first.1 first.2 in
      ((λ t. absurd cc), (λ e. absurd (e.not_stuck (holder_stuck (world_of v) h.sound c x first.0 d open' next held))))

-- a call was found not to be enabled
pub not_enabled : {E : Type 0} → (r : Result Bool CoreFault) → IsOk r → IfOk r (λ b. IsTrue b ↔ E) → result_unwrap_or r false ≡ false → E → ⊥
not_enabled (Ok b) ok told none e = let t = told.1 e in absurd cc
not_enabled (Err f) ok told none e = absurd cc

-- if no call is enabled, each admitted call is done
pub none_open : (v : CoreValue) (now : TreeValue) (kept : List Kept) (holders : List (Option ℕ)) (open_count reserved : ℕ) → IsCore v now kept holders open_count reserved → (n : ℕ) → admits v.past ≡ n → ((d : ℕ) → d < n → IsEnabled (world_of v) d → ⊥) → AllDone v.past
none_open v now kept holders open_count reserved h n all none c lt = elim (cases_Bool (is_done c v.past)) [
  | inl done ↦ done
  | inr goes ↦
      let some = some_enabled (world_of v) h.sound c (lt, goes) in
      let inside : some.0 < admits v.past = some.1.is_open.0 in
      absurd (none some.0 (omega arith) some.1)
]

-- a call was found to be enabled
pub is_enabled : {E : Type 0} → (r : Result Bool CoreFault) → IfOk r (λ b. IsTrue b ↔ E) → result_unwrap_or r false ≡ true → E
is_enabled (Ok b) told found = told.0 found
is_enabled (Err f) told found = absurd cc

-- ---- the least enabled call

-- the lowest of the enabled calls in the first n slots
pub record IsLeast (w : World) (slots : List OpenCall) (n : ℕ) (least : Option ℕ) : Type 0 where
  pub found : IfSome least (λ e. IsEnabled w e)
  pub below : (i : ℕ) (o : OpenCall) → i < n → slice_get slots i ≡ Some o → IsEnabled w o.call → (e : ℕ) × (least ≡ Some e) × (e ≤ o.call)

pub least_none : (w : World) (slots : List OpenCall) → IsLeast w slots 0 None
least_none w slots = record { found = tt; below = λ i o lt at e. absurd (omega arith) }

-- one more slot, whose call is higher or isn't enabled
pub least_stays : (w : World) (slots : List OpenCall) (n : ℕ) (least : Option ℕ) (o : OpenCall) → slice_get slots n ≡ Some o → IsLeast w slots n least
    → (IsEnabled w o.call → (e : ℕ) × (least ≡ Some e) × (e ≤ o.call)) → IsLeast w slots (n + 1) least
least_stays w slots n least o at h here = record {
  found = h.found;
  below = λ i x lt at_i e. elim (cases_eq i n) [
    | inl same ↦ let one : x ≡ o = same_item (sym at_i ∙ ap (λ k. slice_get slots k) same ∙ at) in subst (λ z. (e : ℕ) × (least ≡ Some e) × (e ≤ z.call)) (sym one) (here (subst (λ z. IsEnabled w z.call) one e))
    | inr other ↦ h.below i x (before i n lt other) at_i e
  ];
}
  where
    before : (i n : ℕ) → i < n + 1 → i ≢ n → i < n
    before i n lt ne = omega (arith, ne)

-- one more slot, whose call is enabled and lower
pub least_moves : (w : World) (slots : List OpenCall) (n : ℕ) (least : Option ℕ) (o : OpenCall) → slice_get slots n ≡ Some o → IsLeast w slots n least
    → IsEnabled w o.call → ((e : ℕ) → least ≡ Some e → o.call ≤ e) → IsLeast w slots (n + 1) (Some o.call)
least_moves w slots n least o at h enabled less = record {
  found = enabled;
  below = λ i x lt at_i e. elim (cases_eq i n) [
    | inl same ↦ let one : x ≡ o = same_item (sym at_i ∙ ap (λ k. slice_get slots k) same ∙ at) in let number : o.call ≡ x.call = ap (λ z. z.call) (sym one) in (o.call, refl, omega arith)
    | inr other ↦ let was = h.below i x (before i n lt other) at_i e in let le = less was.0 was.1 in let le2 = was.2 in (o.call, refl, omega arith)
  ];
}
  where
    before : (i n : ℕ) → i < n + 1 → i ≢ n → i < n
    before i n lt ne = omega (arith, ne)

-- the lowest of all slots, when the loop has gone through them
pub whole_least : (w : World) (slots items : List OpenCall) (n : ℕ) (least : Option ℕ) → items ≡ slots → n ≡ length items → IsLeast w items n least → IsLeast w slots (length slots) least
whole_least w slots items n least same full h = subst (λ l. IsLeast w l (length l) least) same (subst (λ k. IsLeast w items k least) full h)

module _ (v : CoreValue) (now : TreeValue) (calls : List Call) (slots : List OpenCall) (holders : List (Option ℕ)) (reserved capacity : ℕ) (w : IsWholeCore v now calls slots holders reserved capacity) (least : Option ℕ) (h : IsLeast (world_of v) slots (length slots) least) where
  -- an enabled call is open, so it has a slot
  pub least_below : (d : ℕ) → IsEnabled (world_of v) d → (e : ℕ) × (least ≡ Some e) × (e ≤ d)
  least_below d enabled =
      let at = slot_open v now calls slots holders reserved capacity w d enabled.is_open.0 enabled.is_open.1 in
      let found = h.below at.0 at.1 (slice_get_within slots at.0 at.1 at.2) at.2 (subst (IsEnabled (world_of v)) (sym at.3) enabled) in
      let number = at.3 in
      let le = found.2 in
      (found.0, found.1, omega arith)

  pub least_least : IfSome least (λ c. (d : ℕ) → IsEnabled (world_of v) d → c ≤ d)
  least_least = go least least_below
    where
      go : (o : Option ℕ) → ((d : ℕ) → IsEnabled (world_of v) d → (e : ℕ) × (o ≡ Some e) × (e ≤ d)) → IfSome o (λ c. (d : ℕ) → IsEnabled (world_of v) d → c ≤ d)
      go (Some c) all = λ d enabled. let found = all d enabled in let same : c ≡ found.0 = same_item found.1 in let le = found.2 in omega arith
      go None all = tt

  pub none_least : IsNone least ↔ AllDone v.past
  none_least = (
    (λ none. none_open v now w.kept holders (length slots) reserved w.core (admits v.past) refl (λ d lt enabled. let found = least_below d enabled in some_none least found.0 none found.1)),
    (λ all. all_none least h.found all),
  )
    where
      some_none : (o : Option ℕ) (e : ℕ) → IsNone o → o ≡ Some e → ⊥
      some_none (Some c) e none is = absurd cc
      some_none None e none is = absurd cc

      all_none : (o : Option ℕ) → IfSome o (λ e. IsEnabled (world_of v) e) → AllDone v.past → IsNone o
      all_none (Some c) enabled all = absurd (both_ways (is_done c v.past) enabled.is_open.1 (all c enabled.is_open.0))
      all_none None enabled all = refl
