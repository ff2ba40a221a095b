-- The result of following a segment.
use Rattle.std.proofs.Common.{◌≡◌, ◌≢◌, ℕ, List, [], ◌∷◌, ◌++◌, Bool, true, false, refl, sym, ap, ◌∙◌, subst, Option, Some, None, Ok, if◌then◌else◌}
use Rattle.std.specs.Prelude.{Result}
use Rattle.std.proofs.lemmas.Bool.{lt-ltb, both_ways, eq-eqb}
use Rattle.tl_tree_locking.specs.declared.action.Action.{Action}
use Rattle.tl_tree_locking.specs.declared.action.Action.TheVariants as did
use Rattle.tl_tree_locking.specs.History.{admits, is_done}
use Rattle.tl_tree_locking.specs.Holders.{holder_of}
use Rattle.tl_tree_locking.specs.World.{as_found}
use Rattle.tl_machine.specs.Turns.{SegmentValue}
use Rattle.tl_machine.specs.BetweenSteps.{IsLocal}
use Rattle.tl_machine.specs.declared.want.Stop.{Stop}
use Rattle.tl_machine.specs.declared.want.Stop.TheVariants as stop
use Rattle.tl_core.specs.declared.fault.CoreFault.{CoreFault}
use Rattle.tl_core.specs.declared.stepped.Stepped.{Stepped}
use Rattle.tl_core.specs.declared.stepped.Stepped.TheVariants.{Moved}
use Rattle.tl_core.specs.Cores.{CoreValue, CoreState, world_of}
use Rattle.tl_core.specs.Entries.{node_of, stepped_by, step_answer, after_step}
use Rattle.tl_core.specs.Followed.{Goes, EndsStop, NextEndsStop, IsInTheWay, IsLed, HasGone}
use Rattle.tl_core.proofs.FollowLemmas.{goes_more}
use Rattle.tl_core.proofs.StoredCalls.{same_item}

-- if no other call holds the stop's node, the call does the action at its stop
by_action : (v : CoreValue) (s : Stop) (a : Action) → EndsStop s a → ((x d : ℕ) → IsInTheWay v s x d → ⊥)
    → (b : Action) × (stepped_by (world_of v) a (holder_of v.past (node_of a)) ≡ Moved b) × EndsStop s b
by_action v s (did.Lock x found) ends free = by_holder (holder_of v.past x) refl
  where
    by_holder : (o : Option ℕ) → holder_of v.past x ≡ o → (b : Action) × (stepped_by (world_of v) (did.Lock x found) o ≡ Moved b) × EndsStop s b
    by_holder (Some d) held = absurd (free x d (record { locks = ends; holder = held }))
    by_holder None held = (as_found (world_of v) (did.Lock x found), refl, ends)
by_action v s (did.Free x left) ends free = (did.Free x left, refl, ends)
by_action v s did.End ends free = (did.End, refl, ends)
by_action v s did.Plain ends free = absurd ends
by_action v s (did.Read x f n) ends free = absurd ends
by_action v s (did.Write x f n) ends free = absurd ends
by_action v s (did.Emit n) ends free = absurd ends

-- the step that does this action
pub stop_step : (v : CoreValue) (c : ℕ) (s : Stop) → NextEndsStop v c s → ((x d : ℕ) → IsInTheWay v s x d → ⊥) → (b : Action) × (step_answer (world_of v) c ≡ Ok (Moved b)) × EndsStop s b
stop_step v c s next free =
    let known = lt-ltb c (admits v.past) next.is_open.0 in
    let goes_on = next.is_open.1 in
    let is_next = next.is_next in
    let b = by_action v s next.next next.ends free in
    (b.0, rw (known, goes_on, is_next) (ap Ok b.1), b.2)

-- the action that was done is the one at the stop
pub ends_by : (v : CoreValue) (c : ℕ) (s : Stop) → NextEndsStop v c s → ((x d : ℕ) → IsInTheWay v s x d → ⊥) → (a : Action) → Ok (Moved a) ≡ step_answer (world_of v) c → EndsStop s a
ends_by v c s next free a answer =
    let b = stop_step v c s next free in
    let both : Ok (Moved b.0) ≡ Ok (Moved a) = sym b.1 ∙ sym answer in
    let same : b.0 ≡ a = cc in
    subst (EndsStop s) same b.2

-- the stop isn't held while nothing happens
pub still_free : (v w : CoreValue) (s : Stop) → w.past ≡ v.past → ((x d : ℕ) → IsInTheWay v s x d → ⊥) → (x d : ℕ) → IsInTheWay w s x d → ⊥
still_free v w s same free x d way = free x d (record { locks = way.locks; holder = ap (λ past. holder_of past x) (sym same) ∙ way.holder })

-- so the segment's local actions and the action at its stop were done
pub has_gone : (v w u : CoreState) (c : ℕ) (segment : SegmentValue) → IsLed v c w → NextEndsStop w.seen c segment.stop → ((x d : ℕ) → IsInTheWay v.seen segment.stop x d → ⊥)
    → ((x d : ℕ) → IsInTheWay w.seen segment.stop x d → ⊥)
    → (r : Result Stepped CoreFault) → r ≡ step_answer (world_of w.seen) c → u.seen ≡ after_step w.seen c r → HasGone v c segment u
has_gone v w u c segment led next none free r answer after =
    let b = stop_step w.seen c segment.stop next free in
    record {
      local = led.local;
      each_local = led.each_local;
      last = b.0;
      is_last = b.2;
      goes = goes_more v.seen w.seen u.seen c led.local b.0 led.goes b.1 (ap (after_step w.seen c) (sym b.1 ∙ sym answer) ∙ sym after);
      free = none;
    }

-- the action at a stop isn't local
pub no_local_ends : (s : Stop) (a : Action) → EndsStop s a → IsLocal a → ⊥
no_local_ends s (did.Lock x found) ends is = is
no_local_ends s (did.Free x left) ends is = is
no_local_ends s did.End ends is = is
no_local_ends s did.Plain ends is = ends
no_local_ends s (did.Read x f n) ends is = ends
no_local_ends s (did.Write x f n) ends is = ends
no_local_ends s (did.Emit n) ends is = ends

pub none_ends_over : (a : Action) → EndsStop stop.Over a → ⊥
none_ends_over (did.Lock x found) e = absurd cc
none_ends_over (did.Free x left) e = absurd cc
none_ends_over did.End e = absurd cc
none_ends_over did.Plain ends = ends
none_ends_over (did.Read x f n) ends = ends
none_ends_over (did.Write x f n) ends = ends
none_ends_over (did.Emit n) ends = ends

-- a reply is returned for a call that is done, and none for an open one
pub some_reply : {X : Type 0} → (b : Bool) (x y : X) → Some y ≡ (if b then Some x else None) → (b ≡ true) × (y ≡ x)
some_reply true x y is = (refl, same_item is)
some_reply false x y is = absurd cc

pub none_reply : {X : Type 0} → (b : Bool) (x : X) → None ≡ (if b then Some x else None) → b ≡ false
none_reply true x is = absurd cc
none_reply false x is = refl

-- a call that isn't done after its action hasn't ended by it
pub is_no_end : (v w : CoreValue) (c : ℕ) (a : Action) → w ≡ after_step v c (Ok (Moved a)) → is_done c w.past ≡ false → a ≢ did.End
is_no_end v w c a after goes_on ends =
    let ended : is_done c (after_step v c (Ok (Moved did.End))).past ≡ true = rw (eq-eqb c c refl) refl in
    both_ways (is_done c w.past) goes_on (ap (λ u. is_done c u.past) (after ∙ ap (λ b. after_step v c (Ok (Moved b))) ends) ∙ ended)

-- a call that is done after its action, and wasn't before, has ended by it
pub is_end : (v : CoreValue) (c : ℕ) (a : Action) → is_done c v.past ≡ false → is_done c (after_step v c (Ok (Moved a))).past ≡ true → a ≡ did.End
is_end v c did.End goes_on done = refl
is_end v c (did.Lock x found) goes_on done = absurd (both_ways (is_done c v.past) goes_on done)
is_end v c (did.Free x left) goes_on done = absurd (both_ways (is_done c v.past) goes_on done)
is_end v c did.Plain goes_on done = absurd (both_ways (is_done c v.past) goes_on done)
is_end v c (did.Read x f n) goes_on done = absurd (both_ways (is_done c v.past) goes_on done)
is_end v c (did.Write x f n) goes_on done = absurd (both_ways (is_done c v.past) goes_on done)
is_end v c (did.Emit n) goes_on done = absurd (both_ways (is_done c v.past) goes_on done)

-- so a call that is done after its stop has returned there
pub returned : (v w : CoreValue) (c : ℕ) (s : Stop) → NextEndsStop v c s → ((x d : ℕ) → IsInTheWay v s x d → ⊥) → (r : Result Stepped CoreFault) → r ≡ step_answer (world_of v) c → w ≡ after_step v c r
    → is_done c w.past ≡ true → s ≡ stop.Return
returned v w c s next free r answer after done =
    let b = stop_step v c s next free in
    let behind : w ≡ after_step v c (Ok (Moved b.0)) = after ∙ ap (after_step v c) (answer ∙ b.1) in
    subst (EndsStop s) (is_end v c b.0 next.is_open.1 (ap (λ u. is_done c u.past) (sym behind) ∙ done)) b.2

-- steps don't change the shape
goes_parents : (v w : CoreValue) (c : ℕ) (actions : List Action) → Goes v c actions w → w.parents ≡ v.parents
goes_parents v w c [] goes = ap (λ u. u.parents) (sym goes)
goes_parents v w c (a ∷ actions) goes = goes_parents (after_step v c (Ok (Moved a))) w c actions goes.1

pub gone_parents : (v w : CoreState) (c : ℕ) (segment : SegmentValue) → HasGone v c segment w → w.seen.parents ≡ v.seen.parents
gone_parents v w c segment gone = goes_parents v.seen w.seen c (gone.local ++ gone.last ∷ []) gone.goes
