-- A call that is led to the end of a segment.
use Rattle.std.proofs.Common.{◌≡◌, ◌≢◌, ℕ, zero, suc, ◌<◌, false, List, [], ◌∷◌, ◌++◌, length, map, refl, sym, ap, ◌∙◌, subst, Option, Some, slice_get, set, Ok}
use Rattle.std.proofs.lemmas.Bool.{both_ways}
use Rattle.std.proofs.lemmas.Option.{slice_get_within}
use Rattle.tl_tree.specs.Trees.{TreeValue}
use Rattle.tl_tree_locking.specs.declared.action.Action.{Action}
use Rattle.tl_tree_locking.specs.declared.action.Action.TheVariants as did
use Rattle.tl_tree_locking.specs.History.{is_done}
use Rattle.tl_machine.specs.Runs.{Run, Then, At, Ended}
use Rattle.tl_machine.specs.BetweenSteps.{IsLocal}
use Rattle.tl_machine.specs.Turns.{ComesByLocal, here, onward, IsTurn, Stops, with_call}
use Rattle.tl_machine.specs.Wants.{want_of}
use Rattle.tl_machine.specs.declared.call.CallState.{CallState}
use Rattle.tl_machine.specs.declared.want.Want.TheVariants as want
use Rattle.tl_machine.specs.declared.want.Stop.{Stop}
use Rattle.tl_machine.specs.declared.want.Stop.TheVariants as stop
use Rattle.tl_core.specs.declared.stepped.Stepped.TheVariants.{Moved}
use Rattle.tl_core.specs.Stored.{Kept}
use Rattle.tl_core.specs.Cores.{CoreValue, world_of}
use Rattle.tl_core.specs.Entries.{step_answer, after_step}
use Rattle.tl_core.specs.Followed.{Goes, EachLocal, EndsStop, NextEndsStop}
use Rattle.tl_core.specs.Kept.{IsCore, call_value}
use Rattle.tl_machine.proofs.TurnLemmas.{stands_running}
use Rattle.tl_core.proofs.StoredCalls.{slice_get-set_same}
use Rattle.tl_core.proofs.CallInWorld.{rest, wants_here, next_first, open_first, over_done}
use Rattle.tl_core.proofs.StepExits.{local_answer, local_seen, local_kept, inside_tree}

-- ---- lists

set_same : {X : Type 0} → (xs : List X) (i : ℕ) (x : X) → slice_get xs i ≡ Some x → set xs i x ≡ xs
set_same [] i x at = absurd cc
set_same (y ∷ xs) zero x at = let e : x ≡ y = cc in ap (λ z. z ∷ xs) e
set_same (y ∷ xs) (suc i) x at = ap (λ l. y ∷ l) (set_same xs i x at)

set_again : {X : Type 0} → (xs : List X) (i : ℕ) (x y : X) → set (set xs i x) i y ≡ set xs i y
set_again [] i x y = refl
set_again (z ∷ xs) zero x y = refl
set_again (z ∷ xs) (suc i) x y = ap (λ l. z ∷ l) (set_again xs i x y)

-- ---- steps one after another

pub goes_more : (v w u : CoreValue) (c : ℕ) (actions : List Action) (a : Action) → Goes v c actions w → step_answer (world_of w) c ≡ Ok (Moved a) → after_step w c (Ok (Moved a)) ≡ u
    → Goes v c (actions ++ a ∷ []) u
goes_more v w u c [] a goes answer then = (subst (λ z. step_answer (world_of z) c ≡ Ok (Moved a)) (sym goes) answer, ap (λ z. after_step z c (Ok (Moved a))) goes ∙ then)
goes_more v w u c (b ∷ actions) a goes answer then = (goes.0, goes_more (after_step v c (Ok (Moved b))) w u c actions a goes.1 answer then)

pub local_more : (actions : List Action) (a : Action) → EachLocal actions → IsLocal a → EachLocal (actions ++ a ∷ [])
local_more [] a each is = (is, tt)
local_more (b ∷ actions) a each is = (each.0, local_more actions a each.1 is)

-- ---- to the end of a segment

module _ (v : CoreValue) (now : TreeValue) (kept : List Kept) (holders : List (Option ℕ)) (open_count reserved : ℕ) (h : IsCore v now kept holders open_count reserved) (c : ℕ) (k : Kept) (at : slice_get kept c ≡ Some k) where
  abbrev pub kept_on : CallState → Kept
  kept_on d = record { procedure = k.procedure; args = k.args; turn = with_call k.turn d; reply = k.reply; places = k.places }

  abbrev pub kept_led : CallState → List Kept
  kept_led d = set kept c (kept_on d)

  abbrev pub core_led : CallState → CoreValue
  core_led d = record v { calls = map call_value (kept_led d) }

  record IsThere (d : CallState) : Type 0 where
    local : List Action
    each_local : EachLocal local
    core : IsCore (core_led d) now (kept_led d) holders open_count reserved
    goes : Goes v c local (core_led d)

  there : (d : CallState) → ComesByLocal k.turn.code.instrs k.turn.call d → IsThere d
  there d here =
      let same = set_same kept c k at in
      let seen : v ≡ core_led d = λ i. record v { calls = (h.calls ∙ ap (map call_value) (sym same)) i } in
      record {
        local = [];
        each_local = tt;
        core = subst (λ l. IsCore (record v { calls = map call_value l }) now l holders open_count reserved) (sym same) (subst (λ l. IsCore (record v { calls = l }) now kept holders open_count reserved) h.calls h);
        goes = seen;
      }
  there d (onward {c = d1} follows act step) =
      let before = there d1 follows in
      let inside = slice_get_within kept c k at in
      let at1 : slice_get (kept_led d1) c ≡ Some (kept_on d1) = slice_get-set_same kept c (kept_on d1) inside in
      let own = before.core.each c (kept_on d1) at1 in
      let turn = subst (λ ps. IsTurn k.turn.code.instrs ps d1) (sym own.shape) own.turn in
      let steps = step.steps k.turn.parents (stands_running k.turn.code.instrs k.turn.parents d1 turn step.running) in
      let again : set (kept_led d1) c (kept_on d) ≡ kept_led d = set_again kept c (kept_on d1) (kept_on d) in
      record {
        local = before.local ++ act ∷ [];
        each_local = local_more before.local act before.each_local steps.is_local;
        core =
            subst (λ l. IsCore (record v { calls = map call_value l }) now l holders open_count reserved) again
            (local_kept (core_led d1) now (kept_led d1) holders open_count reserved before.core c (kept_on d1) at1 act (with_call k.turn d) refl steps);
        goes =
            goes_more v (core_led d1) (core_led d) c before.local act before.goes
            (sym (local_answer (core_led d1) now (kept_led d1) holders open_count reserved before.core c (kept_on d1) at1 act (with_call k.turn d) refl steps))
            (sym (local_seen (core_led d1) now (kept_led d1) holders open_count reserved before.core c (kept_on d1) at1 act (with_call k.turn d) refl steps) ∙ ap (λ l. record v { calls = map call_value l }) again);
      }

  module _ (d : CallState) (follows : ComesByLocal k.turn.code.instrs k.turn.call d) where
    pub led_core : IsCore (core_led d) now (kept_led d) holders open_count reserved
    led_core = (there d follows).core

    pub led_local : List Action
    led_local = (there d follows).local

    pub led_each : EachLocal led_local
    unfolding led_local
    led_each = (there d follows).each_local

    pub led_goes : Goes v c led_local (core_led d)
    unfolding led_local
    led_goes = (there d follows).goes

    -- a node that is locked at the stop is one of the tree's nodes
    pub led_inside : (x : ℕ) → Stops (with_call k.turn d) (stop.Lock x) → x < length v.parents
    led_inside x stops =
        inside_tree (core_led d) now (kept_led d) holders open_count reserved led_core c (kept_on d) (slice_get-set_same kept c (kept_on d) (slice_get_within kept c k at)) x stops

  -- ---- the action of a stop

  -- the first action of a run that stops
  first_action : (r : Run) (s : Stop) → want_of r ≡ want.Stop s → s ≢ stop.Over → (a : Action) × (more : Run) × (r ≡ Then a more) × EndsStop s a
  first_action (Then (did.Lock x found) more) s wants goes = let e : s ≡ stop.Lock x = cc in (did.Lock x found, more, refl, e)
  first_action (Then (did.Free x left) more) s wants goes = let e : s ≡ stop.Free x = cc in (did.Free x left, more, refl, e)
  first_action (Then did.End more) s wants goes = let e : s ≡ stop.Return = cc in (did.End, more, refl, e)
  first_action (Then did.Plain more) s wants goes = absurd cc
  first_action (Then (did.Read x f n) more) s wants goes = absurd cc
  first_action (Then (did.Write x f n) more) s wants goes = absurd cc
  first_action (Then (did.Emit n) more) s wants goes = absurd cc
  first_action (At p q) s wants goes = let e : s ≡ stop.Over = cc in absurd (goes e)
  first_action (Ended q) s wants goes = let e : s ≡ stop.Over = cc in absurd (goes e)

  pub next_at_stop : is_done c v.past ≡ false → (s : Stop) → Stops k.turn s → NextEndsStop v c s
  next_at_stop goes_on s stops =
      let first = first_action (rest v now kept holders open_count reserved h c k at) s (wants_here v now kept holders open_count reserved h c k at (want.Stop s) stops)
      (λ over. both_ways (is_done c v.past) goes_on (over_done v now kept holders open_count reserved h c k at (subst (Stops k.turn) over stops))) in
      record {
        is_open = open_first v now kept holders open_count reserved h c k at first.0 first.1 first.2;
        next = first.0;
        is_next = next_first v now kept holders open_count reserved h c k at first.0 first.1 first.2;
        ends = first.3;
      }
