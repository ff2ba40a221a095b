-- The order of a core after a step of a call.
use Rattle.std.proofs.Common.{◌≡◌, ℕ, ◌<◌, List, [], ◌∷◌, ◌++◌, Option, Some, None, Ok, ℤ, length, refl, sym, ap, ◌∙◌, subst, arith}
use Rattle.std.specs.Prelude.{All, Result, Err, IfOk, OnErr}
use Rattle.std.specs.Option.{option_map_or}
use Rattle.tl_tree.specs.Records.{Record}
use Rattle.tl_tree.specs.Shape.{IsTree}
use Rattle.tl_tree_locking.specs.declared.action.Action.{Action}
use Rattle.tl_tree_locking.specs.declared.action.Action.TheVariants as did
use Rattle.tl_tree_locking.specs.declared.event.Event.{Event}
use Rattle.tl_tree_locking.specs.declared.event.Event.TheVariants.{Admit, Lock, Free, Done}
use Rattle.tl_tree_locking.specs.History.{admits, IsLegalHistory}
use Rattle.tl_tree_locking.specs.Nodes.{IsOfNodes}
use Rattle.tl_tree_locking.specs.World.{past_after}
use Rattle.tl_machine.specs.BetweenSteps.{IsLocal}
use Rattle.tl_machine.specs.declared.want.Stop.{Stop}
use Rattle.tl_machine.specs.declared.want.Stop.TheVariants as stop
use Rattle.tl_machine.specs.Turns.{SegmentValue}
use Rattle.tl_core.specs.Cores.{CoreState, CoreValue}
use Rattle.tl_procedures.specs.Names.{number_of}
use Rattle.tl_core.specs.Entries.{after_step, with_call_of, Admits}
use Rattle.tl_core.specs.Followed.{Goes, HasGone, EachLocal, EndsStop, Proceeds}
use Rattle.tl_core.specs.declared.fault.CoreFault.{CoreFault}
use Rattle.tl_core.specs.declared.stepped.Stepped.{Stepped}
use Rattle.tl_core.specs.declared.stepped.Stepped.TheVariants.{Moved, Blocked, Over}
use Rattle.tl_serial_order.proofs.LegalEvents.{caller_known}
use Rattle.tl_serial_order.specs.Kept.{KeptValue, IsKept, IsOfSize}
use Rattle.tl_serial.specs.Running.{IsOrderOf, IsStopInside, HasStopped}

-- a local action adds no event
pub local_past : (c : ℕ) (a : Action) (past : List Event) → IsLocal a → past_after c a past ≡ past
local_past c (did.Lock x found) past is = absurd is
local_past c (did.Free x left) past is = absurd is
local_past c did.End past is = absurd is
local_past c (did.Read x f n) past is = refl
local_past c (did.Write x f n) past is = refl
local_past c (did.Emit n) past is = refl
local_past c did.Plain past is = refl

-- the call that did the action at its stop was admitted
pub stopped_known : (parents : List ℕ) → IsTree parents → (c : ℕ) (s : Stop) (a : Action) (past : List Event) → EndsStop s a → IsLegalHistory parents (past_after c a past) → c < admits (past_after c a past)
stopped_known parents tree c s (did.Lock x found) past ends legal = caller_known parents tree (Lock x c found) past legal
stopped_known parents tree c s (did.Free x left) past ends legal = caller_known parents tree (Free x c left) past legal
stopped_known parents tree c s did.End past ends legal = caller_known parents tree (Done c) past legal
stopped_known parents tree c s (did.Read x f n) past ends legal = absurd ends
stopped_known parents tree c s (did.Write x f n) past ends legal = absurd ends
stopped_known parents tree c s (did.Emit n) past ends legal = absurd ends
stopped_known parents tree c s did.Plain past ends legal = absurd ends

-- the node of the stop is one of the tree's nodes
pub stop_inside : (count c : ℕ) (s : Stop) (a : Action) (past : List Event) → EndsStop s a → All (IsOfNodes count) (past_after c a past) → IsStopInside count s
stop_inside count c s (did.Lock x found) past ends inside = let here : x < count = inside 0 (Admit 0) (omega arith) in subst (IsStopInside count) (sym ends) here
stop_inside count c s (did.Free x left) past ends inside = let here : x < count = inside 0 (Admit 0) (omega arith) in subst (IsStopInside count) (sym ends) here
stop_inside count c s did.End past ends inside = subst (IsStopInside count) (sym ends) tt
stop_inside count c s (did.Read x f n) past ends inside = absurd ends
stop_inside count c s (did.Write x f n) past ends inside = absurd ends
stop_inside count c s (did.Emit n) past ends inside = absurd ends
stop_inside count c s did.Plain past ends inside = absurd ends

-- a call that does local actions and then one more adds only the event of the last
pub goes_past : (v w : CoreValue) (c : ℕ) (local : List Action) (last : Action) → EachLocal local → Goes v c (local ++ last ∷ []) w → w.past ≡ past_after c last v.past
goes_past v w c [] last each goes = sym (ap (λ u. u.past) goes.1)
goes_past v w c (a ∷ local) last each goes =
    goes_past (after_step v c (Ok (Moved a))) w c local last each.1 goes.1 ∙ ap (past_after c last) (local_past c a v.past each.0)

pub goes_parents : (v w : CoreValue) (c : ℕ) (actions : List Action) → Goes v c actions w → w.parents ≡ v.parents
goes_parents v w c [] goes = sym (ap (λ u. u.parents) goes)
goes_parents v w c (a ∷ actions) goes = goes_parents (after_step v c (Ok (Moved a))) w c actions goes.1

local_goes_past : (v w : CoreValue) (c : ℕ) (local : List Action) → EachLocal local → Goes v c local w → w.past ≡ v.past
local_goes_past v w c [] each goes = sym (ap (λ u. u.past) goes)
local_goes_past v w c (a ∷ local) each goes = local_goes_past (after_step v c (Ok (Moved a))) w c local each.1 goes.1 ∙ local_past c a v.past each.0

-- a call that proceeds adds only the event of its last step
pub proceeds_past : (v w : CoreState) (c : ℕ) (a : Action) → Proceeds v c (Moved a) w → w.seen.past ≡ past_after c a v.seen.past
proceeds_past v w c a p = ap (λ u. u.past) p.then ∙ ap (past_after c a) (local_goes_past v.seen p.there c p.local p.each_local p.goes)

pub proceeds_parents : (v w : CoreState) (c : ℕ) (a : Action) → Proceeds v c (Moved a) w → w.seen.parents ≡ v.seen.parents
proceeds_parents v w c a p = ap (λ u. u.parents) p.then ∙ goes_parents v.seen p.there c p.local p.goes

-- it adds none if that step isn't a lock, a free or an end
pub proceeds_still : (v w : CoreState) (c : ℕ) (r : Result Stepped CoreFault) → IfOk r (λ s. Proceeds v c s w) → OnErr r (w ≡ v)
    → ((a : Action) → r ≡ Ok (Moved a) → IsLocal a) → (w.seen.past ≡ v.seen.past) × (w.seen.parents ≡ v.seen.parents)
proceeds_still v w c (Ok (Moved a)) p same local = absurd (p.is_last (local a refl))
proceeds_still v w c (Ok (Blocked x d)) p same local = (ap (λ u. u.past) p.then ∙ local_goes_past v.seen p.there c p.local p.each_local p.goes, ap (λ u. u.parents) p.then ∙ goes_parents v.seen p.there c p.local p.goes)
proceeds_still v w c (Ok Over) p same local = (ap (λ u. u.past) p.then ∙ local_goes_past v.seen p.there c p.local p.each_local p.goes, ap (λ u. u.parents) p.then ∙ goes_parents v.seen p.there c p.local p.goes)
proceeds_still v w c (Err e) p same local = (ap (λ u. u.seen.past) same, ap (λ u. u.seen.parents) same)

pub proceeds_stopped : (v w : CoreState) (c : ℕ) (s : Stop) (a : Action) → EndsStop s a → Proceeds v c (Moved a) w → HasStopped w.seen c s v.seen.past
proceeds_stopped v w c s a ends p = record { last = a; ends = ends; past_is = proceeds_past v w c a p }

-- a property of every lock of the node is a property of what the call did at this stop
pub at_lock : (P : List Event → Type 0) (c x : ℕ) (s : Stop) (last : Action) (past : List Event) → s ≡ stop.Lock x → EndsStop s last
    → ((found : Record) → P (Lock x c found ∷ past)) → P (past_after c last past)
at_lock P c x s (did.Lock y found) past is ends each =
    let both : stop.Lock y ≡ stop.Lock x = sym ends ∙ is in
    let same : y ≡ x = cc in
    subst (λ z. P (Lock z c found ∷ past)) (sym same) (each found)
at_lock P c x s (did.Free y left) past is ends each = let both : stop.Free y ≡ stop.Lock x = sym ends ∙ is in absurd cc
at_lock P c x s did.End past is ends each = let both : stop.Return ≡ stop.Lock x = sym ends ∙ is in absurd cc
at_lock P c x s (did.Read y f n) past is ends each = absurd ends
at_lock P c x s (did.Write y f n) past is ends each = absurd ends
at_lock P c x s (did.Emit n) past is ends each = absurd ends
at_lock P c x s did.Plain past is ends each = absurd ends

-- the same for every free
pub at_free : (P : List Event → Type 0) (c x : ℕ) (s : Stop) (last : Action) (past : List Event) → s ≡ stop.Free x → EndsStop s last
    → ((left : Record) → P (Free x c left ∷ past)) → P (past_after c last past)
at_free P c x s (did.Free y left) past is ends each =
    let both : stop.Free y ≡ stop.Free x = sym ends ∙ is in
    let same : y ≡ x = cc in
    subst (λ z. P (Free z c left ∷ past)) (sym same) (each left)
at_free P c x s (did.Lock y found) past is ends each = let both : stop.Lock y ≡ stop.Free x = sym ends ∙ is in absurd cc
at_free P c x s did.End past is ends each = let both : stop.Return ≡ stop.Free x = sym ends ∙ is in absurd cc
at_free P c x s (did.Read y f n) past is ends each = absurd ends
at_free P c x s (did.Write y f n) past is ends each = absurd ends
at_free P c x s (did.Emit n) past is ends each = absurd ends
at_free P c x s did.Plain past is ends each = absurd ends

-- the last action of a call that has gone to the end of a segment is the one at its stop
pub gone_stopped : (v w : CoreState) (c : ℕ) (segment : SegmentValue) → HasGone v c segment w → HasStopped w.seen c segment.stop v.seen.past
gone_stopped v w c segment gone = record {
  last = gone.last;
  ends = gone.is_last;
  past_is = goes_past v.seen w.seen c gone.local gone.last gone.each_local gone.goes;
}

pub gone_parents : (v w : CoreState) (c : ℕ) (segment : SegmentValue) → HasGone v c segment w → w.seen.parents ≡ v.seen.parents
gone_parents v w c segment gone = goes_parents v.seen w.seen c (gone.local ++ gone.last ∷ []) gone.goes

-- the order of the earlier history is for the same number of nodes
pub same_size : (k : KeptValue) (parents more : List ℕ) → more ≡ parents → IsOfSize k (length parents) → IsOfSize k (length more)
same_size k parents more same size = subst (λ shape. IsOfSize k (length shape)) (sym same) size

-- an admission doesn't change the order
after_order : (k : KeptValue) (v w : CoreValue) (args : List ℤ) (found : Option ℕ) → w ≡ option_map_or (λ p. with_call_of v p args) found v
    → ((parents : List ℕ) (past : List Event) (call : ℕ) → IsKept k parents past → IsKept k parents (Admit call ∷ past)) → IsOrderOf k v → IsOrderOf k w
after_order k v w args (Some p) is more o = record {
  kept = subst (λ (u : CoreValue). IsKept k u.parents u.past) (sym is) (more v.parents v.past (length v.calls) o.kept);
  size = subst (λ (u : CoreValue). IsOfSize k (length u.parents)) (sym is) o.size;
  calls = o.calls;
}
after_order k v w args None is more o = subst (IsOrderOf k) (sym is) o

pub admitted_order : (k : KeptValue) (v w : CoreState) (name : List ℕ) (args : List ℤ) (r : Result ℕ CoreFault) → IfOk r (λ n. Admits v name args n w) → OnErr r (w ≡ v)
    → ((parents : List ℕ) (past : List Event) (call : ℕ) → IsKept k parents past → IsKept k parents (Admit call ∷ past)) → IsOrderOf k v.seen → IsOrderOf k w.seen
admitted_order k v w name args (Ok n) a same more o = after_order k v.seen w.seen args (number_of v.seen.procedures name) a.after_it more o
admitted_order k v w name args (Err e) a same more o = subst (λ (u : CoreState). IsOrderOf k u.seen) (sym same) o
