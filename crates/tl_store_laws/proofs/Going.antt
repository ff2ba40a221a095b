-- What leads from a core to a later one.
use Rattle.std.proofs.Common.{◌≡◌, ℕ, ◌+◌, ◌<◌, ℤ, List, [], ◌∷◌, ◌++◌, length, map, set, get_or, refl, sym, ap, ◌∙◌, subst, Option, Some, None, Ok, Err, Result}
use Rattle.std.specs.Option.{option_map_or}
use Rattle.std.proofs.lemmas.List.{append-nil, append_assoc, map-append, map-set, set-get_or}
use Rattle.std.proofs.Math.ListN.{get_or-map}
use Rattle.tl_tree_locking.specs.declared.action.Action.{Action}
use Rattle.tl_tree_locking.specs.declared.action.Action.TheVariants as did
use Rattle.tl_tree_locking.specs.declared.event.Event.{Event}
use Rattle.tl_tree_locking.specs.declared.event.Event.TheVariants.{Admit, Lock, Free, Done}
use Rattle.tl_tree_locking.specs.World.{past_after}
use Rattle.tl_procedures.specs.Names.{Named, BeginsWith, number_of}
use Rattle.tl_core.specs.declared.stepped.Stepped.{Stepped}
use Rattle.tl_core.specs.declared.stepped.Stepped.TheVariants.{Moved, Blocked, Over}
use Rattle.tl_core.specs.Cores.{CallValue, CoreValue, CoreState, call_of, no_call}
use Rattle.tl_core.specs.Entries.{one_more, after_step, with_call_of, after_admission, Admits, StepsTo}
use Rattle.tl_core.specs.declared.followed.TurnOutcome.{TurnOutcome}
use Rattle.tl_core.specs.declared.followed.TurnOutcome.TheVariants as outcome
use Rattle.tl_machine.specs.Turns.{SegmentValue, TurnValue, LentValue}
use Rattle.tl_core.specs.Followed.{Goes, Proceeds, HasGone, IsLedTo, Submits}
use Rattle.tl_core.specs.declared.fault.CoreFault.{CoreFault}
use Rattle.tl_recover.specs.Later.{Ask, ask_of, Later}

pub later_same : (v : CoreValue) → Later v v
later_same v = record {
  parents = refl;
  opening = refl;
  procedures = ([], sym (append-nil v.procedures));
  calls = ([], sym (append-nil (map ask_of v.calls)));
  past = ([], refl);
}

pub later_again : (u v w : CoreValue) → Later u v → Later v w → Later u w
later_again u v w a b = record {
  parents = b.parents ∙ a.parents;
  opening = b.opening ∙ a.opening;
  procedures = (a.procedures.0 ++ b.procedures.0, b.procedures.1 ∙ ap (λ l. l ++ b.procedures.0) a.procedures.1 ∙ append_assoc u.procedures a.procedures.0 b.procedures.0);
  calls = (a.calls.0 ++ b.calls.0, b.calls.1 ∙ ap (λ l. l ++ b.calls.0) a.calls.1 ∙ append_assoc (map ask_of u.calls) a.calls.0 b.calls.0);
  past = (b.past.0 ++ a.past.0, b.past.1 ∙ ap (λ l. b.past.0 ++ l) a.past.1 ∙ sym (append_assoc b.past.0 a.past.0 u.past));
}

pub later_is : (v w x : CoreValue) → x ≡ w → Later v w → Later v x
later_is v w x same later = subst (Later v) (sym same) later

-- procedures that are registered
pub later_procedures : (v : CoreValue) (more : List Named) → Later v (record v { procedures = v.procedures ++ more })
later_procedures v more = record {
  parents = refl;
  opening = refl;
  procedures = (more, refl);
  calls = ([], sym (append-nil (map ask_of v.calls)));
  past = ([], refl);
}

-- a call that is admitted
later_call : (v : CoreValue) (p : ℕ) (args : List ℤ) → Later v (with_call_of v p args)
later_call v p args =
    let call : CallValue = record { procedure = p; code = (Rattle.tl_core.specs.Entries.procedure_at v p).code; args = args; count = 0 } in record {
      parents = refl;
      opening = refl;
      procedures = ([], sym (append-nil v.procedures));
      calls = (ask_of call ∷ [], map-append ask_of v.calls (call ∷ []));
      past = (Admit (length v.calls) ∷ [], refl);
    }

admitted : (v : CoreValue) (args : List ℤ) (found : Option ℕ) → Later v (option_map_or (λ p. with_call_of v p args) found v)
admitted v args (Some p) = later_call v p args
admitted v args None = later_same v

pub later_admission : (v : CoreValue) (name : List ℕ) (args : List ℤ) → Later v (after_admission v name args)
later_admission v name args = admitted v args (number_of v.procedures name)

-- an action of a call
events_of : (c : ℕ) (a : Action) (past : List Event) → (events : List Event) × (past_after c a past ≡ events ++ past)
events_of c (did.Lock x found) past = (Lock x c found ∷ [], refl)
events_of c (did.Free x left) past = (Free x c left ∷ [], refl)
events_of c did.End past = (Done c ∷ [], refl)
events_of c _ past = ([], refl)

pub later_move : (v : CoreValue) (c : ℕ) (a : Action) → Later v (after_step v c (Ok (Moved a)))
later_move v c a = record {
  parents = refl;
  opening = refl;
  procedures = ([], sym (append-nil v.procedures));
  calls = ([], same_asks ∙ sym (append-nil (map ask_of v.calls)));
  past = events_of c a v.past;
}
  where
    same_asks : map ask_of (set v.calls c (one_more (call_of v c))) ≡ map ask_of v.calls
    same_asks = map-set ask_of v.calls c (one_more (call_of v c)) ∙ ap (set (map ask_of v.calls) c) (sym (get_or-map ask_of v.calls c no_call)) ∙ set-get_or (map ask_of v.calls) c (ask_of no_call)

pub later_step : (v : CoreValue) (c : ℕ) (answer : Result Stepped CoreFault) → Later v (after_step v c answer)
later_step v c (Ok (Moved a)) = later_move v c a
later_step v c (Ok (Blocked x d)) = later_same v
later_step v c (Ok Over) = later_same v
later_step v c (Err e) = later_same v

pub later_goes : (v w : CoreValue) (c : ℕ) (actions : List Action) → Goes v c actions w → Later v w
later_goes v w c [] goes = subst (Later v) goes (later_same v)
later_goes v w c (a ∷ actions) goes = later_again v (after_step v c (Ok (Moved a))) w (later_move v c a) (later_goes (after_step v c (Ok (Moved a))) w c actions goes.1)

pub later_admits : (before after : CoreState) (name : List ℕ) (args : List ℤ) (n : ℕ) → Admits before name args n after → Later before.seen after.seen
later_admits before after name args n admits = later_is before.seen (after_admission before.seen name args) after.seen admits.after_it (later_admission before.seen name args)

pub later_steps : (before after : CoreState) (c : ℕ) (answer : Result Stepped CoreFault) → StepsTo before c answer after → Later before.seen after.seen
later_steps before after c answer steps = later_is before.seen (after_step before.seen c answer) after.seen steps.after_it (later_step before.seen c answer)

pub later_proceeds : (v w : CoreState) (c : ℕ) (s : Stepped) → Proceeds v c s w → Later v.seen w.seen
later_proceeds v w c s p = later_again v.seen p.there w.seen (later_goes v.seen p.there c p.local p.goes) (later_is p.there (after_step p.there c (Ok s)) w.seen p.then (later_step p.there c (Ok s)))

pub later_gone : (v w : CoreState) (c : ℕ) (segment : SegmentValue) → HasGone v c segment w → Later v.seen w.seen
later_gone v w c segment h = later_goes v.seen w.seen c (h.local ++ h.last ∷ []) h.goes

later_led : (v w : CoreState) (c : ℕ) (segment : SegmentValue) (turn : TurnValue) (o : TurnOutcome) → IsLedTo v c segment turn o w → Later v.seen w.seen
later_led v w c segment turn (outcome.Blocked x d) led = later_is v.seen v.seen w.seen (ap (λ (s : CoreState). s.seen) led.1) (later_same v.seen)
later_led v w c segment turn (outcome.Advanced s) led = later_gone v w c segment led.0
later_led v w c segment turn outcome.Finished led = later_gone v w c segment led.0

pub later_submits : (before after : CoreState) (c : ℕ) (lent after_it : LentValue) (o : TurnOutcome) → Submits before c lent after_it o after → Later before.seen after.seen
later_submits before after c lent after_it o s = later_led before after c s.segment _ o s.led
