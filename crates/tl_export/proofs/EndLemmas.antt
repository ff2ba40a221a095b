-- The trail of a core that was made again.
use Rattle.std.proofs.Common.{◌≡◌, ℕ, zero, suc, ◌+◌, ◌<◌, ◌≤◌, false, if◌then◌else◌, List, [], ◌∷◌, ◌++◌, length, map, refl, sym, ap, ap₂, ◌∙◌, subst, arith, Option, Some, None}
use Rattle.std.specs.List.{range_with_len}
use Rattle.std.proofs.lemmas.Bool.{false≢true}
use Rattle.std.proofs.lemmas.List.FromFn.{map-range_with_len_more}
use Rattle.tl_tree_locking.specs.declared.event.Event.{Event}
use Rattle.tl_tree_locking.specs.declared.event.Event.TheVariants.{Admit, Lock, Free, Done}
use Rattle.tl_tree_locking.specs.Actions.{with_found}
use Rattle.tl_tree_locking.specs.History.{part_of, is_done, admits, AllDone, InTurn, records_now}
use Rattle.tl_tree_locking.specs.World.{reply_of}
use Rattle.tl_machine.specs.Outcomes.{meaning}
use Rattle.tl_procedures.specs.Names.{KeepsNames}
use Rattle.tl_core.specs.Cores.{CoreValue, world_of}
use Rattle.tl_core.specs.Reached.{IsReached}
use Rattle.tl_trail.specs.Trails.{TrailValue}
use Rattle.tl_record.specs.Recording.{told_call, trail_value}
use Rattle.tl_audit.specs.Chains.{TakesOverFrom, after_file}
use Rattle.tl_store.specs.declared.stored.Stored.{Stored}
use Rattle.tl_store.specs.Recovered.{IsRebuilt, AreOfCore, IsMadeAgain}
use Rattle.tl_store.proofs.AgainLemmas.{done_stays}
use Rattle.tl_store_laws.proofs.Stay.{calls_longer, ask_stays}
use Rattle.tl_export.specs.Epochs.{IsEndOf}

admits_more : (events past : List Event) → admits past ≤ admits (events ++ past)
admits_more [] past = omega arith
admits_more (Admit c ∷ events) past = omega (arith, admits_more events past)
admits_more (Lock x c found ∷ events) past = admits_more events past
admits_more (Free x c left ∷ events) past = admits_more events past
admits_more (Done c ∷ events) past = admits_more events past

-- no call is open where all were done before
none_open : (c : ℕ) (events past : List Event) → InTurn (events ++ past) → AllDone past → admits (events ++ past) ≡ admits past → c < admits (events ++ past) → is_done c (events ++ past) ≡ false → ⊥
none_open c events past turn done same known still = false≢true (sym still ∙ (done_stays c events past turn (done c (omega (arith, known, same)))).1)

-- nothing came behind the ends of all calls, where no call was admitted
no_more : (events past : List Event) → InTurn (events ++ past) → AllDone past → admits (events ++ past) ≡ admits past → events ≡ []
no_more [] past turn done same = refl
no_more (Admit c ∷ events) past turn done same = absurd (omega (arith, same, admits_more events past))
no_more (Lock x c found ∷ events) past turn done same = absurd (none_open c events past turn.1 done same turn.0.0 turn.0.1)
no_more (Free x c left ∷ events) past turn done same = absurd (none_open c events past turn.1 done same turn.0.0 turn.0.1)
no_more (Done c ∷ events) past turn done same = absurd (none_open c events past turn.1 done same turn.0.0 turn.0.1)

range_same : {X : Type 0} (f g : ℕ → X) (n : ℕ) → ((k : ℕ) → k < n → f k ≡ g k) → map f (range_with_len 0 n) ≡ map g (range_with_len 0 n)
range_same f g zero same = refl
range_same f g (suc n) same =
    let more : suc n ≡ n + 1 = omega arith in
    ap (λ k. map f (range_with_len 0 k)) more ∙ map-range_with_len_more f 0 n n (omega arith)
    ∙ ap₂ (λ l x. l ++ x ∷ []) (range_same f g n (λ k less. same k (omega (arith, less)))) (same n (omega arith))
    ∙ sym (map-range_with_len_more g 0 n n (omega arith)) ∙ ap (λ k. map g (range_with_len 0 k)) (sym more)

module _ (v w : CoreValue) (reached_v : IsReached v) (reached_w : IsReached w) (made : IsMadeAgain v w) (few : length w.calls ≤ length v.calls) (done : AllDone v.past) where
  as_many : length w.calls ≡ length v.calls
  as_many = omega (arith, few, calls_longer v w made.later)

  same_past : w.past ≡ v.past
  same_past =
      let events = made.later.past.0 in
      let grown = made.later.past.1 in
      let admitted : admits (events ++ v.past) ≡ admits v.past = ap admits (sym grown) ∙ sym reached_w.counted ∙ as_many ∙ reached_v.counted in
      grown ∙ ap (λ l. l ++ v.past) (no_more events v.past (subst InTurn grown reached_w.sound.legal.in_turn) done admitted)

  same_call : (c : ℕ) → c < length v.calls → told_call w c ≡ told_call v c
  same_call c known =
      let ask = ask_stays v w c made.later known in
      let meanings : (world_of w).meanings c ≡ (world_of v).meanings c = ap₂ (λ a ps. meaning a.code.instrs ps a.args) ask made.later.parents in
      let reply : reply_of (world_of w) c ≡ reply_of (world_of v) c =
      ap (λ m. (m (with_found (part_of c w.past) w.opening)).reply) meanings
      ∙ ap₂ (λ p o. ((world_of v).meanings c (with_found (part_of c p) o)).reply) same_past made.later.opening in
      λ i. record { procedure = (ask i).procedure; args = (ask i).args; reply = if is_done c (same_past i) then Some (reply i) else None }

  same_calls : (trail_value w).calls ≡ (trail_value v).calls
  same_calls = ap (λ n. map (told_call w) (range_with_len 0 n)) as_many ∙ range_same (told_call w) (told_call v) (length v.calls) same_call

  pub same_trail : trail_value w ≡ trail_value v
  same_trail = λ i. record {
    parents = made.later.parents i;
    opening = made.later.opening i;
    procedures = made.procedures i;
    calls = same_calls i;
    past = same_past i;
    ends = records_now (same_past i) (made.later.opening i);
  }

-- the trail of the core that was made again is that of the rows' core at its end
pub ends_so : (rows : Stored) (v w : CoreValue) (t : TrailValue) → IsReached v → IsReached w → AreOfCore rows v → IsRebuilt rows w → IsMadeAgain v w → t ≡ trail_value w → IsEndOf v t
ends_so rows v w t reached_v reached_w of rebuilt made is = record {
  last = w;
  made = made;
  trail = is;
  same = λ done. is ∙ same_trail v w reached_v reached_w made (omega (arith, rebuilt.few, of.many)) done;
}

-- it takes over from what the core takes over from
pub takes_over_so : (before : Option TrailValue) (v w : CoreValue) → IsMadeAgain v w → TakesOverFrom (after_file before) (trail_value v) → TakesOverFrom (after_file before) (trail_value w)
takes_over_so None v w made takes = tt
takes_over_so (Some t) v w made takes = record {
  added = takes.added;
  parents = made.later.parents ∙ takes.parents;
  opening = made.later.opening ∙ takes.opening;
  procedures = subst (KeepsNames t.procedures) (sym made.procedures) takes.procedures;
}
