-- The trail of a sound core.
use Rattle.std.proofs.Common.{◌≡◌, ℕ, ◌<◌, ◌≤◌, true, List, [], ◌∷◌, length, sym, ap, ◌∙◌, subst, arith, Some}
use Rattle.std.specs.Prelude.{All, ◌↔◌}
use Rattle.std.proofs.lemmas.Bool.{eqb-true}
use Rattle.std.proofs.lemmas.List.Elements.{All-nil, All-cons, All-from_get_or}
use Rattle.std.proofs.lemmas.List.FromFn.{length-map-range_with_len, get_or-map-range_with_len}
use Rattle.tl_tree.specs.Records.{Records}
use Rattle.tl_tree_locking.specs.declared.event.Event.{Event}
use Rattle.tl_tree_locking.specs.declared.event.Event.TheVariants.{Admit, Lock, Free, Done}
use Rattle.tl_tree_locking.specs.Actions.{with_found, locks_and_frees, taken}
use Rattle.tl_tree_locking.specs.Alone.{all_taken}
use Rattle.tl_tree_locking.specs.History.{caller, part_of, is_done, admits, AllDone, InTurn, Follows, IsLegalHistory}
use Rattle.tl_tree_locking.specs.World.{IsSound, alone_of}
use Rattle.tl_tree_locking.proofs.PartLemmas.{legal_before}
use Rattle.tl_tree_locking.proofs.RulesLemmas.{event_permitted}
use Rattle.tl_tree_locking.proofs.Records.{length-records_now, record_at-records_now}
use Rattle.tl_tree_locking.proofs.SharedActions.{locks_and_frees-shared_actions}
use Rattle.tl_tree_locking.proofs.NoStandstill.{sound_history}
use Rattle.tl_machine.specs.Outcomes.{meaning}
use Rattle.tl_tree_locking.proofs.Inside.{sound_inside}
use Rattle.tl_core.specs.Cores.{CoreValue, call_of, world_of}
use Rattle.tl_trail.specs.Trails.{IsTrail, IsCallOf, call_at, no_call, code_of, found_alone}
use Rattle.tl_trail.specs.Clean.{AreRight, Clean}
use Rattle.tl_record.specs.Recording.{told_call, trail_value, IsCoreCall}

-- ---- a legal history whose locks find the records left last

-- no event of a legal history whose locks find the current records has a fault
legal_right : (parents : List ℕ) (opening : Records) (past : List Event) → IsLegalHistory parents past → Follows opening past → AreRight parents opening past
legal_right parents opening [] legal follows = tt
legal_right parents opening (Admit c ∷ past) legal follows = (
  record { rules = record { may_happen = legal.in_turn.0; permitted = tt }; apart = tt; finds = tt },
  legal_right parents opening past (legal_before parents (Admit c) past legal) follows,
)
legal_right parents opening (Lock x c found ∷ past) legal follows = (
  record { rules = record { may_happen = legal.in_turn.0; permitted = event_permitted parents (Lock x c found) past legal }; apart = λ d ne. legal.apart.0 d; finds = follows.0 },
  legal_right parents opening past (legal_before parents (Lock x c found) past legal) follows.1,
)
legal_right parents opening (Free x c left ∷ past) legal follows = (
  record { rules = record { may_happen = legal.in_turn.0; permitted = event_permitted parents (Free x c left) past legal }; apart = tt; finds = tt },
  legal_right parents opening past (legal_before parents (Free x c left) past legal) follows,
)
legal_right parents opening (Done c ∷ past) legal follows = (
  record { rules = record { may_happen = legal.in_turn.0; permitted = event_permitted parents (Done c) past legal }; apart = tt; finds = tt },
  legal_right parents opening past (legal_before parents (Done c) past legal) follows,
)

-- in a history in turn, each event is of an admitted call
callers_admitted : (past : List Event) → InTurn past → (n : ℕ) → admits past ≤ n → All (λ e. caller e < n) past
callers_admitted [] turn n le = All-nil (λ e. caller e < n)
callers_admitted (Admit c ∷ past) turn n le =
    let here : c ≡ admits past = turn.0 in All-cons (λ e. caller e < n) (Admit c) past (omega arith) (callers_admitted past turn.1 n (omega arith))
callers_admitted (Lock x c found ∷ past) turn n le =
    let here : c < admits past = turn.0.0 in All-cons (λ e. caller e < n) (Lock x c found) past (omega arith) (callers_admitted past turn.1 n le)
callers_admitted (Free x c left ∷ past) turn n le =
    let here : c < admits past = turn.0.0 in All-cons (λ e. caller e < n) (Free x c left) past (omega arith) (callers_admitted past turn.1 n le)
callers_admitted (Done c ∷ past) turn n le =
    let here : c < admits past = turn.0.0 in All-cons (λ e. caller e < n) (Done c) past (omega arith) (callers_admitted past turn.1 n le)

-- ---- a core

module _ (v : CoreValue) (sound : IsSound (world_of v)) (counted : length v.calls ≡ admits v.past) (each : (c : ℕ) → c < length v.calls → IsCoreCall v c) where
  calls_long : length (trail_value v).calls ≡ length v.calls
  calls_long = length-map-range_with_len (told_call v) 0 (length v.calls)

  call_told : (c : ℕ) → c < length v.calls → call_at (trail_value v) c ≡ told_call v c
  call_told c lt = get_or-map-range_with_len (told_call v) 0 (length v.calls) c c no_call lt (omega arith)

  -- the trail of a core is a trail
  pub recorded_trail : length v.calls ≤ 4096 → IsTrail (trail_value v)
  recorded_trail few =
      let long = calls_long in
      let size = sound.size in
      let ends_long = length-records_now v.past v.opening in
      record {
        tree = sound.tree;
        size = size;
        end_size = ends_long ∙ size;
        few = omega arith;
        calls = All-from_get_or (IsCallOf v.procedures) (trail_value v).calls no_call
            (λ c lt. let in' : c < length v.calls = omega arith in subst (IsCallOf v.procedures) (sym (call_told c in')) (each c in').fits);
        nodes = sound_inside (world_of v) sound;
        callers = callers_admitted v.past sound.legal.in_turn (length (trail_value v).calls) (omega arith);
      }

  -- what a call does alone is the same for the trail and for the core
  alone_told : (c : ℕ) → c < length v.calls → found_alone (trail_value v) c ≡ alone_of ((world_of v).meanings c) v.opening v.past c
  alone_told c lt =
      let found = with_found (part_of c v.past) v.opening in
      ap (λ k. meaning (code_of v.procedures k) v.parents k.args found) (call_told c lt)
      ∙ ap (λ code. meaning code.instrs v.parents (call_of v c).args found) (each c lt).code

  call_genuine : (c : ℕ) → c < length v.calls → is_done c v.past ≡ true → locks_and_frees (part_of c v.past) ≡ locks_and_frees (all_taken (found_alone (trail_value v) c).actions)
  call_genuine c lt over =
      let g = sound.legal.genuine c (omega arith) in
      let actions = (alone_of ((world_of v).meanings c) v.opening v.past c).actions in
      let all : (call_of v c).count ≡ length actions = eqb-true (call_of v c).count (length actions) (sym g.ended ∙ over) in
      ap locks_and_frees g.is_part ∙ locks_and_frees-shared_actions (taken (call_of v c).count actions [])
      ∙ ap (λ n. locks_and_frees (taken n actions [])) all
      ∙ ap (λ o. locks_and_frees (all_taken o.actions)) (sym (alone_told c lt))

  call_replies : (c : ℕ) → c < length v.calls → is_done c v.past ≡ true → (call_at (trail_value v) c).reply ≡ Some (found_alone (trail_value v) c).reply
  call_replies c lt over =
      ap (λ k. k.reply) (call_told c lt) ∙ (rw over (ap (λ o. Some o.reply) (sym (alone_told c lt))))

  clean_done : AllDone v.past → Clean (trail_value v)
  clean_done over =
      let long = calls_long in
      let size = sound.size in
      let done : (c : ℕ) → c < length v.calls → is_done c v.past ≡ true = λ c lt. over c (omega arith) in
      record {
        right = legal_right v.parents v.opening v.past (sound_history (world_of v) sound) sound.legal.follows;
        done = λ c lt. done c (omega arith);
        genuine = λ c lt. call_genuine c (omega arith) (done c (omega arith));
        replies = λ c lt. call_replies c (omega arith) (done c (omega arith));
        ends = λ x lt. record_at-records_now v.past v.opening x (omega arith);
      }

  -- the trail is clean exactly if all calls are done
  pub recorded_clean : Clean (trail_value v) ↔ AllDone v.past
  recorded_clean = let long = calls_long in (λ clean c lt. clean.done c (omega arith), clean_done)
