-- What follows from a clean trail.
use Rattle.std.proofs.Common.{◌≡◌, ℕ, ◌<◌, ◌≤◌, ◌==◌, true, false, List, [], ◌∷◌, ◌++◌, length, map, refl, sym, ap, ◌∙◌, subst, inl, inr, arith, Some}
use Rattle.std.specs.Prelude.{All}
use Rattle.std.proofs.lemmas.Bool.{cases_Bool, cases_eq, both_ways, false_from_ne_true, eqb-true, eq-eqb}
use Rattle.std.proofs.lemmas.List.{ext_get_or}
use Rattle.std.proofs.lemmas.List.Elements.{All-head, All-tail, All-get_or}
use Rattle.tl_tree.specs.Records.{Records}
use Rattle.tl_tree_locking.specs.declared.action.Action.{Action}
use Rattle.tl_tree_locking.specs.declared.action.Action.TheVariants as A
use Rattle.tl_tree_locking.specs.declared.event.Event.{Event}
use Rattle.tl_tree_locking.specs.declared.event.Event.TheVariants.{Admit, Lock, Free, Done}
use Rattle.tl_tree_locking.specs.Actions.{held, has_ended, with_found, shared_actions, locks_and_frees, taken, Permitted, EachPermitted}
use Rattle.tl_tree_locking.specs.Alone.{IsAlone, EndsOnce, all_taken, serial}
use Rattle.tl_tree_locking.specs.History.{caller, part_of, is_done, admits, AllDone, IsOpen, InTurn, Apart, Follows, IsLegalHistory, records_now}
use Rattle.tl_tree_locking.specs.Obeys.{Obeys}
use Rattle.tl_tree_locking.specs.Order.{placed, Agrees}
use Rattle.tl_tree_locking.specs.World.{Genuine, Legal, IsSound, reply_of}
use Rattle.tl_tree_locking.proofs.Alone.{obeys_taken}
use Rattle.tl_tree_locking.proofs.MayComeLemmas.{held-locked}
use Rattle.tl_tree_locking.proofs.Permitted.{has_ended-part_of}
use Rattle.tl_tree_locking.proofs.PlacedAgrees.{placed-agrees}
use Rattle.tl_tree_locking.proofs.ObeysByPlaces.{obeys_alone}
use Rattle.tl_tree_locking.proofs.ReachedWorlds.{serial-placed}
use Rattle.tl_tree_locking.proofs.Records.{length-records_now, record_at-records_now, length-with_found}
use Rattle.tl_machine.proofs.StartLemmas.{is_alone}
use Rattle.tl_audit.specs.declared.fault.AuditFault.{AuditFault}
use Rattle.tl_audit.specs.declared.fault.AuditFault.TheVariants.{RuleBroken, Overlap, WrongFound, NotGenuine, Unfinished, WrongEnd, WrongReply, Memory}
use Rattle.tl_history.specs.declared.history.TheConstants.{MAX_CALLS}
use Rattle.tl_trail.specs.Trails.{TrailValue, IsTrail, IsCallOf, call_at, no_call, meaning_of, found_alone, world_of}
use Rattle.tl_trail.specs.Clean.{IsRight, AreRight, Clean}
use Rattle.tl_audit.specs.Findings.{IsFirstEventFault, IsFirstFault}

-- ---- the events

right_turn : (parents : List ℕ) (opening : Records) (past : List Event) → AreRight parents opening past → InTurn past
right_turn parents opening [] h = tt
right_turn parents opening (e ∷ past) h = (h.0.rules.may_happen, right_turn parents opening past h.1)

-- one more action of an open call
one_more : (parents : List ℕ) (past : List Event) (c d : ℕ) (a : Action) → (d == c) ≡ true → IsOpen d past → Permitted parents (part_of d past) a → EachPermitted parents (part_of c past)
    → EachPermitted parents (a ∷ part_of c past)
one_more parents past c d a mine is_open may each =
    let same = eqb-true d c mine in (
      subst (λ z. Permitted parents (part_of z past) a) same may,
      has_ended-part_of c past ∙ subst (λ z. is_done z past ≡ false) same is_open.1,
      each,
    )

-- the actions of each call are permitted
right_obeys : (parents : List ℕ) (opening : Records) (past : List Event) → AreRight parents opening past → (c : ℕ) → EachPermitted parents (part_of c past)
right_obeys parents opening [] h c = tt
right_obeys parents opening (Admit d ∷ past) h c = right_obeys parents opening past h.1 c
right_obeys parents opening (Lock x d found ∷ past) h c = elim (cases_Bool (d == c)) [
  | inl mine ↦ rw mine (one_more parents past c d (A.Lock x found) mine h.0.rules.may_happen h.0.rules.permitted (right_obeys parents opening past h.1 c))
  | inr other ↦ rw other (right_obeys parents opening past h.1 c)
]
right_obeys parents opening (Free x d left ∷ past) h c = elim (cases_Bool (d == c)) [
  | inl mine ↦ rw mine (one_more parents past c d (A.Free x left) mine h.0.rules.may_happen h.0.rules.permitted (right_obeys parents opening past h.1 c))
  | inr other ↦ rw other (right_obeys parents opening past h.1 c)
]
right_obeys parents opening (Done d ∷ past) h c = elim (cases_Bool (d == c)) [
  | inl mine ↦ rw mine (one_more parents past c d A.End mine h.0.rules.may_happen h.0.rules.permitted (right_obeys parents opening past h.1 c))
  | inr other ↦ rw other (right_obeys parents opening past h.1 c)
]

-- a call that locks a node hasn't locked it before, so it doesn't hold it either
right_apart : (parents : List ℕ) (opening : Records) (past : List Event) → AreRight parents opening past → Apart past
right_apart parents opening [] h = tt
right_apart parents opening (Admit c ∷ past) h = right_apart parents opening past h.1
right_apart parents opening (Lock x c found ∷ past) h = (
  λ d. elim (cases_eq d c) [
    | inl same ↦ subst (λ z. held (part_of z past) x ≡ false) (sym same) (false_from_ne_true (held (part_of c past) x) (λ mine. both_ways _ h.0.rules.permitted.0 (held-locked (part_of c past) x mine)))
    | inr other ↦ h.0.apart d other
  ],
  right_apart parents opening past h.1,
)
right_apart parents opening (Free x c left ∷ past) h = right_apart parents opening past h.1
right_apart parents opening (Done c ∷ past) h = right_apart parents opening past h.1

right_follows : (parents : List ℕ) (opening : Records) (past : List Event) → AreRight parents opening past → Follows opening past
right_follows parents opening [] h = tt
right_follows parents opening (Admit c ∷ past) h = right_follows parents opening past h.1
right_follows parents opening (Lock x c found ∷ past) h = (h.0.finds, right_follows parents opening past h.1)
right_follows parents opening (Free x c left ∷ past) h = right_follows parents opening past h.1
right_follows parents opening (Done c ∷ past) h = right_follows parents opening past h.1

-- right events form a legal history
pub right_history : (parents : List ℕ) (opening : Records) (past : List Event) → AreRight parents opening past → IsLegalHistory parents past
right_history parents opening past h = record {
  obeys = right_obeys parents opening past h;
  apart = right_apart parents opening past h;
  in_turn = right_turn parents opening past h;
}

-- if all events are right, so is each of them
pub right_within : (parents : List ℕ) (opening : Records) (later : List Event) (e : Event) (past : List Event) → AreRight parents opening (later ++ e ∷ past) → IsRight parents opening past e
right_within parents opening [] e past h = h.0
right_within parents opening (d ∷ later) e past h = right_within parents opening later e past h.1

-- there are at most as many admissions as calls
pub admits_within : (calls : ℕ) (past : List Event) → InTurn past → All (λ e. caller e < calls) past → admits past ≤ calls
admits_within calls [] turn callers = omega arith
admits_within calls (Admit c ∷ past) turn callers =
    let here : c < calls = All-head (λ e. caller e < calls) (Admit c) past callers in
    let next : c ≡ admits past = turn.0 in
    omega arith
admits_within calls (Lock x c found ∷ past) turn callers = admits_within calls past turn.1 (All-tail (λ e. caller e < calls) (Lock x c found) past callers)
admits_within calls (Free x c left ∷ past) turn callers = admits_within calls past turn.1 (All-tail (λ e. caller e < calls) (Free x c left) past callers)
admits_within calls (Done c ∷ past) turn callers = admits_within calls past turn.1 (All-tail (λ e. caller e < calls) (Done c) past callers)

pub right_admits : (t : TrailValue) → IsTrail t → AreRight t.parents t.opening t.past → admits t.past ≤ MAX_CALLS
right_admits t trail right =
    let few = admits_within (length t.calls) t.past (right_turn t.parents t.opening t.past right) trail.callers in
    let most = trail.few in
    omega (arith, few, most)

-- ---- the actions of a call that has ended

-- all actions of a call in a history are shared ones
shared-part_of : (c : ℕ) (past : List Event) → shared_actions (part_of c past) ≡ part_of c past
shared-part_of c [] = refl
shared-part_of c (Admit d ∷ past) = shared-part_of c past
shared-part_of c (Lock x d found ∷ past) = elim (cases_Bool (d == c)) [ inl mine ↦ rw mine (ap (λ z. A.Lock x found ∷ z) (shared-part_of c past)) | inr other ↦ rw other (shared-part_of c past) ]
shared-part_of c (Free x d left ∷ past) = elim (cases_Bool (d == c)) [ inl mine ↦ rw mine (ap (λ z. A.Free x left ∷ z) (shared-part_of c past)) | inr other ↦ rw other (shared-part_of c past) ]
shared-part_of c (Done d ∷ past) = elim (cases_Bool (d == c)) [ inl mine ↦ rw mine (ap (λ z. A.End ∷ z) (shared-part_of c past)) | inr other ↦ rw other (shared-part_of c past) ]

-- before the end, the shared actions are locks and frees
shared_open : (done : List Action) → has_ended done ≡ false → shared_actions done ≡ locks_and_frees done
shared_open [] h = refl
shared_open (A.Lock x found ∷ done) h = ap (λ z. A.Lock x found ∷ z) (shared_open done h)
shared_open (A.Read x field n ∷ done) h = shared_open done h
shared_open (A.Write x field n ∷ done) h = shared_open done h
shared_open (A.Free x left ∷ done) h = ap (λ z. A.Free x left ∷ z) (shared_open done h)
shared_open (A.Emit n ∷ done) h = shared_open done h
shared_open (A.End ∷ done) h = absurd (both_ways true h refl)
shared_open (A.Plain ∷ done) h = shared_open done h

-- after the end, they are the end and then the locks and frees, the latest first
shared_ended : (parents : List ℕ) (done : List Action) → EachPermitted parents done → has_ended done ≡ true → shared_actions done ≡ A.End ∷ locks_and_frees done
shared_ended parents [] each h = absurd (both_ways false refl h)
shared_ended parents (A.Lock x found ∷ done) each h = absurd (both_ways (has_ended done) each.1 h)
shared_ended parents (A.Read x field n ∷ done) each h = absurd (both_ways (has_ended done) each.1 h)
shared_ended parents (A.Write x field n ∷ done) each h = absurd (both_ways (has_ended done) each.1 h)
shared_ended parents (A.Free x left ∷ done) each h = absurd (both_ways (has_ended done) each.1 h)
shared_ended parents (A.Emit n ∷ done) each h = absurd (both_ways (has_ended done) each.1 h)
shared_ended parents (A.End ∷ done) each h = ap (λ z. A.End ∷ z) (shared_open done each.1)
shared_ended parents (A.Plain ∷ done) each h = absurd (both_ways (has_ended done) each.1 h)

ended_still : (actions done : List Action) → has_ended done ≡ true → has_ended (taken (length actions) actions done) ≡ true
ended_still [] done h = h
ended_still (a ∷ actions) done h = ended_still actions (a ∷ done) (grind (arith, h))

-- all actions of a call alone include its end
ended_taken : (actions done : List Action) → EndsOnce actions → has_ended (taken (length actions) actions done) ≡ true
ended_taken [] done h = absurd h
ended_taken (A.Lock x found ∷ actions) done h = ended_taken actions (A.Lock x found ∷ done) h
ended_taken (A.Read x field n ∷ actions) done h = ended_taken actions (A.Read x field n ∷ done) h
ended_taken (A.Write x field n ∷ actions) done h = ended_taken actions (A.Write x field n ∷ done) h
ended_taken (A.Free x left ∷ actions) done h = ended_taken actions (A.Free x left ∷ done) h
ended_taken (A.Emit n ∷ actions) done h = ended_taken actions (A.Emit n ∷ done) h
ended_taken (A.End ∷ actions) done h = ended_still actions (A.End ∷ done) refl
ended_taken (A.Plain ∷ actions) done h = ended_taken actions (A.Plain ∷ done) h

-- ---- trails

module _ (t : TrailValue) (is : IsTrail t) where
  -- each call has a meaning alone
  pub call_alone : (c : ℕ) → c < length t.calls → IsAlone t.parents (meaning_of t c)
  call_alone c lt =
      let k = All-get_or (IsCallOf t.procedures) t.calls c no_call lt is.calls in
      is_alone _ t.parents (call_at t c).args k.valid k.accepted is.tree

  -- the opening tree with the records that a call found has the size of the shape
  pub found_size : (c : ℕ) → length (with_found (part_of c t.past) t.opening) ≡ length t.parents
  found_size c = length-with_found (part_of c t.past) t.opening ∙ is.size

  -- a genuine call that is done has done what it does alone
  pub genuine_part : (c : ℕ) → c < length t.calls → EachPermitted t.parents (part_of c t.past) → is_done c t.past ≡ true
      → locks_and_frees (part_of c t.past) ≡ locks_and_frees (all_taken (found_alone t c).actions) → part_of c t.past ≡ shared_actions (all_taken (found_alone t c).actions)
  genuine_part c lt each over genuine =
      let u = with_found (part_of c t.past) t.opening in
      let actions = (found_alone t c).actions in
      let a = call_alone c lt in
      let obeys = obeys_taken t.parents (length actions) actions [] (a.obeys u (found_size c)) tt in
      sym (shared-part_of c t.past) ∙ shared_ended t.parents (part_of c t.past) each (has_ended-part_of c t.past ∙ over)
      ∙ ap (λ z. A.End ∷ z) genuine ∙ sym (shared_ended t.parents (all_taken actions) obeys (ended_taken actions [] (a.ends u (found_size c))))

  module _ (clean : Clean t) where
    in_turn : InTurn t.past
    in_turn = right_turn t.parents t.opening t.past clean.right

    -- each admitted call is one of the trail
    admitted_known : (c : ℕ) → c < admits t.past → c < length t.calls
    admitted_known c lt = let few = admits_within (length t.calls) t.past in_turn is.callers in omega arith

    pub all_done : AllDone t.past
    all_done c lt = clean.done c (admitted_known c lt)

    call_genuine : (c : ℕ) → c < length t.calls → Genuine (meaning_of t c) t.opening t.past c (length (found_alone t c).actions)
    call_genuine c lt = record {
      is_part = genuine_part c lt (right_obeys t.parents t.opening t.past clean.right c) (clean.done c lt) (clean.genuine c lt);
      within = omega arith;
      ended = clean.done c lt ∙ sym (eq-eqb (length (found_alone t c).actions) (length (found_alone t c).actions) refl);
    }

    pub clean_legal : Legal (world_of t)
    clean_legal = record {
      in_turn = in_turn;
      apart = right_apart t.parents t.opening t.past clean.right;
      follows = right_follows t.parents t.opening t.past clean.right;
      genuine = λ c lt. call_genuine c (admitted_known c lt);
    }

    pub clean_sound : IsSound (world_of t)
    clean_sound = record {
      tree = is.tree;
      size = is.size;
      meanings = λ c lt. call_alone c (admitted_known c lt);
      legal = clean_legal;
    }

    pub clean_obeys : (c : ℕ) → c < length t.calls → Obeys t.parents (found_alone t c).actions
    clean_obeys c lt = obeys_alone t.parents (meaning_of t c) (call_alone c lt) (with_found (part_of c t.past) t.opening) (found_size c)

    pub clean_agrees : Agrees (placed t.parents t.past) t.past
    clean_agrees = placed-agrees t.parents is.tree t.past (right_history t.parents t.opening t.past clean.right)

    -- the end records are the current ones
    pub ends_now : records_now t.past t.opening ≡ t.ends
    ends_now =
        let long = length-records_now t.past t.opening in
        let size = is.size in
        let end_size = is.end_size in
        ext_get_or [] (records_now t.past t.opening) t.ends (omega arith)
        (λ x lt. record_at-records_now t.past t.opening x (omega arith) ∙ sym (clean.ends x (omega arith)))

    pub clean_tree : (serial (meaning_of t) (placed t.parents t.past) t.opening).tree ≡ t.ends
    clean_tree = (serial-placed (world_of t) clean_sound all_done).0 ∙ ends_now

    pub clean_replies : (serial (meaning_of t) (placed t.parents t.past) t.opening).replies ≡ map (reply_of (world_of t)) (placed t.parents t.past)
    clean_replies = (serial-placed (world_of t) clean_sound all_done).1

pub clean_told : (t : TrailValue) (c : ℕ) → Clean t → c < length t.calls → (call_at t c).reply ≡ Some (reply_of (world_of t) c)
clean_told t c clean lt = clean.replies c lt

-- ---- faults

-- no event of a clean trail is wrong
first_right : (t : TrailValue) (f : AuditFault) → Clean t → (w : IsFirstEventFault t f) → IsRight t.parents t.opening w.before w.event
first_right t f clean w = right_within t.parents t.opening w.later w.event w.before (subst (AreRight t.parents t.opening) w.split clean.right)

-- a clean trail has no first fault
pub clean_faultless : (t : TrailValue) (f : AuditFault) → Clean t → IsFirstFault t f → ⊥
clean_faultless t (RuleBroken n) clean w = w.wrong.1 (first_right t (RuleBroken n) clean w).rules
clean_faultless t (Overlap n) clean w = w.wrong.2 (first_right t (Overlap n) clean w).apart
clean_faultless t (WrongFound n) clean w = w.wrong.3 (first_right t (WrongFound n) clean w).finds
clean_faultless t (Unfinished c) clean w = both_ways (is_done c t.past) w.not_done (clean.done c w.inside)
clean_faultless t (NotGenuine c) clean w = w.2 (clean.genuine c w.1)
clean_faultless t (WrongReply c) clean w = w.3 (clean.replies c w.1)
clean_faultless t (WrongEnd x) clean w = w.2 (clean.ends x w.1)
clean_faultless t Memory clean w = w
