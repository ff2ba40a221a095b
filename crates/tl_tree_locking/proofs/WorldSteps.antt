-- A step of a call keeps a world legal.
use Rattle.std.proofs.Common.{◌≡◌, ◌≢◌, ℕ, suc, ◌<◌, ◌≤◌, ◌==◌, true, false, List, [], ◌∷◌, length, set, refl, sym, ap, ◌∙◌, subst, inl, inr, arith, Some, slice_get}
use Rattle.std.proofs.lemmas.Bool.{cases_eq, cases_lt, both_ways, ne_eqb, eq-eqb}
use Rattle.std.proofs.lemmas.List.{get_or-set_other, length-set}
use Rattle.std.proofs.lemmas.Option.{slice_get_within}
use Rattle.tl_tree.specs.Records.{Record, Records, record_at}
use Rattle.tl_tree_locking.specs.declared.action.Action.{Action}
use Rattle.tl_tree_locking.specs.declared.action.Action.TheVariants as A
use Rattle.tl_tree_locking.specs.declared.event.Event.{Event}
use Rattle.tl_tree_locking.specs.declared.event.Event.TheVariants.{Admit, Lock, Free, Done}
use Rattle.tl_tree_locking.specs.Actions.{is_end, locked, with_found, shared_actions, taken, Permitted, EachPermitted}
use Rattle.tl_tree_locking.specs.History.{part_of, is_done, admits, InTurn, Apart, last_left, Follows, IsLegalHistory}
use Rattle.tl_tree_locking.specs.Alone.{Outcome, IsAlone}
use Rattle.tl_tree_locking.specs.World.{World, alone_of, Genuine, Legal, IsSound, MayTake, as_found, past_after, after_step}
use Rattle.tl_tree_locking.proofs.PartLemmas.{part_of-lock, part_of-free, part_of-done, part_of-other}
use Rattle.tl_tree_locking.proofs.Records.{record_at-put_record, length-with_found}
use Rattle.tl_tree_locking.proofs.SharedActions.{locked-shared_actions, obeys_shared}
use Rattle.tl_tree_locking.proofs.Alone.{taken-next, obeys_taken, permitted_at, finds_at, Alike, same_taken, alike_lock, ends_there, ends_later, taken_inside}

-- a call that wasn't admitted has done nothing
pub unadmitted : (past : List Event) → InTurn past → (c : ℕ) → admits past ≤ c → part_of c past ≡ []
unadmitted [] turn c le = refl
unadmitted (Admit d ∷ past) turn c le = unadmitted past turn.1 c (omega arith)
unadmitted (Lock x d found ∷ past) turn c le = let lt : d < admits past = turn.0.0 in let ne : d ≢ c = λ w. omega arith in part_of-other (Lock x d found) c past ne ∙ unadmitted past turn.1 c le
unadmitted (Free x d left ∷ past) turn c le = let lt : d < admits past = turn.0.0 in let ne : d ≢ c = λ w. omega arith in part_of-other (Free x d left) c past ne ∙ unadmitted past turn.1 c le
unadmitted (Done d ∷ past) turn c le = let lt : d < admits past = turn.0.0 in let ne : d ≢ c = λ w. omega arith in part_of-other (Done d) c past ne ∙ unadmitted past turn.1 c le

-- the history of a legal world is legal, since each call does what it does alone, where it is permitted
pub legal_history : (w : World) → Legal w → length w.opening ≡ length w.parents → ((c : ℕ) → c < admits w.past → IsAlone w.parents (w.meanings c)) → IsLegalHistory w.parents w.past
legal_history w legal len meanings = record {
  obeys = λ c. elim (cases_lt c (admits w.past)) [
    | inl here ↦
        let g = legal.genuine c here in
        let size : length (with_found (part_of c w.past) w.opening) ≡ length w.parents = length-with_found (part_of c w.past) w.opening ∙ len in
        let o = (meanings c here).obeys (with_found (part_of c w.past) w.opening) size in
        subst (EachPermitted w.parents) (sym g.is_part) (obeys_shared w.parents (taken (w.counts c) ((alone_of (w.meanings c) w.opening w.past c).actions) []) (obeys_taken w.parents (w.counts c) ((alone_of (w.meanings c) w.opening w.past c).actions) [] o tt))
    | inr out ↦ subst (EachPermitted w.parents) (sym (unadmitted w.past legal.in_turn c out)) tt
  ];
  apart = legal.apart;
  in_turn = legal.in_turn;
}

-- a call whose part of the history doesn't change stays genuine
pub done_other : (alone : Records → Outcome) (opening : Records) (past more : List Event) (c k : ℕ) → Genuine alone opening past c k → part_of c more ≡ part_of c past → is_done c more ≡ is_done c past
    → Genuine alone opening more c k
done_other alone opening past more c k h same over =
    let r : (alone_of alone opening more c).actions ≡ (alone_of alone opening past c).actions = ap (λ p. (alone (with_found p opening)).actions) same in
    record {
      is_part = same ∙ h.is_part ∙ ap (λ actions. shared_actions (taken k actions [])) (sym r);
      within = subst (λ actions. k ≤ length actions) (sym r) h.within;
      ended = over ∙ h.ended ∙ ap (λ actions. k == length actions) (sym r);
    }

-- after an action that isn't a lock, the call has done one more of the same actions alone
done_next : (alone : Records → Outcome) (opening : Records) (past more : List Event) (c k : ℕ) (a : Action) → Genuine alone opening past c k
    → (alone_of alone opening more c).actions ≡ (alone_of alone opening past c).actions → slice_get ((alone_of alone opening past c).actions) k ≡ Some a
    → part_of c more ≡ shared_actions (a ∷ taken k ((alone_of alone opening past c).actions) []) → is_done c more ≡ (suc k == length ((alone_of alone opening past c).actions)) → Genuine alone opening more c (suc k)
done_next alone opening past more c k a h r next same over =
    record {
      is_part = same ∙ ap shared_actions (sym (taken-next k ((alone_of alone opening past c).actions) [] a next)) ∙ ap (λ actions. shared_actions (taken (suc k) actions [])) (sym r);
      within = subst (λ actions. suc k ≤ length actions) (sym r) (slice_get_within ((alone_of alone opening past c).actions) k a next);
      ended = over ∙ ap (λ actions. suc k == length actions) (sym r);
    }

-- After a lock, the actions of the call alone are those on the tree with the record found; the first k don't change.
module _ (parents : List ℕ) (alone : Records → Outcome) (is_alone : IsAlone parents alone) (opening : Records) (len : length opening ≡ length parents) (past : List Event) (c k x : ℕ) (r found : Record)
    (next : slice_get ((alone_of alone opening past c).actions) k ≡ Some (A.Lock x r)) where
  abbrev tree_before : Records
  tree_before = with_found (part_of c past) opening

  abbrev tree_then : Records
  tree_then = set tree_before x found

  abbrev actions_before : List Action
  actions_before = (alone tree_before).actions

  abbrev actions_then : List Action
  actions_then = (alone tree_then).actions

  size_before : length tree_before ≡ length parents
  size_before = length-with_found (part_of c past) opening ∙ len

  size_then : length tree_then ≡ length tree_before
  size_then = length-set tree_before x found

  run_then : (alone_of alone opening (Lock x c found ∷ past) c).actions ≡ actions_then
  run_then = ap (λ p. (alone (with_found p opening)).actions) (part_of-lock c x found past)

  same_so_far : (taken k actions_before [] ≡ taken k actions_then []) × Alike (slice_get actions_before k) (slice_get actions_then k)
  same_so_far =
      let p : Permitted parents (taken k actions_before []) (A.Lock x r) = permitted_at parents k actions_before [] (A.Lock x r) (is_alone.obeys tree_before size_before) next in
      let agree : (y : ℕ) → locked (taken k actions_before []) y ≡ true → record_at tree_before y ≡ record_at tree_then y =
      λ y l. let ne : y ≢ x = λ (w : y ≡ x). both_ways (locked (taken k actions_before []) x) p.0 (subst (λ z. locked (taken k actions_before []) z ≡ true) w l) in sym (get_or-set_other tree_before x y found [] ne) in
      same_taken k actions_before actions_then [] tree_before tree_then (is_alone.same tree_before tree_then size_before (size_then ∙ size_before)) (is_alone.finds tree_before size_before) (is_alone.finds tree_then (size_then ∙ size_before)) agree

  -- the next of these actions is the lock that finds this record
  next_then : (other : Record) × (slice_get actions_then k ≡ Some (A.Lock x other)) × (other ≡ found)
  next_then =
      let like : Alike (Some (A.Lock x r)) (slice_get actions_then k) = subst (λ o. Alike o (slice_get actions_then k)) next same_so_far.1 in
      let other = alike_lock x r (slice_get actions_then k) like in
      let finds = finds_at tree_then k actions_then x other.0 (is_alone.finds tree_then (size_then ∙ size_before)) other.1 in
      let self = eq-eqb x x refl in
      (other.0, other.1, finds.1 ∙ record_at-put_record tree_before x found x (subst (λ n. x < n) size_then finds.0) ∙ (rw self refl))

  lock_taken : A.Lock x found ∷ taken k actions_before [] ≡ taken (suc k) actions_then []
  lock_taken =
      let other = next_then in
      let same = same_so_far.0 in
      (λ i. A.Lock x (sym other.2 i) ∷ same i) ∙ sym (taken-next k actions_then [] (A.Lock x other.0) other.1)

  done_lock : Genuine alone opening past c k → is_done c past ≡ false → Genuine alone opening (Lock x c found ∷ past) c (suc k)
  done_lock h goes_on =
      let other = next_then in
      let later = ends_later k actions_then (A.Lock x other.0) (is_alone.ends tree_then (size_then ∙ size_before)) other.1 refl in
      record {
        is_part = part_of-lock c x found past ∙ ap (λ z. A.Lock x found ∷ z) h.is_part ∙ ap shared_actions lock_taken ∙ ap (λ z. shared_actions (taken (suc k) z [])) (sym run_then);
        within = subst (λ z. suc k ≤ length z) (sym run_then) (omega arith);
        ended = goes_on ∙ sym (ne_eqb (suc k) (length actions_then) (λ w. omega arith)) ∙ ap (λ z. suc k == length z) (sym run_then);
      }

-- an action that isn't the end isn't the last one
own_later : (w : World) (c : ℕ) (next : Action) → IsAlone w.parents (w.meanings c) → length w.opening ≡ length w.parents → MayTake w c next → is_end next ≡ false
    → is_done c w.past ≡ (suc (w.counts c) == length ((alone_of (w.meanings c) w.opening w.past c).actions))
own_later w c next is_alone len may n =
    let later = ends_later (w.counts c) ((alone_of (w.meanings c) w.opening w.past c).actions) next (is_alone.ends (with_found (part_of c w.past) w.opening) (length-with_found (part_of c w.past) w.opening ∙ len)) may.is_next n in
    may.is_open.1 ∙ sym (ne_eqb (suc (w.counts c)) (length ((alone_of (w.meanings c) w.opening w.past c).actions)) (λ e. omega arith))

-- a call stays genuine after its next action
own : (w : World) (c : ℕ) (next : Action) → IsAlone w.parents (w.meanings c) → length w.opening ≡ length w.parents → Genuine (w.meanings c) w.opening w.past c (w.counts c) → MayTake w c next
    → Genuine (w.meanings c) w.opening (past_after c (as_found w next) w.past) c (suc (w.counts c))
own w c (A.Lock x r) is_alone len h may = done_lock w.parents (w.meanings c) is_alone w.opening len w.past c (w.counts c) x r (last_left w.past x (record_at w.opening x)) may.is_next h may.is_open.1
own w c (A.Read x f n) is_alone len h may = done_next (w.meanings c) w.opening w.past w.past c (w.counts c) (A.Read x f n) h refl may.is_next h.is_part (own_later w c (A.Read x f n) is_alone len may refl)
own w c (A.Write x f n) is_alone len h may = done_next (w.meanings c) w.opening w.past w.past c (w.counts c) (A.Write x f n) h refl may.is_next h.is_part (own_later w c (A.Write x f n) is_alone len may refl)
own w c (A.Free x left) is_alone len h may =
    let q = part_of-free c x left w.past in
    done_next (w.meanings c) w.opening w.past (Free x c left ∷ w.past) c (w.counts c) (A.Free x left) h (ap (λ p. (w.meanings c (with_found p w.opening)).actions) q) may.is_next (q ∙ ap (λ z. A.Free x left ∷ z) h.is_part) (own_later w c (A.Free x left) is_alone len may refl)
own w c (A.Emit n) is_alone len h may = done_next (w.meanings c) w.opening w.past w.past c (w.counts c) (A.Emit n) h refl may.is_next h.is_part (own_later w c (A.Emit n) is_alone len may refl)
own w c A.End is_alone len h may =
    let q = part_of-done c w.past in
    let self = eq-eqb c c refl in
    let all = ends_there (w.counts c) ((alone_of (w.meanings c) w.opening w.past c).actions) (is_alone.ends (with_found (part_of c w.past) w.opening) (length-with_found (part_of c w.past) w.opening ∙ len)) may.is_next in
    done_next (w.meanings c) w.opening w.past (Done c ∷ w.past) c (w.counts c) A.End h (ap (λ p. (w.meanings c (with_found p w.opening)).actions) q) may.is_next (q ∙ ap (λ z. A.End ∷ z) h.is_part)
    (rw self (sym (eq-eqb (suc (w.counts c)) (length ((alone_of (w.meanings c) w.opening w.past c).actions)) (sym all))))
own w c A.Plain is_alone len h may = done_next (w.meanings c) w.opening w.past w.past c (w.counts c) A.Plain h refl may.is_next h.is_part (own_later w c A.Plain is_alone len may refl)

-- an action doesn't change whether other calls are done
is_done-past_after : (c d : ℕ) (a : Action) (past : List Event) → c ≢ d → is_done d (past_after c a past) ≡ is_done d past
is_done-past_after c d (A.Lock x r) past ne = refl
is_done-past_after c d (A.Read x f n) past ne = refl
is_done-past_after c d (A.Write x f n) past ne = refl
is_done-past_after c d (A.Free x left) past ne = refl
is_done-past_after c d (A.Emit n) past ne = refl
is_done-past_after c d A.End past ne = let q = ne_eqb c d ne in rw q refl
is_done-past_after c d A.Plain past ne = refl

pub part_of-past_after : (c d : ℕ) (a : Action) (past : List Event) → c ≢ d → part_of d (past_after c a past) ≡ part_of d past
part_of-past_after c d (A.Lock x r) past ne = part_of-other (Lock x c r) d past ne
part_of-past_after c d (A.Read x f n) past ne = refl
part_of-past_after c d (A.Write x f n) past ne = refl
part_of-past_after c d (A.Free x left) past ne = part_of-other (Free x c left) d past ne
part_of-past_after c d (A.Emit n) past ne = refl
part_of-past_after c d A.End past ne = part_of-other (Done c) d past ne
part_of-past_after c d A.Plain past ne = refl

pub admits-past_after : (c : ℕ) (a : Action) (past : List Event) → admits (past_after c a past) ≡ admits past
admits-past_after c (A.Lock x r) past = refl
admits-past_after c (A.Read x f n) past = refl
admits-past_after c (A.Write x f n) past = refl
admits-past_after c (A.Free x left) past = refl
admits-past_after c (A.Emit n) past = refl
admits-past_after c A.End past = refl
admits-past_after c A.Plain past = refl

record Rules (opening : Records) (past : List Event) : Type 0 where
  in_turn : InTurn past
  apart : Apart past
  follows : Follows opening past

rules_kept : (w : World) (c : ℕ) (next : Action) → Legal w → MayTake w c next → Rules w.opening (past_after c (as_found w next) w.past)
rules_kept w c (A.Lock x r) legal may = record { in_turn = (may.is_open, legal.in_turn); apart = (may.is_free, legal.apart); follows = (refl, legal.follows) }
rules_kept w c (A.Read x f n) legal may = record { in_turn = legal.in_turn; apart = legal.apart; follows = legal.follows }
rules_kept w c (A.Write x f n) legal may = record { in_turn = legal.in_turn; apart = legal.apart; follows = legal.follows }
rules_kept w c (A.Free x left) legal may = record { in_turn = (may.is_open, legal.in_turn); apart = legal.apart; follows = legal.follows }
rules_kept w c (A.Emit n) legal may = record { in_turn = legal.in_turn; apart = legal.apart; follows = legal.follows }
rules_kept w c A.End legal may = record { in_turn = (may.is_open, legal.in_turn); apart = legal.apart; follows = legal.follows }
rules_kept w c A.Plain legal may = record { in_turn = legal.in_turn; apart = legal.apart; follows = legal.follows }

-- a step keeps a world legal
pub legal_after_step : (w : World) (c : ℕ) (next : Action) → Legal w → length w.opening ≡ length w.parents → ((d : ℕ) → d < admits w.past → IsAlone w.parents (w.meanings d)) → MayTake w c next → Legal (after_step w c next)
legal_after_step w c next legal len meanings may =
    let a = as_found w next in
    let r = rules_kept w c next legal may in
    let h = legal.genuine c may.is_open.0 in
    record {
      in_turn = r.in_turn;
      apart = r.apart;
      follows = r.follows;
      genuine = λ d lt. elim (cases_eq c d) [
        | inl same ↦
            let q = eq-eqb c d same in
            rw q (subst (λ e. Genuine (w.meanings e) w.opening (past_after c a w.past) e (suc (w.counts e))) same (own w c next (meanings c may.is_open.0) len h may))
        | inr other ↦
            let q = ne_eqb c d other in
            let lt2 : d < admits w.past = subst (λ n. d < n) (admits-past_after c a w.past) lt in
            rw q (done_other (w.meanings d) w.opening w.past (past_after c a w.past) d (w.counts d) (legal.genuine d lt2) (part_of-past_after c d a w.past other) (is_done-past_after c d a w.past other))
      ];
    }

-- ---- what each call has done

-- a step puts its action in front of what its call has done, the latest first
pub taken_on : (w : World) (c : ℕ) (next : Action) → IsAlone w.parents (w.meanings c) → length w.opening ≡ length w.parents → MayTake w c next
    → taken (suc (w.counts c)) (alone_of (w.meanings c) w.opening (past_after c (as_found w next) w.past) c).actions [] ≡ as_found w next ∷ taken (w.counts c) (alone_of (w.meanings c) w.opening w.past c).actions []
taken_on w c (A.Lock x r) is_alone len may =
    let found = last_left w.past x (record_at w.opening x) in
    ap (λ actions. taken (suc (w.counts c)) actions []) (run_then w.parents (w.meanings c) is_alone w.opening len w.past c (w.counts c) x r found may.is_next)
    ∙ sym (lock_taken w.parents (w.meanings c) is_alone w.opening len w.past c (w.counts c) x r found may.is_next)
taken_on w c (A.Read x f n) is_alone len may = taken-next (w.counts c) (alone_of (w.meanings c) w.opening w.past c).actions [] (A.Read x f n) may.is_next
taken_on w c (A.Write x f n) is_alone len may = taken-next (w.counts c) (alone_of (w.meanings c) w.opening w.past c).actions [] (A.Write x f n) may.is_next
taken_on w c (A.Free x left) is_alone len may =
    ap (λ p. taken (suc (w.counts c)) (w.meanings c (with_found p w.opening)).actions []) (part_of-free c x left w.past)
    ∙ taken-next (w.counts c) (alone_of (w.meanings c) w.opening w.past c).actions [] (A.Free x left) may.is_next
taken_on w c (A.Emit n) is_alone len may = taken-next (w.counts c) (alone_of (w.meanings c) w.opening w.past c).actions [] (A.Emit n) may.is_next
taken_on w c A.End is_alone len may =
    ap (λ p. taken (suc (w.counts c)) (w.meanings c (with_found p w.opening)).actions []) (part_of-done c w.past)
    ∙ taken-next (w.counts c) (alone_of (w.meanings c) w.opening w.past c).actions [] A.End may.is_next
taken_on w c A.Plain is_alone len may = taken-next (w.counts c) (alone_of (w.meanings c) w.opening w.past c).actions [] A.Plain may.is_next

-- the nodes that a call of a sound world has locked are those of the tree
pub part_inside : (w : World) → IsSound w → (c x : ℕ) → locked (part_of c w.past) x ≡ true → x < length w.parents
part_inside w sound c x l = elim (cases_lt c (admits w.past)) [
  | inl here ↦
      let g = sound.legal.genuine c here in
      let t = with_found (part_of c w.past) w.opening in
      let size : length t ≡ length w.parents = length-with_found (part_of c w.past) w.opening ∙ sound.size in
      let first = taken (w.counts c) (w.meanings c t).actions [] in
      let shared : locked (shared_actions first) x ≡ true = ap (λ z. locked z x) (sym g.is_part) ∙ l in
      let whole : locked first x ≡ true = sym (locked-shared_actions first x) ∙ shared in
      subst (λ n. x < n) size (elim (taken_inside t (w.counts c) (w.meanings c t).actions [] ((sound.meanings c here).finds t size) x whole) [
        | inl in' ↦ in'
        | inr none ↦ absurd (both_ways false refl none)
      ])
  | inr out ↦
      let p = unadmitted w.past sound.legal.in_turn c out in
      let none : locked (part_of c w.past) x ≡ false = ap (λ z. locked z x) p in
      absurd (both_ways (locked (part_of c w.past) x) none l)
]
