-- Calls run alone in an order that agrees with the history.
use Rattle.std.proofs.Common.{zero, suc, ◌≤◌, false, Option, Some, None, slice_get, ℤ, ◌≡◌, ℕ, ◌<◌, true, List, [], ◌∷◌, ◌++◌, map, length, refl, sym, ap, ◌∙◌, subst, inl, inr, arith, append_assoc}
use Rattle.std.proofs.lemmas.Bool.{both_ways, eq-eqb}
use Rattle.std.proofs.lemmas.List.{ext_get_or, append-nil}
use Rattle.tl_tree.specs.Records.{Records, record_at}
use Rattle.tl_tree_locking.specs.declared.action.Action.{Action}
use Rattle.tl_tree_locking.specs.declared.event.Event.{Event}
use Rattle.tl_tree_locking.specs.Actions.{locked, left_in, with_found, emitted, shared_actions, taken}
use Rattle.tl_tree_locking.specs.History.{part_of, records_now, Follows, IsLegalHistory}
use Rattle.tl_tree_locking.specs.Order.{stands, Agrees}
use Rattle.tl_tree_locking.specs.Alone.{Outcome, all_taken, IsAlone, serial}
use Rattle.tl_tree_locking.specs.World.{alone_of}
use Rattle.tl_tree_locking.proofs.MayComeLemmas.{locked-any}
use Rattle.tl_tree_locking.proofs.Orders.{stands-append}
use Rattle.tl_tree_locking.proofs.Records.{length-records_now, record_at-records_now, length-with_found, record_at-with_found}
use Rattle.tl_tree_locking.proofs.SharedActions.{locked-shared_actions, left_in-shared_actions}
use Rattle.tl_tree_locking.proofs.RecordsAlongOrder.{laid, laid-append, laid-last_left, laid-found}
use Rattle.tl_tree_locking.proofs.Alone.{Alike, same_taken, taken_inside}

-- a call's actions alone depend only on the records of the nodes that it locks, and it changes only those that it frees
pub record IsLocal (nodes : ℕ) (alone : Records → Outcome) : Type 0 where
  pub same_actions : (t u : Records) → length t ≡ nodes → length u ≡ nodes → ((x : ℕ) → x < nodes → locked (all_taken (alone t).actions) x ≡ true → record_at t x ≡ record_at u x)
      → all_taken (alone t).actions ≡ all_taken (alone u).actions
  pub reply : (t : Records) → length t ≡ nodes → (alone t).reply ≡ emitted (all_taken (alone t).actions)
  pub size : (t : Records) → length t ≡ nodes → length (alone t).tree ≡ length t
  pub leaves : (t : Records) (x : ℕ) → length t ≡ nodes → x < nodes → record_at (alone t).tree x ≡ left_in (all_taken (alone t).actions) x (record_at t x)

taken-past : (k : ℕ) (actions done : List Action) → length actions ≤ k → taken k actions done ≡ taken (length actions) actions done
taken-past zero [] done le = refl
taken-past zero (a ∷ actions) done le = absurd (omega arith)
taken-past (suc k) [] done le = refl
taken-past (suc k) (a ∷ actions) done le = taken-past k actions (a ∷ done) (omega arith)

past-none : (k : ℕ) (actions : List Action) → slice_get actions k ≡ None → length actions ≤ k
past-none k [] h = omega arith
past-none zero (a ∷ actions) h = absurd cc
past-none (suc k) (a ∷ actions) h = let i = past-none k actions h in omega arith

none_alike : (o : Option Action) → Alike None o → o ≡ None
none_alike None h = refl
none_alike (Some a) h = absurd h

none_past : (actions : List Action) → slice_get actions (length actions) ≡ None
none_past [] = refl
none_past (a ∷ actions) = none_past actions

-- a call with a meaning alone is local
pub alone_local : (parents : List ℕ) (n : ℕ) → n ≡ length parents → (alone : Records → Outcome) → IsAlone parents alone → IsLocal n alone
alone_local parents n len alone is = record {
  same_actions = λ t u lt lu agree.
      let actions = (alone t).actions in let others = (alone u).actions in
      let ft = is.finds t (lt ∙ len) in
      let inside : (x : ℕ) → locked (all_taken actions) x ≡ true → x < n = λ x l. subst (λ m. x < m) lt (elim (taken_inside t (length actions) actions [] ft x l) [ inl here ↦ here | inr no_lock ↦ absurd (both_ways false refl no_lock) ]) in
      let s = same_taken (length actions) actions others [] t u (is.same t u (lt ∙ len) (lu ∙ len)) ft (is.finds u (lu ∙ len)) (λ x l. agree x (inside x l) l) in
      let none = none_alike (slice_get others (length actions)) (subst (λ o. Alike o (slice_get others (length actions))) (none_past actions) s.1) in
      s.0 ∙ taken-past (length actions) others [] (past-none (length actions) others none);
  reply = λ t lt. is.reply t (lt ∙ len);
  size = λ t lt. is.size t (lt ∙ len);
  leaves = λ t x lt inside. is.leaves t x (lt ∙ len) (subst (λ m. x < m) (sym lt) inside);
}

-- the reply of a call to what it found
abbrev pub reply_found : (ℕ → Records → Outcome) → Records → List Event → ℕ → List ℤ
reply_found meanings opening past c = (alone_of (meanings c) opening past c).reply

-- a history of calls that are all done, each of which did what it does alone on what it found
pub record IsComplete (meanings : ℕ → Records → Outcome) (opening : Records) (past : List Event) (order : List ℕ) : Type 0 where
  pub follows : Follows opening past
  pub is_local : (c : ℕ) → stands c order ≡ true → IsLocal (length opening) (meanings c)
  pub genuine : (c : ℕ) → stands c order ≡ true → part_of c past ≡ shared_actions (all_taken (alone_of (meanings c) opening past c).actions)

-- a call of the order, run alone after those before it, gives the same reply and leaves the same records as in the history
record Does (meanings : ℕ → Records → Outcome) (opening : Records) (past : List Event) (c : ℕ) (t : Records) : Type 0 where
  reply : (meanings c t).reply ≡ reply_found meanings opening past c
  size : length (meanings c t).tree ≡ length t
  leaves : (x : ℕ) → x < length t → record_at (meanings c t).tree x ≡ left_in (part_of c past) x (record_at t x)

does : (parents : List ℕ) (meanings : ℕ → Records → Outcome) (opening : Records) (past : List Event) (front back : List ℕ) (c : ℕ)
    → IsLegalHistory parents past → Agrees (front ++ c ∷ back) past → IsComplete meanings opening past (front ++ c ∷ back) → stands c (front ++ c ∷ back) ≡ true
    → ((d x : ℕ) → locked (part_of d past) x ≡ true → stands d (front ++ c ∷ back) ≡ true)
    → (t : Records) → length t ≡ length opening → ((x : ℕ) → x < length opening → record_at t x ≡ laid past x (record_at opening x) front) → Does meanings opening past c t
does parents meanings opening past front back c legal agrees complete here in_order t len is =
    let done = part_of c past in
    let u = with_found done opening in
    let local = complete.is_local c here in
    let genuine : done ≡ shared_actions (all_taken (meanings c u).actions) = complete.genuine c here in
    let size : length u ≡ length opening = length-with_found done opening in
    let lock_in : (x : ℕ) → locked (all_taken (meanings c u).actions) x ≡ locked done x = λ x. sym (locked-shared_actions (all_taken (meanings c u).actions) x) ∙ ap (λ a. locked a x) (sym genuine) in
    let found : (x : ℕ) → x < length opening → locked (all_taken (meanings c u).actions) x ≡ true → record_at u x ≡ record_at t x =
    λ x lt l.
    let l2 : locked done x ≡ true = sym (lock_in x) ∙ l in
    record_at-with_found done opening x lt ∙ sym (laid-found parents front back c agrees.distinct opening past (record { legal = legal; sorted = agrees.in_lock_order }) complete.follows in_order x l2) ∙ sym (is x lt) in
    let same : all_taken (meanings c u).actions ≡ all_taken (meanings c t).actions = local.same_actions u t size len found in
    record {
      reply = local.reply t len ∙ ap emitted (sym same) ∙ sym (local.reply u size);
      size = local.size t len;
      leaves = λ x lt. local.leaves t x len (subst (λ n. x < n) len lt) ∙ ap (λ a. left_in a x (record_at t x)) (sym same) ∙ sym (left_in-shared_actions (all_taken (meanings c u).actions) x (record_at t x)) ∙ ap (λ a. left_in a x (record_at t x)) (sym genuine);
    }

record Ends (meanings : ℕ → Records → Outcome) (opening : Records) (past : List Event) (front behind : List ℕ) (t : Records) : Type 0 where
  size : length (serial meanings behind t).tree ≡ length opening
  tree : (x : ℕ) → x < length opening → record_at (serial meanings behind t).tree x ≡ laid past x (record_at opening x) (front ++ behind)
  replies : (serial meanings behind t).replies ≡ map (reply_found meanings opening past) behind

ends : (parents : List ℕ) (meanings : ℕ → Records → Outcome) (opening : Records) (past : List Event) (front behind : List ℕ)
    → IsLegalHistory parents past → Agrees (front ++ behind) past → IsComplete meanings opening past (front ++ behind)
    → (t : Records) → length t ≡ length opening → ((x : ℕ) → x < length opening → record_at t x ≡ laid past x (record_at opening x) front) → Ends meanings opening past front behind t
ends parents meanings opening past front [] legal agrees complete t len is = record {
  size = len;
  tree = λ x lt. is x lt ∙ ap (laid past x (record_at opening x)) (sym (append-nil front));
  replies = refl;
}
ends parents meanings opening past front (c ∷ cs) legal agrees complete t len is =
    let order = front ++ c ∷ cs in
    let longer = front ++ c ∷ [] in
    let here : stands c order ≡ true = let s = stands-append c front (c ∷ cs) in let self = eq-eqb c c refl in grind (arith, s, self) in
    let in_order : (d x : ℕ) → locked (part_of d past) x ≡ true → stands d order ≡ true = λ d x l. let m = agrees.members d in let any = locked-any (part_of d past) x l in grind (arith, m, any) in
    let d = does parents meanings opening past front cs c legal agrees complete here in_order t len is in
    let same : longer ++ cs ≡ order = append_assoc front (c ∷ []) cs in
    let size : length (meanings c t).tree ≡ length opening = d.size ∙ len in
    let rest = ends parents meanings opening past longer cs legal (subst (λ o. Agrees o past) (sym same) agrees) (subst (λ o. IsComplete meanings opening past o) (sym same) complete) (meanings c t).tree size
    (λ x lt. d.leaves x (subst (λ n. x < n) (sym len) lt) ∙ ap (left_in (part_of c past) x) (is x lt) ∙ sym (laid-append past x (record_at opening x) front (c ∷ []))) in
    record {
      size = rest.size;
      tree = λ x lt. rest.tree x lt ∙ ap (laid past x (record_at opening x)) same;
      replies = (λ i. d.reply i ∷ rest.replies i);
    }

-- calls run alone in an order that agrees with a legal history leave the history's records and give its replies
pub serial-along : (parents : List ℕ) (meanings : ℕ → Records → Outcome) (opening : Records) (past : List Event) (order : List ℕ)
    → IsLegalHistory parents past → Agrees order past → IsComplete meanings opening past order
    → ((serial meanings order opening).tree ≡ records_now past opening) × ((serial meanings order opening).replies ≡ map (reply_found meanings opening past) order)
serial-along parents meanings opening past order legal agrees complete =
    let e = ends parents meanings opening past [] order legal agrees complete opening refl (λ x lt. refl) in
    let in_order : (d x : ℕ) → locked (part_of d past) x ≡ true → stands d order ≡ true = λ d x l. let m = agrees.members d in let any = locked-any (part_of d past) x l in grind (arith, m, any) in (
      ext_get_or [] ((serial meanings order opening).tree) (records_now past opening) (e.size ∙ sym (length-records_now past opening))
          (λ x lt.
          let lt2 : x < length opening = subst (λ n. x < n) e.size lt in
          e.tree x lt2 ∙ laid-last_left parents order agrees.distinct past (record { legal = legal; sorted = agrees.in_lock_order }) in_order x (record_at opening x) ∙ sym (record_at-records_now past opening x lt2)),
      e.replies,
    )
