-- What the calls have done, and the corresponding answers.
use Rattle.std.proofs.Common.{◌≡◌, ℕ, ◌<◌, ◌==◌, ◌↔◌, Bool, true, false, List, [], ◌∷◌, ◌++◌, length, refl, sym, ap, ◌∙◌, subst, inl, inr, arith, Option, Some, None, Ok, Err, nat_lt, take, if◌then◌else◌, ℤ}
use Rattle.std.specs.Prelude.{Result}
use Rattle.std.proofs.lemmas.Bool.{cases_eq, ne_eqb, eq-eqb, ltb-true, lt-ltb, both_ways}
use Rattle.std.proofs.lemmas.List.{append-nil, append_assoc, get_or_past}
use Rattle.tl_tree.specs.Records.{Record}
use Rattle.tl_tree_locking.specs.declared.action.Action.{Action}
use Rattle.tl_tree_locking.specs.declared.action.Action.TheVariants as did
use Rattle.tl_tree_locking.specs.History.{is_done, admits}
use Rattle.tl_tree_locking.specs.Holders.{holder_of}
use Rattle.tl_tree_locking.specs.World.{IsSound, IsStuck, MayTake, alone_of, next_of, as_found, done_of, after_step as world_after}
use Rattle.tl_tree_locking.proofs.DoneSteps.{done_own, done_others}
use Rattle.tl_tree_locking.proofs.Holders.{holder_stuck, stuck_holder, holderless_may_take}
use Rattle.tl_core.specs.declared.fault.CoreFault.TheVariants as fault
use Rattle.tl_core.specs.declared.fault.CoreFault.{CoreFault}
use Rattle.tl_core.specs.declared.stepped.Stepped.{Stepped}
use Rattle.tl_core.specs.declared.stepped.Stepped.TheVariants.{Moved, Blocked, Over}
use Rattle.tl_core.specs.declared.moves.Entry.{Entry}
use Rattle.tl_core.specs.declared.moves.Entry.TheVariants as entry
use Rattle.tl_core.specs.Cores.{CallValue, CoreValue, no_call, call_of, world_of, done_by}
use Rattle.tl_core.specs.Entries.{procedure_at, with_call_of, after_admission, step_answer, stepped_to, stepped_by, node_of, after_step, entry_of, part_of_run, IsBlocked}
use Rattle.std.specs.Option.{option_map_or}
use Rattle.tl_procedures.specs.Names.{number_of}
use Rattle.tl_machine.specs.Outcomes.{meaning}
use Rattle.tl_core.proofs.AdmitLemmas.{get_or-last}
use Rattle.tl_core.proofs.StoredCalls.{same_item}
use Rattle.tl_core.proofs.WorldAfter.{world_is}

-- ---- the parts of entries

pub part_more : (c : ℕ) (entries : List Entry) (e : Entry) → part_of_run c (entries ++ e ∷ []) ≡ part_of_run c entries ++ part_of_run c (e ∷ [])
part_more c [] e = refl
part_more c (entry.Admitted n ∷ entries) e = part_more c entries e
part_more c (entry.Refused f ∷ entries) e = part_more c entries e
part_more c (entry.Stepped d (Blocked x h) ∷ entries) e = part_more c entries e
part_more c (entry.Stepped d Over ∷ entries) e = part_more c entries e
part_more c (entry.Stepped d (Moved a) ∷ entries) e = by_call (d == c) (part_more c entries e)
  where
    by_call : (b : Bool) → part_of_run c (entries ++ e ∷ []) ≡ part_of_run c entries ++ part_of_run c (e ∷ [])
        → (if b then a ∷ part_of_run c (entries ++ e ∷ []) else part_of_run c (entries ++ e ∷ [])) ≡ (if b then a ∷ part_of_run c entries else part_of_run c entries) ++ part_of_run c (e ∷ [])
    by_call true rest = ap (λ l. a ∷ l) rest
    by_call false rest = rest

-- one more entry
pub parts_more : (c : ℕ) (before so_far now : List Action) (entries : List Entry) (e : Entry) → so_far ≡ before ++ part_of_run c entries → now ≡ so_far ++ part_of_run c (e ∷ [])
    → now ≡ before ++ part_of_run c (entries ++ e ∷ [])
parts_more c before so_far now entries e is more =
    more ∙ ap (λ l. l ++ part_of_run c (e ∷ [])) is ∙ append_assoc before (part_of_run c entries) (part_of_run c (e ∷ [])) ∙ ap (λ l. before ++ l) (sym (part_more c entries e))

-- ---- an admission: nothing is done

abbrev called : CoreValue → ℕ → List ℤ → CallValue
called v p args = record { procedure = p; code = (procedure_at v p).code; args = args; count = 0 }

-- what call d would have done in this core if it were z
abbrev first_of : CoreValue → ℕ → CallValue → List Action
first_of v d z = take z.count (alone_of (meaning z.code.instrs v.parents z.args) v.opening v.past d).actions

done_call : (v : CoreValue) (p : ℕ) (args : List ℤ) (d : ℕ) → done_by (with_call_of v p args) d ≡ done_by v d
done_call v p args d =
    let last = get_or-last v.calls (called v p args) d no_call in
    elim (cases_eq (length v.calls) d) [
      | inl same ↦
          let q = eq-eqb (length v.calls) d same in
          ap (first_of v d) (last ∙ ap (λ b. if b then called v p args else call_of v d) q) ∙ sym (ap (first_of v d) (get_or_past v.calls d no_call (omega arith)))
      | inr other ↦
          let q = ne_eqb (length v.calls) d other in
          ap (first_of v d) (last ∙ ap (λ b. if b then called v p args else call_of v d) q)
    ]

pub done_admission : (v : CoreValue) (name : List ℕ) (args : List ℤ) (d : ℕ) → done_by (after_admission v name args) d ≡ done_by v d ++ []
done_admission v name args d = by_number (number_of v.procedures name) ∙ sym (append-nil (done_by v d))
  where
    by_number : (o : Option ℕ) → done_by (option_map_or (λ p. with_call_of v p args) o v) d ≡ done_by v d
    by_number (Some p) = done_call v p args d
    by_number None = refl

-- ---- a step

module _ (v : CoreValue) (c : ℕ) (sound : IsSound (world_of v)) (counted : length v.calls ≡ admits v.past) where
  abbrev IsTold : Result Stepped CoreFault → Type 0
  IsTold r = ((d : ℕ) → done_by (after_step v c r) d ≡ done_by v d ++ part_of_run d (entry_of c r ∷ [])) × (IsBlocked r ↔ IsStuck (world_of v) c)

  nothing_done : (d : ℕ) → done_by v d ≡ done_by v d ++ []
  nothing_done d = sym (append-nil (done_by v d))

  moved_told : (a : Action) → MayTake (world_of v) c a → (IsStuck (world_of v) c → ⊥) → IsTold (Ok (Moved (as_found (world_of v) a)))
  moved_told a may free = (
    (λ d.
        let here = ap (λ w. done_of w d) (world_is v c (let lt = may.is_open.0 in omega arith) a) in
        elim (cases_eq c d) [
          | inl same ↦
              let q = eq-eqb c d same in
              rw q (here ∙ subst (λ n. done_of (world_after (world_of v) c a) n ≡ done_of (world_of v) n ++ as_found (world_of v) a ∷ []) same (done_own (world_of v) c a sound may))
          | inr other ↦
              let q = ne_eqb c d other in
              rw q (here ∙ done_others (world_of v) c d a other ∙ nothing_done d)
        ]),
    ((λ none. absurd none), (λ stuck. absurd (free stuck))),
  )

  other_told : (a : Action) → c < admits v.past → is_done c v.past ≡ false → next_of (world_of v) c ≡ Some a → ((x : ℕ) (found : Record) → a ≡ did.Lock x found → ⊥) → IsTold (Ok (Moved (as_found (world_of v) a)))
  other_told a lt goes next no_lock =
      moved_told a (holderless_may_take (world_of v) sound c a (lt, goes) next (λ x found e. absurd (no_lock x found e)))
      (λ stuck. no_lock stuck.node stuck.found (same_item (sym next ∙ stuck.is_next)))

  by_action : (a : Action) → c < admits v.past → is_done c v.past ≡ false → next_of (world_of v) c ≡ Some a → (o : Option ℕ) → holder_of v.past (node_of a) ≡ o → IsTold (Ok (stepped_by (world_of v) a o))
  by_action (did.Lock x found) lt goes next (Some holder) held = (nothing_done, ((λ told. holder_stuck (world_of v) sound c x found holder (lt, goes) next held), (λ stuck. tt)))
  by_action (did.Lock x found) lt goes next None free =
      moved_told (did.Lock x found)
      (holderless_may_take (world_of v) sound c (did.Lock x found) (lt, goes) next (λ y other e. let same : x ≡ y = cc in subst (λ z. holder_of v.past z ≡ None) same free))
      (λ stuck.
      let both : did.Lock x found ≡ did.Lock stuck.node stuck.found = same_item (sym next ∙ stuck.is_next) in
      let same : x ≡ stuck.node = cc in
      let held = subst (λ z. holder_of v.past z ≡ Some stuck.holder) (sym same) (stuck_holder (world_of v) sound c stuck) in
      let none : None ≡ Some stuck.holder = sym free ∙ held in
      absurd cc)
  by_action (did.Read x f n) lt goes next o held = other_told (did.Read x f n) lt goes next (λ y found e. absurd cc)
  by_action (did.Write x f n) lt goes next o held = other_told (did.Write x f n) lt goes next (λ y found e. absurd cc)
  by_action (did.Free x left) lt goes next o held = other_told (did.Free x left) lt goes next (λ y found e. absurd cc)
  by_action (did.Emit n) lt goes next o held = other_told (did.Emit n) lt goes next (λ y found e. absurd cc)
  by_action did.End lt goes next o held = other_told did.End lt goes next (λ y found e. absurd cc)
  by_action did.Plain lt goes next o held = other_told did.Plain lt goes next (λ y found e. absurd cc)

  by_next : (o : Option Action) → c < admits v.past → is_done c v.past ≡ false → next_of (world_of v) c ≡ o → IsTold (Ok (stepped_to (world_of v) o))
  by_next (Some a) lt goes next = by_action a lt goes next (holder_of v.past (node_of a)) refl
  by_next None lt goes next = (nothing_done, ((λ told. absurd told), (λ stuck. let none = sym next ∙ stuck.is_next in absurd cc)))

  by_done : (b : Bool) → c < admits v.past → is_done c v.past ≡ b → IsTold (if b then Ok Over else Ok (stepped_to (world_of v) (next_of (world_of v) c)))
  by_done true lt done = (nothing_done, ((λ told. absurd told), (λ stuck. absurd (both_ways (is_done c v.past) stuck.is_open.1 done))))
  by_done false lt goes = by_next (next_of (world_of v) c) lt goes refl

  by_known : (b : Bool) → nat_lt c (admits v.past) ≡ b → IsTold (if b then (if is_done c v.past then Ok Over else Ok (stepped_to (world_of v) (next_of (world_of v) c))) else Err fault.NoCall)
  by_known true lt = by_done (is_done c v.past) (ltb-true c (admits v.past) lt) refl
  by_known false ge = (nothing_done, ((λ told. absurd told), (λ stuck. let lt = lt-ltb c (admits v.past) stuck.is_open.0 in let both = sym ge ∙ lt in absurd cc)))

  told : IsTold (step_answer (world_of v) c)
  told = by_known (nat_lt c (admits v.past)) refl

  -- the action that was answered is appended to what the call has done; nothing else changes
  pub step_done : (r : Result Stepped CoreFault) → r ≡ step_answer (world_of v) c → (d : ℕ) → done_by (after_step v c r) d ≡ done_by v d ++ part_of_run d (entry_of c r ∷ [])
  step_done r is = subst (λ x. (d : ℕ) → done_by (after_step v c x) d ≡ done_by v d ++ part_of_run d (entry_of c x ∷ [])) (sym is) told.0

  -- the call is blocked exactly if it is stuck
  pub step_blocked : (r : Result Stepped CoreFault) → r ≡ step_answer (world_of v) c → IsBlocked r ↔ IsStuck (world_of v) c
  step_blocked r is = subst (λ x. IsBlocked x ↔ IsStuck (world_of v) c) (sym is) told.1
