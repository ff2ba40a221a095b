-- A table with one more call.
use Rattle.std.proofs.Common.{◌≡◌, ⊎_elim, ℕ, zero, suc, ◌<◌, ◌≤◌, ◌+◌, Bool, true, false, List, [], ◌∷◌, ◌++◌, length, get_or, refl, sym, ap, ◌∙◌, subst, arith, Option, Some, None, ℤ, bytes_eq}
use Rattle.std.specs.Prelude.{if◌then◌else◌}
use Rattle.std.specs.Option.{option_map_or}
use Rattle.std.proofs.Math.Nat.{eq-or-lt_of_le}
use Rattle.std.proofs.Math.Seq.{get_or-append_seam}
use Rattle.std.proofs.Math.ListN.{get_or-append}
use Rattle.std.proofs.lemmas.Bool.{and_parts, leb-true}
use Rattle.std.proofs.lemmas.List.{length-append}
use Rattle.std.proofs.lemmas.List.Quantifiers.{position-Some}
use Rattle.std.proofs.lemmas.Option.{none-some}
use Rattle.std.proofs.lemmas.Slice.Eq.{bytes_eq-Decides}
use Rattle.tl_history.specs.declared.history.TheConstants.{MAX_CALLS}
use Rattle.tl_tree_locking.specs.declared.event.Event.TheVariants.{Admit}
use Rattle.tl_tree_locking.specs.History.{is_done, admits, InTurn}
use Rattle.tl_tree_locking.proofs.ReachedWorlds.{unadmitted_done}
use Rattle.tl_procedures.specs.Names.{Named, no_procedure, number_of, is_name, taken_by, AreFreeAfter}
use Rattle.tl_procedures.specs.declared.fault.NamingFault.TheVariants as naming
use Rattle.tl_procedures.specs.declared.procedures.TheConstants.{MAX_NAME}
use Rattle.tl_core.specs.declared.fault.CoreFault.TheVariants as core_fault
use Rattle.tl_core.specs.Cores.{CoreState, CoreValue, CallValue}
use Rattle.tl_core.specs.Entries.{procedure_at, refusal_of, admission_refusal, after_admission, with_call_of}
use Rattle.tl_table.specs.Ends.{begun_by_end}
use Rattle.tl_table.specs.Epochs.{EpochValue, seen}
use Rattle.tl_table.specs.Stored.{IsEpoch}

-- ---- what was admitted

-- the procedure of the call that the core admits
pub record IsAdmitted (v w : CoreValue) (name : List ℕ) (args : List ℤ) : Type 0 where
  pub number : ℕ
  pub named : number_of v.procedures name ≡ Some number
  pub is_more : w ≡ with_call_of v number args

admitted_as : (v w : CoreValue) (name : List ℕ) (args : List ℤ) (found : Option ℕ) → number_of v.procedures name ≡ found
    → option_map_or (λ p. refusal_of v (procedure_at v p) args) found (Some core_fault.NoProcedure) ≡ None → w ≡ option_map_or (λ p. with_call_of v p args) found v
    → IsAdmitted v w name args
admitted_as v w name args (Some p) at free is = record { number = p; named = at; is_more = is }
admitted_as v w name args None at free is = absurd (none-some _ (sym free))

pub admitted : (v w : CoreValue) (name : List ℕ) (args : List ℤ) → admission_refusal v name args ≡ None → w ≡ after_admission v name args → IsAdmitted v w name args
admitted v w name args free is = admitted_as v w name args (number_of v.procedures name) refl free is

-- ---- names that were taken up are short

is_short : (name : List ℕ) → is_name name ≡ true → length name ≤ MAX_NAME
is_short name h = leb-true _ _ (and_parts _ _ (and_parts _ _ h).1).0

named_short : (b : Bool) (name : List ℕ) (found : Option ℕ) (count : ℕ) → is_name name ≡ b → (if b then taken_by found count else Some naming.BadName) ≡ None → length name ≤ MAX_NAME
named_short true name found count h free = is_short name h
named_short false name found count h free = absurd (none-some _ (sym free))

each_short : (before ps : List Named) (i : ℕ) → AreFreeAfter before ps → i < length ps → length (get_or ps i no_procedure).name ≤ MAX_NAME
each_short before [] i free lt = absurd (omega (arith, lt))
each_short before (p ∷ ps) zero free lt = named_short (is_name p.name) p.name (number_of before p.name) (length before) refl free.0
each_short before (p ∷ ps) (suc i) free lt = each_short (before ++ p ∷ []) ps i free.1 (omega (arith, lt))

pub name_short : (ps : List Named) (name : List ℕ) (i : ℕ) → AreFreeAfter [] ps → number_of ps name ≡ Some i → length name ≤ MAX_NAME
name_short ps name i free at =
    let found = position-Some (λ p. bytes_eq name p.name) ps i no_procedure at in
    let same : name ≡ (get_or ps i no_procedure).name = (bytes_eq-Decides name (get_or ps i no_procedure).name).0 found.1 in
    subst (λ n. length n ≤ MAX_NAME) (sym same) (each_short [] ps i free found.0)

-- ---- the table stays one

pub table_more : (t : EpochValue) (begun : List ℕ) (owners_room begun_room : ℕ) → IsEpoch t begun owners_room begun_room
    → InTurn (seen t).past → length (seen t).calls ≡ admits (seen t).past
    → (w : CoreState) (call : CallValue) → w.seen.calls ≡ (seen t).calls ++ call ∷ [] → w.seen.past ≡ Admit (length (seen t).calls) ∷ (seen t).past
    → (session : ℕ) → session < t.sessions
    → (owners more : List ℕ) → owners ≡ t.owners ++ session ∷ [] → more ≡ begun ++ 0 ∷ []
    → (r s : ℕ) → r ≡ owners_room → s ≡ begun_room
    → IsEpoch (record { number = t.number; core = w; sessions = t.sessions; owners = owners }) more r s
table_more t begun ro rb h turn counted w call calls past session given owners more owners_are more_are r s r_is s_is =
    let n = length (seen t).calls in
    let long : length w.seen.calls ≡ n + 1 = ap length calls ∙ length-append (seen t).calls (call ∷ []) in
    record {
      few = h.few;
      owned = (let a = ap length owners_are ∙ length-append t.owners (session ∷ []) in omega (arith, a, h.owned, long));
      given = λ c known. ⊎_elim
          (λ (e : c ≡ n). let at : get_or owners c 0 ≡ session = (λ i. get_or (owners_are i) ((e ∙ sym h.owned) i) 0) ∙ get_or-append_seam t.owners session [] 0 in omega (arith, at, given))
          (λ (l : c < n). let at : get_or owners c 0 ≡ get_or t.owners c 0 = ap (λ xs. get_or xs c 0) owners_are ∙ get_or-append t.owners (session ∷ []) 0 c (omega (arith, l, h.owned)) in let g = h.given c l in omega (arith, at, g))
          (eq-or-lt_of_le (omega (arith, known, long)));
      counted = (let a = ap length more_are ∙ length-append begun (0 ∷ []) in omega (arith, a, h.counted, long));
      ends = λ c known done. ⊎_elim
          (λ (e : c ≡ n). absurd (let f : false ≡ true = sym (unadmitted_done (seen t).past turn c (omega (arith, e, counted))) ∙ sym (ap (is_done c) past) ∙ done in cc))
          (λ (l : c < n). ap (λ xs. get_or xs c 0) more_are ∙ get_or-append begun (0 ∷ []) 0 c (omega (arith, l, h.counted)) ∙ h.ends c l (sym (ap (is_done c) past) ∙ done) ∙ sym (ap (begun_by_end c) past))
          (eq-or-lt_of_le (omega (arith, known, long)));
      owners_fit = subst (λ k. MAX_CALLS ≤ k) (sym r_is) h.owners_fit;
      begun_fit = subst (λ k. MAX_CALLS ≤ k) (sym s_is) h.begun_fit;
    }
