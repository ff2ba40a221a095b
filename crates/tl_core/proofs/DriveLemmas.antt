-- Moves of a core, one after another.
use Rattle.std.proofs.Common.{◌≡◌, ℕ, zero, suc, ◌+◌, ◌<◌, ◌≤◌, Bool, true, false, List, [], ◌∷◌, ◌++◌, length, take, refl, sym, ap, ◌∙◌, arith, Option, Some, None, Ok, Err, get_or, set, if◌then◌else◌, nat_lt, ℤ, string_bytes}
use Rattle.std.specs.Prelude.{Result}
use Rattle.std.specs.Option.{option_map_or}
use Rattle.std.proofs.lemmas.Bool.{ne_eqb, eq-eqb, ltb-true}
use Rattle.std.proofs.lemmas.List.{length-set, length-append, get_or-set_same, get_or-set_other}
use Rattle.tl_budget.specs.Loops.{budget}
use Rattle.tl_tree_locking.specs.declared.action.Action.{Action}
use Rattle.tl_tree_locking.specs.History.{admits, is_done}
use Rattle.tl_tree_locking.specs.World.{next_of}
use Rattle.tl_tree_locking.proofs.WorldSteps.{admits-past_after}
use Rattle.tl_core.specs.declared.fault.CoreFault.{CoreFault}
use Rattle.tl_core.specs.declared.stepped.Stepped.{Stepped}
use Rattle.tl_core.specs.declared.stepped.Stepped.TheVariants.{Moved, Blocked, Over}
use Rattle.tl_core.specs.declared.moves.Move.{Move}
use Rattle.tl_core.specs.declared.moves.Move.TheVariants as a_move
use Rattle.tl_core.specs.declared.moves.Entry.{Entry}
use Rattle.tl_core.specs.declared.moves.Entry.TheVariants as entry
use Rattle.tl_procedures.specs.Names.{number_of}
use Rattle.tl_core.specs.Cores.{CallValue, CoreValue, no_call, call_of, code_of, world_of, total, all_budgets}
use Rattle.tl_core.specs.Entries.{step_answer, stepped_to, after_step, one_more, procedure_at, with_call_of, entry_of, IsEntry, after_entry, Traced, after_moves, moved}
use Rattle.tl_core.proofs.Sums.{total-same, total-other, total-less}
use Rattle.tl_core.proofs.AdmitLemmas.{get_or-last}

-- ---- one entry more

pub traced_more : (v : CoreValue) (moves : List Move) (entries : List Entry) (m : Move) (e : Entry) → Traced v moves entries → IsEntry (after_moves v moves entries) m e
    → Traced v (moves ++ m ∷ []) (entries ++ e ∷ [])
traced_more v [] [] m e t is = (is, tt)
traced_more v [] (f ∷ entries) m e t is = absurd t
traced_more v (n ∷ moves) [] m e t is = absurd t
traced_more v (n ∷ moves) (f ∷ entries) m e t is = (t.0, traced_more (after_entry v n f) moves entries m e t.1 is)

pub after_more : (v : CoreValue) (moves : List Move) (entries : List Entry) (m : Move) (e : Entry) → Traced v moves entries
    → after_moves v (moves ++ m ∷ []) (entries ++ e ∷ []) ≡ after_entry (after_moves v moves entries) m e
after_more v [] [] m e t = refl
after_more v [] (f ∷ entries) m e t = absurd t
after_more v (n ∷ moves) [] m e t = absurd t
after_more v (n ∷ moves) (f ∷ entries) m e t = after_more (after_entry v n f) moves entries m e t.1

pub moved_more : (entries : List Entry) (e : Entry) → moved (entries ++ e ∷ []) ≡ moved entries + moved (e ∷ [])
moved_more [] e = let same : moved (e ∷ []) ≡ 0 + moved (e ∷ []) = omega arith in same
moved_more (entry.Admitted n ∷ entries) e = moved_more entries e
moved_more (entry.Refused f ∷ entries) e = moved_more entries e
moved_more (entry.Stepped c (Moved a) ∷ entries) e = let ih = moved_more entries e in omega arith
moved_more (entry.Stepped c (Blocked x d) ∷ entries) e = moved_more entries e
moved_more (entry.Stepped c Over ∷ entries) e = moved_more entries e

pub take_more : {X : Type 0} → (xs : List X) (i : ℕ) (x : X) → i < length xs → x ≡ get_or xs i x → take (i + 1) xs ≡ take i xs ++ x ∷ []
take_more xs i x lt is = let e : i + 1 ≡ suc i = omega arith in ap (λ n. take n xs) e ∙ go xs i lt is
  where
    go : (xs : List _) (i : ℕ) → i < length xs → x ≡ get_or xs i x → take (suc i) xs ≡ take i xs ++ x ∷ []
    go [] i lt is = absurd (omega arith)
    go (y ∷ xs) zero lt is = ap (λ z. z ∷ []) (sym is)
    go (y ∷ xs) (suc i) lt is = ap (λ l. y ∷ l) (go xs i (omega arith) is)

-- ---- how much was done

-- the number of instructions that the calls have executed
abbrev pub spent : CoreValue → ℕ
spent v = total (λ c. (call_of v c).count) (length v.calls)

-- there are as many calls as admissions
abbrev pub IsCounted : CoreValue → Type 0
IsCounted v = length v.calls ≡ admits v.past

spent_step : (v : CoreValue) (c : ℕ) (a : Action) → c < length v.calls → spent (after_step v c (Ok (Moved a))) ≡ spent v + 1
spent_step v c a lt =
    let new = one_more (call_of v c) in
    let long = length-set v.calls c new in
    let at : (get_or (set v.calls c new) c no_call).count ≡ (call_of v c).count + 1 = ap (λ z. z.count) (get_or-set_same v.calls c new no_call lt) in
    let sums = total-other (λ d. (call_of v d).count) (λ d. (get_or (set v.calls c new) d no_call).count) (length v.calls) c lt
    (λ d less other. sym (ap (λ z. z.count) (get_or-set_other v.calls c d new no_call (λ e. other (sym e))))) in
    let all : total (λ d. (get_or (set v.calls c new) d no_call).count) (length v.calls) ≡ spent v + 1 = omega arith in
    ap (total (λ d. (get_or (set v.calls c new) d no_call).count)) long ∙ all

abbrev is_some_move : Result Stepped CoreFault → Bool
is_some_move (Ok (Moved a)) = true
is_some_move (Ok (Blocked x d)) = false
is_some_move (Ok Over) = false
is_some_move (Err e) = false

spent_answer : (v : CoreValue) (c : ℕ) (r : Result Stepped CoreFault) → (is_some_move r ≡ true → c < length v.calls) → spent (after_step v c r) ≡ spent v + moved (entry_of c r ∷ [])
spent_answer v c (Ok (Moved a)) known = spent_step v c a (known refl)
spent_answer v c (Ok (Blocked x d)) known = omega arith
spent_answer v c (Ok Over) known = omega arith
spent_answer v c (Err e) known = omega arith

counted_answer : (v : CoreValue) (c : ℕ) (r : Result Stepped CoreFault) → IsCounted v → IsCounted (after_step v c r)
counted_answer v c (Ok (Moved a)) counted = length-set v.calls c (one_more (call_of v c)) ∙ counted ∙ sym (admits-past_after c a v.past)
counted_answer v c (Ok (Blocked x d)) counted = counted
counted_answer v c (Ok Over) counted = counted
counted_answer v c (Err e) counted = counted

-- only an admitted call moves
moves_admitted : (v : CoreValue) (c : ℕ) → IsCounted v → is_some_move (step_answer (world_of v) c) ≡ true → c < length v.calls
moves_admitted v c counted h = go (nat_lt c (admits v.past)) refl h
  where
    go : (b : Bool) → nat_lt c (admits v.past) ≡ b
        → is_some_move (if b then (if is_done c v.past then Ok Over else Ok (stepped_to (world_of v) (next_of (world_of v) c))) else Err CoreFault.NoCall) ≡ true → c < length v.calls
    go true lt h = let less = ltb-true c (admits v.past) lt in omega arith
    go false lt h = absurd cc

spent_call : (v : CoreValue) (p : ℕ) (args : List ℤ) → spent (with_call_of v p args) ≡ spent v
spent_call v p args =
    let new : CallValue = record { procedure = p; code = (procedure_at v p).code; args = args; count = 0 } in
    let long : length (v.calls ++ new ∷ []) ≡ suc (length v.calls) = let e = length-append v.calls (new ∷ []) in omega arith in
    let f : ℕ → ℕ = λ d. (get_or (v.calls ++ new ∷ []) d no_call).count in
    let same = total-same f (λ d. (call_of v d).count) (length v.calls)
    (λ d lt. let q = ne_eqb (length v.calls) d (λ e. omega arith) in ap (λ z. z.count) (get_or-last v.calls new d no_call) ∙ ap (λ b. (if b then new else call_of v d).count) q) in
    let q = eq-eqb (length v.calls) (length v.calls) refl in
    let last : f (length v.calls) ≡ 0 = ap (λ z. z.count) (get_or-last v.calls new (length v.calls) no_call) ∙ ap (λ b. (if b then new else call_of v (length v.calls)).count) q in
    let all : total f (length v.calls) + f (length v.calls) ≡ spent v = omega arith in
    ap (total f) long ∙ all

spent_admitted : (v : CoreValue) (args : List ℤ) (o : Option ℕ) → spent (option_map_or (λ p. with_call_of v p args) o v) ≡ spent v
spent_admitted v args (Some p) = spent_call v p args
spent_admitted v args None = refl

counted_admitted : (v : CoreValue) (args : List ℤ) (o : Option ℕ) → IsCounted v → IsCounted (option_map_or (λ p. with_call_of v p args) o v)
counted_admitted v args (Some p) counted =
    let new : CallValue = record { procedure = p; code = (procedure_at v p).code; args = args; count = 0 } in
    let e : length (v.calls ++ new ∷ []) ≡ admits v.past + 1 = let l = length-append v.calls (new ∷ []) in omega arith in
    e
counted_admitted v args None counted = counted

pub spent_on : (v : CoreValue) (m : Move) (e : Entry) → IsCounted v → IsEntry v m e → spent (after_entry v m e) ≡ spent v + moved (e ∷ [])
spent_on v (a_move.Admit name args) (entry.Admitted n) counted is = spent_admitted v args.items (number_of v.procedures (string_bytes name)) ∙ (let e : spent v ≡ spent v + 0 = omega arith in e)
spent_on v (a_move.Admit name args) (entry.Refused f) counted is = omega arith
spent_on v (a_move.Admit name args) (entry.Stepped c s) counted is = absurd is
spent_on v (a_move.Step c) e counted is =
    spent_answer v c (step_answer (world_of v) c) (moves_admitted v c counted) ∙ ap (λ f. spent v + moved (f ∷ [])) (sym is)

pub counted_on : (v : CoreValue) (m : Move) (e : Entry) → IsCounted v → IsEntry v m e → IsCounted (after_entry v m e)
counted_on v (a_move.Admit name args) (entry.Admitted n) counted is = counted_admitted v args.items (number_of v.procedures (string_bytes name)) counted
counted_on v (a_move.Admit name args) (entry.Refused f) counted is = counted
counted_on v (a_move.Admit name args) (entry.Stepped c s) counted is = absurd is
counted_on v (a_move.Step c) e counted is = counted_answer v c (step_answer (world_of v) c) counted

pub within_budgets : (v : CoreValue) (n : ℕ) → IsCounted v → ((c : ℕ) → c < admits v.past → (call_of v c).count ≤ budget (code_of v c)) → n ≤ spent v → n ≤ all_budgets v
within_budgets v n counted within le =
    let all = total-less (λ c. (call_of v c).count) (λ c. budget (code_of v c)) (length v.calls) (λ c lt. within c (omega arith)) in
    omega arith
