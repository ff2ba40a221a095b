-- The rows of a core make it again.
use Rattle.std.proofs.Common.{◌≡◌, ℕ, zero, suc, ◌/◌, ◌%◌, ◌<◌, ◌≤◌, ◌==◌, ◌||◌, ℤ, true, false, if◌then◌else◌, List, [], ◌∷◌, ◌++◌, length, map, drop, reverse, get_or, refl, sym, ap, ap₂, ◌∙◌, subst, arith, Some, slice_get}
use Rattle.std.specs.Prelude.{All}
use Rattle.std.proofs.lemmas.Bool.{ne_eqb, both_ways}
use Rattle.std.proofs.lemmas.List.{append-nil, length-map, get_or-map, reverse-reverse}
use Rattle.std.proofs.lemmas.Option.{slice_get-get_or}
use Rattle.tl_tree_locking.specs.declared.action.Action.TheVariants as did
use Rattle.tl_tree_locking.specs.declared.event.Event.{Event}
use Rattle.tl_tree_locking.specs.declared.event.Event.TheVariants.{Admit, Lock, Free, Done}
use Rattle.tl_tree_locking.specs.Actions.{with_found}
use Rattle.tl_tree_locking.specs.History.{caller, part_of, is_done, admits, InTurn}
use Rattle.tl_tree_locking.specs.World.{reply_of}
use Rattle.tl_tree_locking.proofs.Pasts.{All-reverse}
use Rattle.tl_history.specs.declared.history.TheConstants.{MAX_EVENTS}
use Rattle.tl_procedures.specs.declared.request.Request.{Request}
use Rattle.tl_procedures.specs.Names.{Named, no_procedure, number_of}
use Rattle.tl_core.specs.Cores.{CoreValue, call_of, world_of}
use Rattle.tl_core.specs.Reached.{IsReached}
use Rattle.tl_ledger.specs.declared.rows.CallRow.{CallRow}
use Rattle.tl_ledger.specs.declared.rows.ReplyRow.{ReplyRow}
use Rattle.tl_ledger.specs.declared.rows.ProcedureRow.{ProcedureRow}
use Rattle.tl_recover.specs.Redriven.{Fits, GoesOn, AreTurnsTo}
use Rattle.tl_recover.proofs.Retaken.{admits_later, same_meaning}
use Rattle.tl_store.specs.declared.stored.Stored.{Stored}
use Rattle.tl_rows.specs.Rows.{call_form, request_form, HasArguments, procedure_form, named_form, turn_bytes, all_turn_bytes}
use Rattle.tl_store.specs.Recovered.{IsReplyOf, IsOpened, AreOfCore}
use Rattle.tl_store.proofs.RebuiltLemmas.{fits_none}

-- ---- bytes of turns

abbrev pub IsSmall : ℕ → Type 0
IsSmall t = t < 65536

small_cons : (t : ℕ) (turns : List ℕ) → IsSmall t → All IsSmall turns → All IsSmall (t ∷ turns)
small_cons t turns first rest zero d less = first
small_cons t turns first rest (suc k) d less = rest k d (omega arith)

-- the bytes tell the turns
pub same_turns : (ts us : List ℕ) → All IsSmall ts → All IsSmall us → turn_bytes ts ≡ turn_bytes us → ts ≡ us
same_turns [] [] small_t small_u is = refl
same_turns [] (u ∷ us) small_t small_u is = absurd (let l = ap length is in omega arith)
same_turns (t ∷ ts) [] small_t small_u is = absurd (let l = ap length is in omega arith)
same_turns (t ∷ ts) (u ∷ us) small_t small_u is =
    let high : t / 256 % 256 ≡ u / 256 % 256 = ap (λ l. get_or l 0 0) is in
    let low : t % 256 ≡ u % 256 = ap (λ l. get_or l 1 0) is in
    let tails : turn_bytes ts ≡ turn_bytes us = ap (drop 2) is in
    let small = small_t 0 0 (omega arith) in
    let small' = small_u 0 0 (omega arith) in
    let same : t ≡ u = omega arith in
    ap₂ (λ x l. x ∷ l) same (same_turns ts us (λ k d less. small_t (suc k) d (omega arith)) (λ k d less. small_u (suc k) d (omega arith)) tails)

-- each turn is of a call that was admitted
pub callers_small : (past : List Event) → InTurn past → admits past ≤ 65536 → All IsSmall (map caller past)
callers_small [] in_turn few = λ k d less. absurd (omega arith)
callers_small (Admit c ∷ past) in_turn few = let here = in_turn.0 in small_cons c (map caller past) (omega arith) (callers_small past in_turn.1 (omega arith))
callers_small (Lock x c found ∷ past) in_turn few = let here = in_turn.0.0 in small_cons c (map caller past) (omega arith) (callers_small past in_turn.1 few)
callers_small (Free x c left ∷ past) in_turn few = let here = in_turn.0.0 in small_cons c (map caller past) (omega arith) (callers_small past in_turn.1 few)
callers_small (Done c ∷ past) in_turn few = let here = in_turn.0.0 in small_cons c (map caller past) (omega arith) (callers_small past in_turn.1 few)

-- ---- requests

same_row : (rows : List CallRow) (requests : List Request) (n : ℕ) (r : Request) → map call_form rows ≡ map request_form requests → slice_get requests n ≡ Some r
    → (row : CallRow) × (slice_get rows n ≡ Some row) × (call_form row ≡ request_form r)
same_row rows [] n r is at = absurd cc
same_row [] (q ∷ requests) n r is at = absurd (let l = ap length is in omega arith)
same_row (x ∷ rows) (q ∷ requests) zero r is at =
    let here : q ≡ r = cc in
    let heads : call_form x ≡ request_form q = cc in
    (x, refl, heads ∙ ap request_form here)
same_row (x ∷ rows) (q ∷ requests) (suc n) r is at =
    let tails : map call_form rows ≡ map request_form requests = cc in
    same_row rows requests n r tails at

rows_fit : (s : Stored) (v : CoreValue) (requests : List Request) → AreOfCore s v → map call_form s.calls.items ≡ map request_form requests → Fits v requests
rows_fit s v requests rows is =
    let l : length s.calls.items ≡ length requests = sym (length-map s.calls.items call_form) ∙ ap length is ∙ length-map requests request_form in
    record {
      few = let many = rows.many in omega arith;
      each = λ c r known at.
          let found = same_row s.calls.items requests c r is at in
          let of = rows.calls c found.0 found.1 in
          let args : Some (call_of v c).args ≡ Some r.args.items = sym of.args ∙ ap (λ f. f.1) found.2 in
          record {
            procedure = ap (number_of v.procedures) (sym (ap (λ f. f.0) found.2)) ∙ of.procedure;
            code = of.code;
            args = cc;
          };
    }

-- the arguments of each call were read
pub have_arguments : (s : Stored) (v : CoreValue) → AreOfCore s v → All HasArguments s.calls.items
have_arguments s v rows k d less =
    let at : slice_get s.calls.items k ≡ Some (get_or s.calls.items k d) = slice_get-get_or s.calls.items k d less in
    let of = rows.calls k (get_or s.calls.items k d) at in
    record { args = (call_of v k).args; read_as = of.args }

-- ---- procedures

-- the row at a position is of the procedure there
pub one_form : (rows : List ProcedureRow) (those : List Named) (i : ℕ) (row : ProcedureRow) → map procedure_form rows ≡ map named_form those → i < length rows → row ≡ get_or rows i row
    → (procedure_form row ≡ named_form (get_or those i no_procedure)) × (i < length those)
one_form rows those i row is within at =
    let long : length rows ≡ length those = sym (length-map rows procedure_form) ∙ ap length is ∙ length-map those named_form in
    let inside : i < length those = omega arith in (
      ap procedure_form at ∙ sym (get_or-map procedure_form rows i row ([], []) within) ∙ ap (λ l. get_or l i ([], [])) is ∙ get_or-map named_form those i no_procedure ([], []) inside,
      inside,
    )

-- ---- the turns lead from the opened core to that of the rows

pub rows_lead : (s : Stored) (v core : CoreValue) (requests : List Request) (turns : List ℕ) → IsReached v → AreOfCore s v → IsOpened s core → core.limit ≡ MAX_EVENTS
    → core.parents ≡ v.parents → core.procedures ≡ v.procedures → map call_form s.calls.items ≡ map request_form requests
    → all_turn_bytes s.turns.items ≡ turn_bytes turns → All IsSmall turns → AreTurnsTo v core requests turns
rows_lead s v core requests turns reached rows opened limit parents procedures asked took small =
    let few = reached.few in
    let counted = reached.counted in
    let callers = All-reverse IsSmall (map caller v.past) (callers_small v.past reached.sound.legal.in_turn (omega arith)) in
    let same : turns ≡ reverse (map caller v.past) = same_turns turns (reverse (map caller v.past)) small callers (sym took ∙ rows.turns) in
    record {
      reached = reached;
      parents = parents;
      opening = opened.opening ∙ rows.records;
      procedures = procedures;
      limit = let most = reached.few_events in omega arith;
      asked = rows_fit s v requests rows asked;
      asked_now = fits_none core requests opened.calls;
      took = sym (reverse-reverse (map caller v.past)) ∙ ap reverse (sym same) ∙ sym (append-nil (reverse turns)) ∙ ap (λ p. reverse turns ++ map caller p) (sym opened.past);
    }

-- ---- replies stay

other_call : (c d : ℕ) (past : List Event) → is_done d past ≡ false → is_done c past ≡ true → (d == c) ≡ false
other_call c d past open' over = ne_eqb d c (λ same. both_ways (is_done c past) (subst (λ z. is_done z past ≡ false) same open') over)

-- once a call is done nothing is added to its part of the history
pub done_stays : (c : ℕ) (more past : List Event) → InTurn (more ++ past) → is_done c past ≡ true → (part_of c (more ++ past) ≡ part_of c past) × (is_done c (more ++ past) ≡ true)
done_stays c [] past in_turn over = (refl, over)
done_stays c (Admit d ∷ more) past in_turn over = done_stays c more past in_turn.1 over
done_stays c (Lock x d found ∷ more) past in_turn over =
    let rest = done_stays c more past in_turn.1 over in
    let other = other_call c d (more ++ past) in_turn.0.1 rest.1 in
    (ap (λ b. if b then did.Lock x found ∷ part_of c (more ++ past) else part_of c (more ++ past)) other ∙ rest.0, rest.1)
done_stays c (Free x d left ∷ more) past in_turn over =
    let rest = done_stays c more past in_turn.1 over in
    let other = other_call c d (more ++ past) in_turn.0.1 rest.1 in
    (ap (λ b. if b then did.Free x left ∷ part_of c (more ++ past) else part_of c (more ++ past)) other ∙ rest.0, rest.1)
done_stays c (Done d ∷ more) past in_turn over =
    let rest = done_stays c more past in_turn.1 over in
    let other = other_call c d (more ++ past) in_turn.0.1 rest.1 in
    (ap (λ b. if b then did.End ∷ part_of c (more ++ past) else part_of c (more ++ past)) other ∙ rest.0, ap (λ b. b || is_done c (more ++ past)) other ∙ rest.1)

pub reply_stays : (v w : CoreValue) (requests : List Request) (more : List Event) (epoch : ℤ) (row : ReplyRow) → Fits v requests → Fits w requests → w.parents ≡ v.parents → w.opening ≡ v.opening
    → w.procedures ≡ v.procedures → w.past ≡ more ++ v.past → InTurn w.past → length v.calls ≤ length w.calls → IsReplyOf v epoch row → IsReplyOf w epoch row
reply_stays v w requests more epoch row asked_v asked_w parents opening procedures grown in_turn few is =
    let known = is.known in
    let meanings = same_meaning v w requests parents procedures asked_v asked_w is.call is.known (omega arith) in
    let kept = done_stays is.call more v.past (subst InTurn grown in_turn) is.done in
    let same : reply_of (world_of w) is.call ≡ reply_of (world_of v) is.call =
    ap (λ m. (m (with_found (part_of is.call w.past) w.opening)).reply) (sym meanings)
    ∙ ap (λ p. ((world_of v).meanings is.call (with_found (part_of is.call p) w.opening)).reply) grown
    ∙ ap₂ (λ p o. ((world_of v).meanings is.call (with_found p o)).reply) kept.0 opening in
    record {
      epoch_is = is.epoch_is;
      call = is.call;
      call_is = is.call_is;
      known = omega arith;
      done = ap (is_done is.call) grown ∙ kept.1;
      reply = is.reply ∙ ap Some (sym same);
    }

pub replies_stay : (v u w : CoreValue) (requests : List Request) (turns : List ℕ) (more : List Event) (epoch : ℤ) (rows : List ReplyRow) → AreTurnsTo v u requests turns → GoesOn u w → Fits w requests
    → w.past ≡ more ++ v.past → IsReached w → All (IsReplyOf v epoch) rows → All (IsReplyOf w epoch) rows
replies_stay v u w requests turns more epoch rows to on asked grown reached all k d less =
    let counted = to.reached.counted in
    let counted' = reached.counted in
    let later = admits_later more v.past in
    let same = ap admits grown in
    reply_stays v w requests more epoch (get_or rows k d) to.asked asked (on.parents ∙ to.parents) (on.opening ∙ to.opening) (on.procedures ∙ to.procedures) grown reached.sound.legal.in_turn (omega arith) (all k d less)
