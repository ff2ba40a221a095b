-- A core that was replayed has the calls of the rows.
use Rattle.std.proofs.Common.{◌≡◌, ℕ, zero, suc, ◌<◌, ◌≤◌, pos, List, [], ◌∷◌, ◌++◌, length, map, reverse, refl, sym, ap, ◌∙◌, subst, arith, Some, slice_get, string_bytes}
use Rattle.std.proofs.lemmas.List.{length-map, append-nil, map-append}
use Rattle.tl_tree_locking.specs.declared.event.Event.{Event}
use Rattle.tl_tree_locking.specs.History.{caller, AllDone}
use Rattle.tl_procedures.specs.declared.request.Request.{Request}
use Rattle.tl_procedures.specs.Names.{number_of}
use Rattle.tl_core.specs.Cores.{CoreValue}
use Rattle.tl_ledger.specs.declared.rows.CallRow.{CallRow}
use Rattle.std.specs.Prelude.{All}
use Rattle.tl_recover.specs.Redriven.{IsAsked, Fits, GoesOn}
use Rattle.tl_store.specs.declared.stored.Stored.{Stored}
use Rattle.tl_rows.specs.Rows.{AreLatest, call_form, request_form, AreNumbered, turn_bytes, all_turn_bytes}
use Rattle.tl_store.specs.Recovered.{IsCallOf, IsReplyOf, IsOpened, IsRebuilt}

-- the request at the position of a row is the row's
same_form : (rows : List CallRow) (requests : List Request) (n : ℕ) (row : CallRow) → map call_form rows ≡ map request_form requests → slice_get rows n ≡ Some row
    → (r : Request) × (slice_get requests n ≡ Some r) × (call_form row ≡ request_form r)
same_form [] requests n row is at = absurd cc
same_form (x ∷ rows) [] n row is at = absurd (let l = ap length is in omega arith)
same_form (x ∷ rows) (r ∷ requests) zero row is at =
    let here : x ≡ row = cc in
    let heads : call_form x ≡ request_form r = cc in
    (r, refl, ap call_form (sym here) ∙ heads)
same_form (x ∷ rows) (r ∷ requests) (suc n) row is at =
    let tails : map call_form rows ≡ map request_form requests = cc in
    same_form rows requests n row tails at

pub few_calls : (v : CoreValue) (rows : List CallRow) (requests : List Request) → map call_form rows ≡ map request_form requests → Fits v requests → length v.calls ≤ length rows
few_calls v rows requests is fits =
    let l : length rows ≡ length requests = sym (length-map rows call_form) ∙ ap length is ∙ length-map requests request_form in
    let f = fits.few in
    omega arith

pub calls_asked : (v : CoreValue) (rows : List CallRow) (requests : List Request) → map call_form rows ≡ map request_form requests → Fits v requests
    → (n : ℕ) (row : CallRow) → n < length v.calls → slice_get rows n ≡ Some row → IsCallOf v n row
calls_asked v rows requests is fits n row known at =
    let found = same_form rows requests n row is at in
    let asked : IsAsked v n found.0 = fits.each n found.0 known found.1 in
    let name : string_bytes row.procedure ≡ string_bytes found.0.name = ap (λ f. f.0) found.2 in record {
      procedure = ap (number_of v.procedures) name ∙ asked.procedure;
      code = asked.code;
      args = ap (λ f. f.1) found.2 ∙ ap Some (sym asked.args);
    }

-- later events come after the turns that were replayed
pub later_turns : (before past all more : List Event) (turns : List ℕ) → map caller past ≡ reverse turns ++ map caller before → all ≡ more ++ past
    → map caller all ≡ map caller more ++ (reverse turns ++ map caller before)
later_turns before past all more turns taken ended = ap (map caller) ended ∙ map-append caller more past ∙ ap (λ l. map caller more ++ l) taken

pub goes_on_again : (u v w : CoreValue) → GoesOn u v → GoesOn v w → GoesOn u w
goes_on_again u v w p q = record { parents = q.parents ∙ p.parents; opening = q.opening ∙ p.opening; procedures = q.procedures ∙ p.procedures; limit = q.limit ∙ p.limit }

pub fits_none : (v : CoreValue) (requests : List Request) → v.calls ≡ [] → Fits v requests
fits_none v requests none = let l = ap length none in record { few = omega arith; each = λ c r known at. absurd (omega arith) }

pub rebuilt : (s : Stored) (v w : CoreValue) (requests : List Request) (turns : List ℕ) → IsOpened s v
    → All (λ r. r.epoch ≡ pos s.marks.seals) s.calls.items → All (λ r. r.epoch ≡ pos s.marks.seals) s.turns.items → AreNumbered s.calls.items
    → map call_form s.calls.items ≡ map request_form requests → all_turn_bytes s.turns.items ≡ turn_bytes turns
    → ((later : List ℕ) × (map caller w.past ≡ later ++ (reverse turns ++ map caller v.past))) → (Fits v requests → Fits w requests) → GoesOn v w → AllDone w.past
    → All (IsReplyOf w (pos s.marks.seals)) s.replies.items → IsRebuilt s w
rebuilt s v w requests turns opened calls_epoch turns_epoch numbered asked took later fit on done replies =
    let fits : Fits w requests = fit (fits_none v requests opened.calls) in
    let first : reverse turns ++ map caller v.past ≡ reverse turns = ap (λ p. reverse turns ++ map caller p) opened.past ∙ append-nil (reverse turns) in record {
      parents = ap (map pos) on.parents ∙ opened.parents;
      opening = on.opening ∙ opened.opening;
      procedures = subst (AreLatest s.procedures.items) (sym on.procedures) opened.procedures;
      epoch = (calls_epoch, turns_epoch);
      numbered = numbered;
      few = few_calls w s.calls.items requests asked fits;
      calls = calls_asked w s.calls.items requests asked fits;
      turns = turns;
      turns_are = took;
      later = later.0;
      past = later.1 ∙ ap (λ l. later.0 ++ l) first;
      replies = replies;
      at_rest = done;
    }
