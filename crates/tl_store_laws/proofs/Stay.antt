-- What is so of a core's calls and replies is so later too.
use Rattle.std.proofs.Common.{◌≡◌, ℕ, ◌+◌, ◌<◌, ◌≤◌, ◌==◌, ◌||◌, ℤ, true, false, if◌then◌else◌, List, [], ◌∷◌, ◌++◌, length, map, get_or, refl, sym, ap, ap₂, ◌∙◌, subst, arith, Option, Some, None, slice_get, string_bytes}
use Rattle.std.specs.Prelude.{All}
use Rattle.std.proofs.lemmas.Bool.{ne_eqb, both_ways}
use Rattle.std.proofs.lemmas.List.{append-nil, append_assoc, length-append, length-map, get_or-map, map-append, get_or_append_left}
use Rattle.std.proofs.lemmas.List.Quantifiers.{position-Some}
use Rattle.std.specs.Str.{bytes_eq}
use Rattle.tl_tree_locking.specs.declared.action.Action.TheVariants as did
use Rattle.tl_tree_locking.specs.declared.event.Event.{Event}
use Rattle.tl_tree_locking.specs.declared.event.Event.TheVariants.{Admit, Lock, Free, Done}
use Rattle.tl_tree_locking.specs.Actions.{with_found}
use Rattle.tl_tree_locking.specs.History.{part_of, is_done, InTurn}
use Rattle.tl_tree_locking.specs.World.{reply_of}
use Rattle.tl_machine.specs.Outcomes.{meaning}
use Rattle.tl_procedures.specs.Names.{Named, no_procedure, number_of}
use Rattle.tl_core.specs.Cores.{CoreValue, CallValue, no_call, call_of, world_of}
use Rattle.tl_core.specs.Entries.{procedure_at}
use Rattle.tl_core.specs.Reached.{IsReached}
use Rattle.tl_ledger.specs.declared.rows.CallRow.{CallRow}
use Rattle.tl_ledger.specs.declared.rows.ReplyRow.{ReplyRow}
use Rattle.tl_store.specs.Recovered.{IsCallOf, IsReplyOf}
use Rattle.tl_recover.specs.Later.{Ask, ask_of, Later}
use Rattle.tl_store.proofs.AgainLemmas.{done_stays}
use Rattle.tl_store_laws.proofs.Put.{position_stays}

-- there are as many calls, or more
pub calls_longer : (v w : CoreValue) → Later v w → length v.calls ≤ length w.calls
calls_longer v w l =
    let all : length w.calls ≡ length (map ask_of v.calls ++ l.calls.0) = sym (length-map w.calls ask_of) ∙ ap length l.calls.1 in
    let long = length-append (map ask_of v.calls) l.calls.0 in
    let old = length-map v.calls ask_of in
    omega arith

-- a call keeps what it was admitted with
pub ask_stays : (v w : CoreValue) (c : ℕ) → Later v w → c < length v.calls → ask_of (call_of w c) ≡ ask_of (call_of v c)
ask_stays v w c l known =
    let more = calls_longer v w l in
    let old = length-map v.calls ask_of in
    sym (get_or-map ask_of w.calls c no_call (ask_of no_call) (omega arith))
    ∙ ap (λ a. get_or a c (ask_of no_call)) l.calls.1
    ∙ get_or_append_left (map ask_of v.calls) l.calls.0 (ask_of no_call) c (omega arith)
    ∙ get_or-map ask_of v.calls c no_call (ask_of no_call) known

-- a procedure keeps its number and its code
pub number_stays : (v w : CoreValue) (name : List ℕ) (p : ℕ) → Later v w → number_of v.procedures name ≡ Some p → number_of w.procedures name ≡ Some p
number_stays v w name p l is =
    ap (λ ps. number_of ps name) l.procedures.1 ∙ position_stays (λ q. bytes_eq name q.name) v.procedures l.procedures.0 p no_procedure is

pub procedure_stays : (v w : CoreValue) (name : List ℕ) (p : ℕ) → Later v w → number_of v.procedures name ≡ Some p → procedure_at w p ≡ procedure_at v p
procedure_stays v w name p l is =
    let inside = (position-Some (λ q. bytes_eq name q.name) v.procedures p no_procedure is).0 in
    ap (λ ps. get_or ps p no_procedure) l.procedures.1 ∙ get_or_append_left v.procedures l.procedures.0 no_procedure p inside

pub call_stays : (v w : CoreValue) (c : ℕ) (row : CallRow) → Later v w → c < length v.calls → IsCallOf v c row → IsCallOf w c row
call_stays v w c row l known is =
    let same = ask_stays v w c l known in
    let number = number_stays v w (string_bytes row.procedure) (call_of v c).procedure l is.procedure in
    let there = procedure_stays v w (string_bytes row.procedure) (call_of v c).procedure l is.procedure in record {
      procedure = number ∙ ap (λ a. Some a.procedure) (sym same);
      code = ap (λ a. a.code) same ∙ is.code ∙ sym (ap (λ q. q.code) there) ∙ ap (λ a. (procedure_at w a.procedure).code) (sym same);
      args = is.args ∙ ap (λ a. Some a.args) (sym same);
    }

-- ---- replies

-- a call that is done stays done, with its reply
pub reply_kept : (v w : CoreValue) (c : ℕ) → Later v w → IsReached w → c < length v.calls → is_done c v.past ≡ true → (is_done c w.past ≡ true) × (reply_of (world_of w) c ≡ reply_of (world_of v) c)
reply_kept v w c l reached known over =
    let grown = l.past.1 in
    let same = ask_stays v w c l known in
    let kept = done_stays c l.past.0 v.past (subst InTurn grown reached.sound.legal.in_turn) over in
    let meanings : (world_of w).meanings c ≡ (world_of v).meanings c = ap₂ (λ a ps. meaning a.code.instrs ps a.args) same l.parents in (
      ap (is_done c) grown ∙ kept.1,
      ap (λ m. (m (with_found (part_of c w.past) w.opening)).reply) meanings
          ∙ ap (λ p. ((world_of v).meanings c (with_found (part_of c p) w.opening)).reply) grown
          ∙ ap₂ (λ p o. ((world_of v).meanings c (with_found p o)).reply) kept.0 l.opening,
    )

pub reply_stays : (v w : CoreValue) (epoch : ℤ) (row : ReplyRow) → Later v w → IsReached w → IsReplyOf v epoch row → IsReplyOf w epoch row
reply_stays v w epoch row l reached is =
    let more = calls_longer v w l in
    let was = is.known in
    let kept = reply_kept v w is.call l reached is.known is.done in record {
      epoch_is = is.epoch_is;
      call = is.call;
      call_is = is.call_is;
      known = omega arith;
      done = kept.0;
      reply = is.reply ∙ ap Some (sym kept.1);
    }
