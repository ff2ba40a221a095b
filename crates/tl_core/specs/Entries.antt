-- The answers of a core, and its state after them.
use Rattle.std.specs.Prelude.{◌≡◌, ◌≢◌, ℕ, ◌+◌, List, [], ◌∷◌, ◌++◌, length, get_or, Option, Some, None, if◌then◌else◌, ◌<◌, ◌↔◌, nat_lt, nat_le, nat_eq, slice_set, Result, Ok, Err, ℤ, string_bytes, ◌==◌}
use Rattle.std.specs.Option.{option_map_or}
use Rattle.tl_history.specs.declared.history.TheConstants.{MAX_CALLS}
use Rattle.tl_core.specs.declared.interleaving.TheConstants.{MAX_OPEN}
use Rattle.tl_tree_locking.specs.declared.action.Action.{Action}
use Rattle.tl_tree_locking.specs.declared.action.Action.TheVariants.{Lock}
use Rattle.tl_tree_locking.specs.declared.event.Event.TheVariants.{Admit as Admission}
use Rattle.tl_tree_locking.specs.History.{is_done, admits}
use Rattle.tl_tree_locking.specs.Holders.{holder_of}
use Rattle.tl_tree_locking.specs.World.{World, IsStuck, next_of, as_found, past_after}
use Rattle.tl_core.specs.declared.fault.CoreFault.{CoreFault}
use Rattle.tl_core.specs.declared.fault.CoreFault.TheVariants as fault
use Rattle.tl_core.specs.declared.stepped.Stepped.{Stepped}
use Rattle.tl_core.specs.declared.stepped.Stepped.TheVariants.{Moved, Blocked, Over}
use Rattle.tl_core.specs.declared.moves.Move.{Move}
use Rattle.tl_core.specs.declared.moves.Move.TheVariants as a_move
use Rattle.tl_core.specs.declared.moves.Entry.{Entry}
use Rattle.tl_core.specs.declared.moves.Entry.TheVariants as entry
use Rattle.tl_procedures.specs.Names.{Named, no_procedure, number_of}
use Rattle.tl_core.specs.Cores.{CallValue, CoreState, CoreValue, kept_turn, call_of, world_of, done_by, open_calls, places, room}

-- ---- steps

-- blocked if the action locks a node that is held; otherwise the action, where a lock finds the node's current record
abbrev pub stepped_by : World → Action → Option ℕ → Stepped
stepped_by w (Lock x found) (Some holder) = Blocked x holder
stepped_by w a holder = Moved (as_found w a)

abbrev pub node_of : Action → ℕ
node_of (Lock x found) = x
node_of a = 0

-- the answer for a call with this next action; a call without one is over
abbrev pub stepped_to : World → Option Action → Stepped
stepped_to w (Some a) = stepped_by w a (holder_of w.past (node_of a))
stepped_to w None = Over

-- The answer to a step of call c: an error if c wasn't admitted, and `Over` if it is done. If its next action locks a
-- node that is held, it is blocked, with the node and its holder. Otherwise it does that action, and a lock finds the
-- node's current record.
abbrev pub step_answer : World → ℕ → Result Stepped CoreFault
step_answer w c =
    if nat_lt c (admits w.past) then (if is_done c w.past then Ok Over else Ok (stepped_to w (next_of w c)))
    else Err fault.NoCall

abbrev pub one_more : CallValue → CallValue
one_more call = record call { count = call.count + 1 }

-- the core after this answer
abbrev pub after_step : CoreValue → ℕ → Result Stepped CoreFault → CoreValue
after_step v c (Ok (Moved a)) =
    record v { calls = slice_set v.calls c (one_more (call_of v c)); past = past_after c a v.past }
after_step v c (Ok (Blocked x d)) = v
after_step v c (Ok Over) = v
after_step v c (Err e) = v

-- the answer says that the call is blocked
abbrev pub IsBlocked : Result Stepped CoreFault → Type 0
IsBlocked (Ok (Blocked x d)) = Unit {0}
IsBlocked answer = ⊥

abbrev pub entry_of : ℕ → Result Stepped CoreFault → Entry
entry_of c (Ok stepped) = entry.Stepped c stepped
entry_of c (Err refused) = entry.Refused refused

-- the actions of call c in these entries, the earliest first
abbrev pub part_of_run : ℕ → List Entry → List Action
part_of_run c [] = []
part_of_run c (entry.Stepped d (Moved a) ∷ entries) = if d == c then a ∷ part_of_run c entries else part_of_run c entries
part_of_run c (_ ∷ entries) = part_of_run c entries

-- A step of call c was requested and had this answer. The step's action is appended to what c has done. The answer is
-- `Blocked` exactly if c is stuck. The turns of the other calls don't change.
pub record StepsTo (before : CoreState) (c : ℕ) (answer : Result Stepped CoreFault) (after : CoreState) : Type 0 where
  pub answered : answer ≡ step_answer (world_of before.seen) c
  pub after_it : after.seen ≡ after_step before.seen c answer
  pub done : (d : ℕ) → done_by after.seen d ≡ done_by before.seen d ++ part_of_run d (entry_of c answer ∷ [])
  pub blocked : IsBlocked answer ↔ IsStuck (world_of before.seen) c
  pub turns : (d : ℕ) → d ≢ c → kept_turn after d ≡ kept_turn before d

-- ---- admissions

abbrev pub procedure_at : CoreValue → ℕ → Named
procedure_at v p = get_or v.procedures p no_procedure

-- the first reason that applies: a wrong number of arguments, MAX_CALLS calls, MAX_OPEN open calls, or too few places in the history
abbrev pub refusal_of : CoreValue → Named → List ℤ → Option CoreFault
refusal_of v p args =
    if nat_eq (length args) p.code.arity then (if nat_lt (length v.calls) MAX_CALLS then (if nat_lt (open_calls v) MAX_OPEN then (if nat_le (places p.code.instrs (length v.parents)) (room v) then None else Some fault.HistoryFull)
    else Some fault.TooManyOpen)
    else Some fault.TooManyCalls)
    else Some fault.WrongArgs

-- why a call isn't admitted; None if it is
abbrev pub admission_refusal : CoreValue → List ℕ → List ℤ → Option CoreFault
admission_refusal v name args =
    option_map_or (λ p. refusal_of v (procedure_at v p) args) (number_of v.procedures name) (Some fault.NoProcedure)

-- the core with one more call, of procedure p
abbrev pub with_call_of : CoreValue → ℕ → List ℤ → CoreValue
with_call_of v p args =
    record v { calls = v.calls ++ record { procedure = p; code = (procedure_at v p).code; args = args; count = 0 } ∷ []; past = Admission (length v.calls) ∷ v.past }

abbrev pub after_admission : CoreValue → List ℕ → List ℤ → CoreValue
after_admission v name args = option_map_or (λ p. with_call_of v p args) (number_of v.procedures name) v

-- Call n was admitted, with these arguments and the procedure of this name. n is the next number, and there was no reason
-- to refuse it. The turns of the earlier calls don't change.
pub record Admits (before : CoreState) (name : List ℕ) (args : List ℤ) (n : ℕ) (after : CoreState) : Type 0 where
  pub number : n ≡ length before.seen.calls
  pub free : admission_refusal before.seen name args ≡ None
  pub after_it : after.seen ≡ after_admission before.seen name args
  pub turns : (c : ℕ) → c < length before.seen.calls → kept_turn after c ≡ kept_turn before c

-- the first reason to refuse the admission; memory is refused only if there is no other reason
abbrev pub IsAdmissionFault : CoreValue → List ℕ → List ℤ → CoreFault → Type 0
IsAdmissionFault v name args e =
    (e ≢ fault.Memory → admission_refusal v name args ≡ Some e) × (e ≡ fault.Memory → admission_refusal v name args ≡ None)

-- ---- moves

-- a possible entry of an admission
abbrev pub IsAdmissionEntry : CoreValue → List ℕ → List ℤ → Entry → Type 0
IsAdmissionEntry v name args (entry.Admitted n) = (admission_refusal v name args ≡ None) × (n ≡ length v.calls)
IsAdmissionEntry v name args (entry.Refused e) = IsAdmissionFault v name args e
IsAdmissionEntry v name args (entry.Stepped c stepped) = ⊥

-- a possible entry of a move
abbrev pub IsEntry : CoreValue → Move → Entry → Type 0
IsEntry v (a_move.Admit name args) e = IsAdmissionEntry v (string_bytes name) args.items e
IsEntry v (a_move.Step c) e = e ≡ entry_of c (step_answer (world_of v) c)

abbrev pub after_entry : CoreValue → Move → Entry → CoreValue
after_entry v (a_move.Admit name args) (entry.Admitted n) = after_admission v (string_bytes name) args.items
after_entry v (a_move.Admit name args) e = v
after_entry v (a_move.Step c) e = after_step v c (step_answer (world_of v) c)

-- each entry is that of its move in the core after the previous moves
abbrev pub Traced : CoreValue → List Move → List Entry → Type 0
Traced v [] [] = Unit {0}
Traced v [] (e ∷ entries) = ⊥
Traced v (m ∷ moves) [] = ⊥
Traced v (m ∷ moves) (e ∷ entries) = IsEntry v m e × Traced (after_entry v m e) moves entries

abbrev pub after_moves : CoreValue → List Move → List Entry → CoreValue
after_moves v (m ∷ moves) (e ∷ entries) = after_moves (after_entry v m e) moves entries
after_moves v moves entries = v

-- the number of entries that are executed instructions
abbrev pub moved : List Entry → ℕ
moved [] = 0
moved (entry.Stepped c (Moved a) ∷ entries) = moved entries + 1
moved (_ ∷ entries) = moved entries
