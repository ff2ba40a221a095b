-- How a core stores its calls: permanent values for every call, and a slot for each open call.
use Rattle.std.specs.Prelude.{◌≡◌, ℕ, List, length, map, Option, Some, None, option_map, slice_get, get_or, ℤ}
use Rattle.tl_machine.specs.Turns.{TurnValue}
use Rattle.tl_procedures.specs.Names.{Named, no_procedure}
use Rattle.tl_core.specs.declared.call.Call.{Call}
use Rattle.tl_core.specs.declared.call.OpenCall.{OpenCall}
use Rattle.tl_core.specs.declared.call.Progress.{Progress}
use Rattle.tl_core.specs.declared.call.Progress.TheVariants.{Open, Done}
use Rattle.tl_core.specs.Cores.{CallValue}

abbrev pub slot_of : Progress → Option ℕ
slot_of (Open slot) = Some slot
slot_of (Done reply steps) = None

abbrev pub reply_in : Progress → Option (List ℤ)
reply_in (Open slot) = None
reply_in (Done reply steps) = Some reply

abbrev pub steps_of : OpenCall → ℕ
steps_of o = o.turn.call.steps

-- the number of instructions that the call has executed, which is counted in its turn while it is open
abbrev pub count_of : List OpenCall → Progress → ℕ
count_of slots (Open slot) = get_or (map steps_of slots) slot 0
count_of slots (Done reply steps) = steps

-- the stored call as callers see it
abbrev pub seen_call : List Named → List OpenCall → Call → CallValue
seen_call procedures slots s = record {
  procedure = s.procedure;
  code = (get_or procedures s.procedure no_procedure).code;
  args = s.args.items;
  count = count_of slots s.progress;
}

-- the turn of a stored call; None if it is done
abbrev pub turn_in : List OpenCall → Progress → Option TurnValue
turn_in slots (Open slot) = option_map (λ o. o.turn) (slice_get slots slot)
turn_in slots (Done reply steps) = None

abbrev pub seen_turn : List OpenCall → Call → Option TurnValue
seen_turn slots s = turn_in slots s.progress

-- A call with its turn, which is the last one if the call is done. The core stores the turn only while the call is open.
pub record Kept : Type 0 where
  pub procedure : ℕ
  pub args : List ℤ
  pub turn : TurnValue
  pub reply : Option (List ℤ)
  pub places : ℕ

abbrev pub open_call : ℕ → Kept → OpenCall
open_call c k = record { call = c; places = k.places; turn = k.turn }

-- the stored data represents this call, whose number is c
pub record IsStored (procedures : List Named) (slots : List OpenCall) (c : ℕ) (k : Kept) (s : Call) : Type 0 where
  pub procedure : s.procedure ≡ k.procedure
  pub args : s.args.items ≡ k.args
  pub code : (get_or procedures k.procedure no_procedure).code ≡ k.turn.code
  pub reply : reply_in s.progress ≡ k.reply
  pub slot : (j : ℕ) → slot_of s.progress ≡ Some j → slice_get slots j ≡ Some (open_call c k)
  pub steps : (reply : List ℤ) (n : ℕ) → s.progress ≡ Done reply n → n ≡ k.turn.call.steps

-- Each call is stored, and each slot is that of an open call. A slot gives the number of its call, so no two calls share a slot.
pub record AreStored (procedures : List Named) (calls : List Call) (slots : List OpenCall) (kept : List Kept) : Type 0 where
  pub long : length calls ≡ length kept
  pub each : (c : ℕ) (k : Kept) (s : Call) → slice_get kept c ≡ Some k → slice_get calls c ≡ Some s → IsStored procedures slots c k s
  pub each_slot : (j : ℕ) (o : OpenCall) → slice_get slots j ≡ Some o → (s : Call) × (slice_get calls o.call ≡ Some s) × (slot_of s.progress ≡ Some j)
