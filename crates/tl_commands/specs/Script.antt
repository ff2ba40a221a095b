-- The scripts of the commands `drive` and `run`.
use Rattle.std.specs.Prelude.{◌≡◌, ◌==◌, nat_lt, nat_le, ◌&&◌, ℕ, ℤ, Bool, true, false, map, length, List, [], ◌∷◌, Vec, codes, Option, Some, None, option_map, option_and_then, string_bytes, if◌then◌else◌, IsUtf8}
use Rattle.std.specs.Option.{option_or, option_map_or}
use Rattle.std.specs.declared.alloc.Global.{Global}
use Rattle.serde_json.specs.Data.{Data}
use Rattle.serde_json.specs.Events.{members_len}
use Rattle.serde_json.specs.Find.{as_number, as_u64, as_object, get_member}
use Rattle.serde_json.specs.Read.{read}
use Rattle.tl_tree.specs.Reading.{both}
use Rattle.tl_json.specs.Lists.{each_of, list_data}
use Rattle.tl_json.specs.Procedures.{procedure_form, procedure_of}
use Rattle.tl_json.specs.Requests.{request_form, request_of}
use Rattle.tl_procedures.specs.Names.{Named}
use Rattle.tl_procedures.specs.declared.request.Request.{Request}
use Rattle.tl_core.specs.declared.moves.Move.{Move}
use Rattle.tl_core.specs.declared.moves.Move.TheVariants as a_move
use Rattle.tl_commands.specs.declared.script.Script.{Script}

-- the admission of a call, with the procedure's name and the arguments, or a step of a call
pub data MoveValue : Type 0 where
  Admits : List ℕ → List ℤ → MoveValue
  Steps : ℕ → MoveValue

-- the procedures, each with its name and its assembly text, and the tasks to carry out
pub record ScriptValue (A : Type 0) : Type 0 where
  pub procedures : List (List ℕ × List ℕ)
  pub tasks : List A

abbrev pub move_view : Move → MoveValue
move_view (a_move.Admit name args) = Admits (string_bytes name) args.items
move_view (a_move.Step call) = Steps call

abbrev pub script_view : {T A : Type 0} → (T → A) → Script T → ScriptValue A
script_view f s = record { procedures = map procedure_form s.procedures.items; tasks = map f s.tasks.items }

-- ---- reading

-- the number, if it is an unsigned 32-bit integer
abbrev pub if_call : ℕ → Option ℕ
if_call n = if nat_lt n 4294967296 then Some n else None

abbrev pub call_of : Data → Option ℕ
call_of d = option_and_then if_call (option_and_then as_u64 (as_number d))

-- the number of a call, or a request
abbrev pub move_of : Data → Option MoveValue
move_of d = option_or (option_map Steps (call_of d)) (option_map (λ x. Admits x.0 x.1) (request_of d))

-- what stands for the procedures of a script that names none: an empty list if others are given beside it
abbrev pub beside : List Named → Option Data
beside [] = None
beside (p ∷ ps) = Some (list_data [])

-- the procedures and the tasks of an object that has these two members and no others
abbrev pub both_of : List ℕ → Data → Option (Data × Data)
both_of tasks d = option_and_then (λ ms. if members_len ms == 2 then both (get_member (codes "procs") ms) (get_member tasks ms) else None) (as_object d)

-- the tasks of an object that has no other member
abbrev pub tasks_of : List ℕ → Data → Option Data
tasks_of tasks d = option_and_then (λ ms. if members_len ms == 1 then get_member tasks ms else None) (as_object d)

-- the procedures and the tasks of a script, which may have only the tasks if something stands for the procedures
abbrev pub parts_of : Option Data → List ℕ → Data → Option (Data × Data)
parts_of none tasks d = option_or (both_of tasks d) (both none (tasks_of tasks d))

-- the script in a JSON value, where the tasks are the list in the member `tasks`, and f reads each of them
abbrev pub script_of : {A : Type 0} → Option Data → List ℕ → (Data → Option A) → Data → Option (ScriptValue A)
script_of none tasks f d =
    option_and_then (λ parts. option_map (λ x. record { procedures = x.0; tasks = x.1 }) (both (each_of procedure_of parts.0) (each_of f parts.1))) (parts_of none tasks d)

-- the script of `drive`
abbrev pub script_of_moves : Option Data → Data → Option (ScriptValue MoveValue)
script_of_moves none = script_of none (codes "moves") move_of

-- ---- the script of `run`

-- the requests of one batch
abbrev pub batch_form : Vec Request Global → List (List ℕ × List ℤ)
batch_form requests = map request_form requests.items

-- the list, if it has 1 to 256 elements
abbrev pub if_few : {A : Type 0} → List A → Option (List A)
if_few xs = if nat_le 1 (length xs) && nat_le (length xs) 256 then Some xs else None

-- 1 to 256 calls
abbrev pub batch_of : Data → Option (List (List ℕ × List ℤ))
batch_of d = option_and_then if_few (each_of request_of d)

abbrev pub BatchesValue : Type 0
BatchesValue = ScriptValue (List (List ℕ × List ℤ))

-- a script of one batch
abbrev pub script_of_calls : Option Data → Data → Option BatchesValue
script_of_calls none d =
    option_and_then (λ parts. option_map (λ x. record { procedures = x.0; tasks = x.1 ∷ [] }) (both (each_of procedure_of parts.0) (batch_of parts.1)))
    (parts_of none (codes "calls") d)

-- a script of 1 to 256 batches, one for each epoch
abbrev pub script_of_epochs : Option Data → Data → Option BatchesValue
script_of_epochs none d =
    option_and_then (λ s. option_map (λ tasks. record { procedures = s.procedures; tasks = tasks }) (if_few s.tasks)) (script_of none (codes "epochs") batch_of d)

abbrev pub script_of_run : Option Data → Data → Option BatchesValue
script_of_run none d = option_or (script_of_calls none d) (script_of_epochs none d)

-- whether it is a script of epochs
abbrev pub is_of_epochs : Option Data → Data → Bool
is_of_epochs none d = option_map_or (λ s. false) (script_of_calls none d) true

abbrev pub has_epochs : Option Data → List ℕ → Bool
has_epochs none bytes = option_map_or (is_of_epochs none) (read bytes) false

-- The bytes are UTF-8 and contain the script.
pub record IsScript {A : Type 0} (script_of : Data → Option (ScriptValue A)) (bytes : List ℕ) (s : ScriptValue A) : Type 0 where
  pub utf8 : IsUtf8 bytes
  pub same : option_and_then script_of (read bytes) ≡ Some s
