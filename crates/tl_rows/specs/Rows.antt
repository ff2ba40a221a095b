-- The meaning of a store's rows.
use Rattle.std.specs.Prelude.{◌≡◌, ℕ, ◌<◌, ◌/◌, ◌%◌, ℤ, pos, List, [], ◌∷◌, map, length, get_or, string_bytes, Option, Some, option_and_then, option_map}
use Rattle.std.specs.List.{flat_map}
use Rattle.serde_json.specs.Read.{read}
use Rattle.tl_tree.specs.Reading.{integers_of}
use Rattle.tl_instr.specs.Spelling.{spelling}
use Rattle.tl_procedures.specs.Names.{Named, latest}
use Rattle.tl_procedures.specs.declared.request.Request.{Request}
use Rattle.tl_ledger.specs.declared.rows.NodeRow.{NodeRow}
use Rattle.tl_ledger.specs.declared.rows.RecordRow.{RecordRow}
use Rattle.tl_ledger.specs.declared.rows.ProcedureRow.{ProcedureRow}
use Rattle.tl_ledger.specs.declared.rows.CallRow.{CallRow}
use Rattle.tl_ledger.specs.declared.rows.TurnRow.{TurnRow}
use Rattle.tl_ledger.specs.declared.rows.ReplyRow.{ReplyRow}

-- the numbers in a JSON text that is a list of integers
abbrev pub numbers_in : List ℕ → Option (List ℤ)
numbers_in text = option_and_then integers_of (read text)

-- ---- the tree

abbrev pub parent_in : NodeRow → ℤ
parent_in row = row.parent

abbrev pub fields_in : RecordRow → List ℤ
fields_in row = row.fields

-- ---- procedures

-- a name, and the container of a code
abbrev pub procedure_form : ProcedureRow → List ℕ × List ℕ
procedure_form row = (string_bytes row.name, row.container.items)

abbrev pub named_form : Named → List ℕ × List ℕ
named_form p = (p.name, spelling p.code)

-- These are the procedures of the rows, each in the place of an earlier one with its name.
abbrev pub AreLatest : List ProcedureRow → List Named → Type 0
AreLatest rows procedures = (all : List Named) × (map procedure_form rows ≡ map named_form all) × (procedures ≡ latest [] all)

-- ---- calls

-- the name of a procedure, and arguments
abbrev pub call_form : CallRow → List ℕ × Option (List ℤ)
call_form row = (string_bytes row.procedure, numbers_in (string_bytes row.arguments))

abbrev pub request_form : Request → List ℕ × Option (List ℤ)
request_form r = (string_bytes r.name, Some r.args.items)

-- the client's key for a call
abbrev pub call_key : CallRow → Option (List ℕ)
call_key row = option_map string_bytes row.key

-- the arguments are a list of integers
pub record HasArguments (row : CallRow) : Type 0 where
  pub args : List ℤ
  pub read_as : numbers_in (string_bytes row.arguments) ≡ Some args

-- the calls are numbered from 0 in order
abbrev pub AreNumbered : List CallRow → Type 0
AreNumbered calls = (n : ℕ) → n < length calls → get_or (map (λ r. r.number) calls) n (pos 0) ≡ pos n

-- ---- turns

-- a call's number in two bytes, the higher first
abbrev pub call_bytes : ℕ → List ℕ
call_bytes call = call / 256 % 256 ∷ call % 256 ∷ []

abbrev pub turn_bytes : List ℕ → List ℕ
turn_bytes turns = flat_map call_bytes turns

-- the row is of this epoch, and has two bytes for each of some turns
pub record IsTurnRow (epoch : ℤ) (row : TurnRow) : Type 0 where
  pub epoch_is : row.epoch ≡ epoch
  pub turns : List ℕ
  pub bytes : row.calls.items ≡ turn_bytes turns

-- the turns of all rows, one row after another
abbrev pub all_turn_bytes : List TurnRow → List ℕ
all_turn_bytes rows = flat_map (λ r. r.calls.items) rows

-- an epoch and bytes
abbrev pub turn_form : TurnRow → ℤ × List ℕ
turn_form row = (row.epoch, row.calls.items)

-- ---- replies

-- an epoch, a call's number there, and its reply
abbrev pub reply_form : ReplyRow → (ℤ × ℤ) × Option (List ℤ)
reply_form row = ((row.epoch, row.call), numbers_in (string_bytes row.reply))
