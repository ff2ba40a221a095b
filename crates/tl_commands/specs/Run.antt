-- The output of the command `run`, and its faults.
use Rattle.std.specs.Prelude.{◌≡◌, ◌≢◌, ◌⊎◌, ◌<◌, ℕ, ◌==◌, Bool, false, List, [], ◌∷◌, ◌++◌, length, map, slice_get, codes, Result, Ok, Err, Vec, Some, if◌then◌else◌}
use Rattle.std.specs.List.{All}
use Rattle.std.specs.declared.alloc.Global.{Global}
use Rattle.serde_json.specs.Data.{Data, Members, object, member, no_members}
use Rattle.serde_json.specs.Written.{compact_text}
use Rattle.tl_tree.specs.Writing.{integers_data}
use Rattle.tl_procedures.specs.Names.{Named}
use Rattle.tl_procedures.specs.declared.request.Request.{Request}
use Rattle.tl_json.specs.Lists.{list_data, natural}
use Rattle.tl_json.specs.Requests.{request_form}
use Rattle.tl_sources.specs.Given.{GiveAll}
use Rattle.tl_sources.specs.declared.given.Given.{Given}
use Rattle.tl_core.specs.Cores.{CoreValue}
use Rattle.tl_generations.specs.Generations.{LegacyValue, TakesUpFirst}
use Rattle.tl_table.specs.Epochs.{EpochValue, seen}
use Rattle.tl_table.specs.Tables.{IsChain}
use Rattle.tl_table.specs.declared.fault.TableFault.TheVariants.{TooManySessions}
use Rattle.tl_table.specs.declared.receipt.Receipt.{Receipt}
use Rattle.tl_workers.specs.Kept.{SessionValue, AnswersEach, asked_of, gots_of}
use Rattle.tl_workers.specs.Matching.{Matches}
use Rattle.tl_workers.specs.Refusals.{numbers_of, AreCallRefusals, IsSealRefused}
use Rattle.tl_workers.specs.declared.refusal.Refusal.{Refusal}
use Rattle.tl_workers.specs.declared.refusal.Refusal.TheVariants as refusal
use Rattle.tl_workers.specs.declared.session.Did.{Did}
use Rattle.tl_commands.specs.declared.fault.CliFault.{CliFault}
use Rattle.tl_commands.specs.declared.fault.CliFault.TheVariants.{Engine, NotClosed}
use Rattle.tl_commands.specs.Alone.{IsTreeFile}
use Rattle.tl_commands.specs.Closing.{IsClosing}
use Rattle.tl_commands.specs.Faults.{status_of}
use Rattle.tl_commands.specs.Script.{BatchesValue, IsScript, beside, script_of_run, has_epochs}
use Rattle.tl_commands.specs.Scripted.{AreRegistered, core_with, IsWrongInput}
use Rattle.tl_commands.specs.Trace.{error_data}

-- ---- the first lines

-- adds the epoch's number; it is omitted for epoch 0
abbrev pub with_epoch : ℕ → Members → Members
with_epoch epoch more = if epoch == 0 then more else member (codes "epoch") (natural epoch) more

-- a call and its reply, or why the request was refused
abbrev pub answer_data : Result Receipt Refusal → Data
answer_data (Ok r) =
    object (member (codes "call") (natural r.call) (with_epoch r.epoch (member (codes "reply") (integers_data r.reply.items) no_members)))
answer_data (Err f) = error_data (numbers_of f)

abbrev pub batch_data : List (Result Receipt Refusal) → Data
batch_data answers = object (member (codes "batch") (list_data (map answer_data answers)) no_members)

-- one line for each batch
abbrev pub batch_lines : List (List (Result Receipt Refusal)) → List ℕ
batch_lines [] = []
batch_lines (answers ∷ rest) = compact_text (batch_data answers) ++ 10 ∷ batch_lines rest

-- ---- what is printed

abbrev pub batches_of : List (Vec Request Global) → List (List Request)
batches_of batches = map (λ b. b.items) batches

abbrev pub answers_of : List (Vec (Result Receipt Refusal) Global) → List (List (Result Receipt Refusal))
answers_of answers = map (λ a. a.items) answers

-- The tree's file has a tree, the procedures of the script and of these files can be registered, and `batches` are the script's calls.
pub record IsReady (limit : ℕ) (tree_bytes script_bytes : List ℕ) (sources : List Given) (batches : List (List Request)) : Type 0 where
  pub tree : IsTreeFile limit tree_bytes
  pub more : List Named
  pub given : GiveAll sources more
  pub script : BatchesValue
  pub procedures : List Named
  pub script_is : IsScript (script_of_run (beside more)) script_bytes script
  pub registered : AreRegistered script.procedures more procedures
  pub batches_are : map (map request_form) batches ≡ script.tasks

-- the answers belong to the requests of each batch
abbrev pub AnswersBatches : List (List Request) → List (List (Result Receipt Refusal)) → Type 0
AnswersBatches [] [] = Unit {0}
AnswersBatches [] (answers ∷ rest) = ⊥
AnswersBatches (requests ∷ batches) [] = ⊥
AnswersBatches (requests ∷ batches) (answers ∷ rest) = AnswersEach requests answers × AnswersBatches batches rest

-- an answer that is a receipt is of epoch n
abbrev pub IsInEpoch : ℕ → Result Receipt Refusal → Type 0
IsInEpoch n (Ok r) = r.epoch ≡ n
IsInEpoch n (Err e) = Unit {0}

-- each receipt of batch n is of epoch n
abbrev pub AreInEpochs : List (List (Result Receipt Refusal)) → Type 0
AreInEpochs all = (n : ℕ) (answers : List (Result Receipt Refusal)) → slice_get all n ≡ Some answers → All (IsInEpoch n) answers

-- the entries that a session stores for all batches: for each batch its requests and then its receipts
abbrev pub kept_of : List (List Request) → List (List (Result Receipt Refusal)) → List Did
kept_of (requests ∷ batches) (answers ∷ rest) = (asked_of requests answers ++ gots_of answers) ++ kept_of batches rest
kept_of batches answers = []

-- The session made the requests, batch by batch, and had these answers. A request that was refused was refused for a reason that an engine has which isn't
-- sealed by itself.
pub record AreAnswered (batches : List (List Request)) (answers : List (List (Result Receipt Refusal))) (session : SessionValue) : Type 0 where
  pub each : AnswersBatches batches answers
  pub refused : All (AreCallRefusals false) answers
  pub kept : session.kept ≡ kept_of batches answers

-- what a script of calls came to: the answers to each batch, the epochs of the closed table, and whether the script names epochs
pub record RunValue : Type 0 where
  pub answers : List (List (Result Receipt Refusal))
  pub epochs : List EpochValue
  pub has_epochs : Bool

-- what the calls of a core begin with
abbrev pub begun_by : CoreValue → LegacyValue
begun_by v = record { parents = v.parents; records = v.opening; procedures = v.procedures }

-- The first epoch opens with this tree, and each epoch has these procedures and no others.
pub record RunsOn (l : LegacyValue) (es : List EpochValue) : Type 0 where
  pub first : TakesUpFirst l es
  pub procedures : All (λ e. (seen e).procedures ≡ l.procedures) es

-- The script's calls were requested, one batch in each epoch, and the epochs of the closed table match the session's entries. They ran on the
-- file's tree and on the procedures of the script and of these files.
pub record IsRun (limit : ℕ) (tree_bytes script_bytes : List ℕ) (sources : List Given) (r : RunValue) : Type 0 where
  pub batches : List (List Request)
  pub session : SessionValue
  pub ready : IsReady limit tree_bytes script_bytes sources batches
  pub answered : AreAnswered batches r.answers session
  pub as_many : length r.epochs ≡ length batches
  pub in_epochs : AreInEpochs r.answers
  pub chain : IsChain r.epochs
  pub matches : Matches r.epochs session
  pub based : RunsOn (begun_by (core_with ready.tree.tree ready.procedures)) r.epochs
  pub names_epochs : r.has_epochs ≡ has_epochs (beside ready.more) script_bytes

-- The output consists of the answers to each batch, the orders of the epochs' calls, and the final tree.
pub record PrintsRun (r : RunValue) (out : List ℕ) : Type 0 where
  pub closing : List ℕ
  pub closes : IsClosing r.has_epochs r.epochs closing
  pub same : out ≡ batch_lines r.answers ++ closing

-- ---- faults

-- With several batches, the table wasn't sealed between two of them; or a call wasn't in the epoch of its batch.
abbrev pub IsBrokenOff : List (List Request) → CliFault → Type 0
IsBrokenOff batches e = ((1 < length batches) × (r : Refusal) × (e ≡ Engine r) × IsSealRefused r) ⊎ (e ≡ NotClosed)

-- The engine has no session left, it wasn't sealed, or it doesn't close. NotClosed has no further condition, since the table isn't returned.
abbrev pub IsLeftOpen : List (List Request) → CliFault → Type 0
IsLeftOpen batches e = (e ≡ Engine (refusal.Table TooManySessions)) ⊎ IsBrokenOff batches e

-- the first fault of the inputs, or otherwise why the engine doesn't close; or lack of memory
abbrev pub IsFirstRunFault : ℕ → List ℕ → List ℕ → List Given → CliFault → Type 0
IsFirstRunFault limit t s sources e = status_of e ≢ 4 →
    IsWrongInput limit script_of_run t s sources e
    ⊎ ((batches : List (List Request)) × IsReady limit t s sources batches × IsLeftOpen batches e)
