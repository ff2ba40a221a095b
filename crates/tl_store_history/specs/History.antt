-- What a store has of all its epochs, and how they follow one another.
use Rattle.std.specs.Prelude.{◌≡◌, ◌<◌, ◌≤◌, ◌^◌, ◌⊎◌, ℕ, zero, suc, ℤ, pos, List, [], ◌∷◌, ◌++◌, All, replicate, length, map, true, Some, slice_get}
use Rattle.tl_width.specs.Fields.{field_count}
use Rattle.tl_tree.specs.Records.{Records}
use Rattle.tl_tree.specs.Trees.{TreeValue}
use Rattle.tl_tree_locking.specs.Alone.{SerialOutcome}
use Rattle.tl_tree_locking.specs.Epochs.{run_each}
use Rattle.tl_tree_locking.specs.History.{AllDone, is_done, records_now}
use Rattle.tl_tree_locking.specs.Order.{placed}
use Rattle.tl_tree_locking.specs.World.{reply_of}
use Rattle.tl_core.specs.Cores.{CoreValue, world_of}
use Rattle.tl_core.specs.Reached.{IsReached}
use Rattle.tl_ledger.specs.declared.rows.ProcedureRow.{ProcedureRow}
use Rattle.tl_ledger.specs.declared.rows.CallRow.{CallRow}
use Rattle.tl_ledger.specs.declared.rows.TurnRow.{TurnRow}
use Rattle.tl_ledger.specs.declared.rows.ReplyRow.{ReplyRow}
use Rattle.tl_ledger.specs.declared.rows.SealRow.{SealRow}
use Rattle.tl_ledger.specs.declared.schema.TheConstants.{PROCEDURE, CALL, TURN, REPLY, SEAL, OPENING, NAME}
use Rattle.tl_ledger.specs.Contents.{Contents}
use Rattle.tl_ledger.specs.News.{fields_columns, procedure_columns, call_columns, turn_columns, reply_columns, seal_columns}
use Rattle.tl_rows.specs.Rows.{AreLatest}
use Rattle.tl_store.specs.Stored.{AreEntries}
use Rattle.tl_store.specs.Closing.{HasReply}
use Rattle.tl_compare.specs.Epochs.{IsSealAt, IsSealBefore, AreBetween, AreCallsOf, AreTurnsOf, AreRepliesOf}
use Rattle.tl_rows.specs.Batches.{Batch}
use Rattle.tl_store_laws.specs.Growing.{IsLedgerOf, IsNewsOf, IsSealOf}
use Rattle.tl_store_history.specs.Sealed.{IsThere, HasSealed}

-- ---- epochs, one after another

-- an epoch: the parents of the nodes that were appended before it, and its core at the end of its calls
pub record PastEpoch : Type 0 where
  pub added : List ℕ
  pub core : CoreValue

-- the records with a record of zeros for each node that was appended
abbrev pub with_zeros : ℕ → Records → Records
with_zeros n records = records ++ replicate n (replicate field_count (pos 0))

-- The epoch began with this tree and these records, and with the nodes behind them that were appended before it. All its calls are done.
pub record TakesOver (parents : List ℕ) (records : Records) (e : PastEpoch) : Type 0 where
  pub parents_are : e.core.parents ≡ parents ++ e.added
  pub opening : e.core.opening ≡ with_zeros (length e.added) records
  pub reached : IsReached e.core
  pub done : AllDone e.core.past

-- the records that the epoch left
abbrev pub left_by : PastEpoch → Records
left_by e = records_now e.core.past e.core.opening

-- the first epoch began with this tree and these records, and each later one with what the one before left
abbrev pub AreInLine : List ℕ → Records → List PastEpoch → Type 0
AreInLine parents records [] = Unit {0}
AreInLine parents records (e ∷ es) = TakesOver parents records e × AreInLine e.core.parents (left_by e) es

-- the tree and the records that the last of the epochs left
abbrev pub parents_after : List ℕ → List PastEpoch → List ℕ
parents_after parents [] = parents
parents_after parents (e ∷ es) = parents_after e.core.parents es

abbrev pub records_after : Records → List PastEpoch → Records
records_after records [] = records
records_after records (e ∷ es) = records_after (left_by e) es

-- ---- all calls, run alone

-- the order that the epoch's history determines
abbrev pub order_of : CoreValue → List ℕ
order_of v = placed v.parents v.past

-- runs all calls alone, one after another; before those of an epoch, records of zeros are appended for its new nodes
abbrev pub run_epochs : List PastEpoch → Records → SerialOutcome
run_epochs [] records = record { tree = records; replies = [] }
run_epochs (e ∷ es) records =
    let own = run_each (map (world_of e.core).meanings (order_of e.core)) (with_zeros (length e.added) records) in
    let later = run_epochs es own.tree in
    record { tree = later.tree; replies = own.replies ++ later.replies }

-- the replies of all calls, in the same order
abbrev pub replies_of : List PastEpoch → List (List ℤ)
replies_of [] = []
replies_of (e ∷ es) = map (reply_of (world_of e.core)) (order_of e.core) ++ replies_of es

-- This run leaves the last epoch's records, and each call gives the reply that it gave.
pub record AreSerial (records : Records) (es : List PastEpoch) : Type 0 where
  pub tree : (run_epochs es records).tree ≡ records_after records es
  pub replies : (run_epochs es records).replies ≡ replies_of es

-- ---- the rows

-- The contents have the rows of this epoch, which is sealed: its procedures, its calls, the turns that they took, and the reply of each that ended.
pub record HasEpoch (c : Contents) (epoch : ℕ) (v : CoreValue) : Type 0 where
  pub first : SealRow
  pub last : SealRow
  pub before : IsSealBefore c epoch first
  pub seal : IsSealAt c epoch last
  pub procedures : List ProcedureRow
  pub calls : List CallRow
  pub turns : List TurnRow
  pub replies : List ReplyRow
  pub procedures_there : AreBetween procedure_columns (c PROCEDURE) (pos 0) last.procedures procedures
  pub calls_there : AreBetween call_columns (c CALL) first.calls last.calls calls
  pub turns_there : AreBetween turn_columns (c TURN) first.turns last.turns turns
  pub replies_there : AreBetween reply_columns (c REPLY) first.replies last.replies replies
  pub are_procedures : AreLatest procedures v.procedures
  pub are_calls : AreCallsOf v epoch calls
  pub are_turns : AreTurnsOf v epoch turns
  pub are_replies : AreRepliesOf v epoch replies

-- The sealed epochs of the contents are these, from the first tree on: the contents have the rows of each, and each began with what the one before left.
pub record IsHistoryOf (c : Contents) (t : TreeValue) (es : List PastEpoch) : Type 0 where
  pub opening : c OPENING ≡ map fields_columns t.records
  pub many : length (c SEAL) ≡ length es
  pub line : AreInLine t.parents t.records es
  pub each : (n : ℕ) (e : PastEpoch) → slice_get es n ≡ Some e → HasSealed c n e.core

-- ---- with the epoch that isn't sealed

-- the core began with what the last of these epochs left, and with these nodes behind
pub record GoesOnFrom (t : TreeValue) (es : List PastEpoch) (added : List ℕ) (v : CoreValue) : Type 0 where
  pub parents : v.parents ≡ parents_after t.parents es ++ added
  pub opening : v.opening ≡ with_zeros (length added) (records_after t.records es)

-- each row of these tables is that of an entry
pub record AreOfEntries (c : Contents) : Type 0 where
  pub calls : AreEntries call_columns (c CALL) 0
  pub turns : AreEntries turn_columns (c TURN) 0
  pub replies : AreEntries reply_columns (c REPLY) 0
  pub seals : AreEntries seal_columns (c SEAL) 0

-- The contents are those of a store whose sealed epochs are these, from the first tree on, and whose rows behind the last seal are those of the core v. That one began
-- with what the last epoch left, and each of its calls that is done has its reply there.
pub record HasHistory (c : Contents) (t : TreeValue) (es : List PastEpoch) (v : CoreValue) : Type 0 where
  pub history : IsHistoryOf c t es
  pub ledger : IsLedgerOf c v
  pub nodes : All (IsThere (length es)) ledger.rows.nodes
  pub added : List ℕ
  pub goes_on : GoesOnFrom t es added v
  pub replied : (call : ℕ) → is_done call v.past ≡ true → HasReply ledger.rows.replies call
  pub entries : AreOfEntries c

-- each call that is done in w was done in v, or has its reply among these
abbrev pub AreReplied : CoreValue → CoreValue → List ReplyRow → Type 0
AreReplied v w replies = (call : ℕ) → is_done call w.past ≡ true → (is_done call v.past ≡ true) ⊎ HasReply replies call

-- These rows say what came of the core v up to its end w, with a reply of each call that ended, and they have the seal of its epoch.
pub record EndsEpoch (c : Contents) (v w : CoreValue) (n : Batch) : Type 0 where
  pub news : IsNewsOf (length (c SEAL)) v w (record n { seals = []; records = [] })
  pub replied : AreReplied v w n.replies
  pub seal : IsSealOf c w n

-- no table has more than 2^62 rows, and the records of the first tree and of the core have all fields
pub record IsOfSize (c : Contents) (t : TreeValue) (v : CoreValue) : Type 0 where
  pub few : (table : ℕ) → table < NAME → length (c table) ≤ 2 ^ 62
  pub first_wide : All (λ fields. length fields ≡ field_count) t.records
  pub wide : All (λ fields. length fields ≡ field_count) v.opening

-- the core of the epoch: behind the sealed ones that is v
abbrev pub core_at : List PastEpoch → CoreValue → ℕ → CoreValue
core_at [] v n = v
core_at (e ∷ es) v zero = e.core
core_at (e ∷ es) v (suc n) = core_at es v n
