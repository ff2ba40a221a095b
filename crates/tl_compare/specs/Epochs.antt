-- What a store has of an epoch that is sealed, and what the calls of that epoch did.
use Rattle.std.specs.Prelude.{◌≡◌, ℕ, ◌-◌, ◌<◌, ◌≤◌, suc, ℤ, pos, List, [], All, map, take, drop, length, reverse, Option, Some, None, slice_get, string_bytes, true}
use Rattle.std.specs.List.{filter_map}
use Rattle.sqlite_value.specs.Order.{Row}
use Rattle.tl_tree_locking.specs.declared.event.Event.{Event}
use Rattle.tl_tree_locking.specs.declared.event.Event.TheVariants.{Admit, Lock, Free, Done}
use Rattle.tl_tree_locking.specs.History.{caller, is_done}
use Rattle.tl_tree_locking.specs.World.{reply_of}
use Rattle.tl_procedures.specs.declared.request.Request.{Request}
use Rattle.tl_procedures.specs.Names.{Named, latest, MayPutAll}
use Rattle.tl_core.specs.Cores.{CoreValue, world_of}
use Rattle.tl_json.specs.Procedures.{AreAccepted}
use Rattle.tl_recover.specs.Redriven.{IsAsked}
use Rattle.tl_ledger.specs.declared.rows.CallRow.{CallRow}
use Rattle.tl_ledger.specs.declared.rows.TurnRow.{TurnRow}
use Rattle.tl_ledger.specs.declared.rows.ReplyRow.{ReplyRow}
use Rattle.tl_ledger.specs.declared.rows.SealRow.{SealRow}
use Rattle.tl_ledger.specs.declared.schema.TheConstants.{PROCEDURE, CALL, TURN, REPLY, SEAL}
use Rattle.tl_ledger.specs.Contents.{Contents}
use Rattle.tl_ledger.specs.News.{procedure_columns, call_columns, turn_columns, reply_columns, seal_columns}
use Rattle.tl_rows.specs.Rows.{numbers_in, procedure_form, named_form, AreLatest, AreNumbered, turn_bytes, all_turn_bytes, IsTurnRow}
use Rattle.tl_store.specs.Recovered.{IsCallOf}
use Rattle.tl_compare.specs.declared.reading.EpochRows.{EpochRows}

-- ---- the rows

-- the contents have this seal of the epoch
abbrev pub IsSealAt : Contents → ℕ → SealRow → Type 0
IsSealAt c epoch seal = slice_get (c SEAL) epoch ≡ Some (seal_columns seal)

-- the seal of the epoch before; before the first epoch nothing was counted
pub record IsSealBefore (c : Contents) (epoch : ℕ) (seal : SealRow) : Type 0 where
  pub none : epoch ≡ 0 → seal ≡ record { procedures = pos 0; calls = pos 0; turns = pos 0; replies = pos 0 }
  pub before : (k : ℕ) → epoch ≡ suc k → IsSealAt c k seal

-- these entries are the rows from one count on and below another
pub record AreBetween {X : Type 0} (columns : X → Row) (rows : List Row) (first last : ℤ) (xs : List X) : Type 0 where
  pub from : ℕ
  pub to : ℕ
  pub first_is : first ≡ pos from
  pub last_is : last ≡ pos to
  pub order : from ≤ to
  pub inside : to ≤ length rows
  pub are : map columns xs ≡ take (to - from) (drop from rows)

-- These rows are what the contents have of the epoch: the calls, turns and replies that its seal counts and the seal before doesn't, and all
-- procedures that its seal counts.
pub record AreEpochRows (c : Contents) (epoch : ℕ) (r : EpochRows) : Type 0 where
  pub number : r.epoch ≡ epoch
  pub first : SealRow
  pub last : SealRow
  pub before : IsSealBefore c epoch first
  pub seal : IsSealAt c epoch last
  pub procedures : AreBetween procedure_columns (c PROCEDURE) (pos 0) last.procedures r.procedures.items
  pub calls : AreBetween call_columns (c CALL) first.calls last.calls r.calls.items
  pub turns : AreBetween turn_columns (c TURN) first.turns last.turns r.turns.items
  pub replies : AreBetween reply_columns (c REPLY) first.replies last.replies r.replies.items

-- ---- the calls

-- these are the requests of the calls, in their order
pub record AreAsked (v : CoreValue) (requests : List Request) : Type 0 where
  pub many : length requests ≡ length v.calls
  pub each : (c : ℕ) (r : Request) → slice_get requests c ≡ Some r → IsAsked v c r

-- the rows are those of the calls, in their order
pub record AreCallsOf (v : CoreValue) (epoch : ℕ) (rows : List CallRow) : Type 0 where
  pub epoch_is : All (λ r. r.epoch ≡ pos epoch) rows
  pub numbered : AreNumbered rows
  pub many : length rows ≡ length v.calls
  pub each : (n : ℕ) (row : CallRow) → slice_get rows n ≡ Some row → IsCallOf v n row

-- ---- the turns

-- the rows are those of the turns that the calls took, one row after another
pub record AreTurnsOf (v : CoreValue) (epoch : ℕ) (rows : List TurnRow) : Type 0 where
  pub epoch_is : All (λ r. r.epoch ≡ pos epoch) rows
  pub turns : all_turn_bytes rows ≡ turn_bytes (reverse (map caller v.past))

-- ---- the replies

-- the call that ended at the event
abbrev pub ended : Event → Option ℕ
ended (Done c) = Some c
ended (Admit c) = None
ended (Lock x c found) = None
ended (Free x c left) = None

-- the calls in the order of their ends
abbrev pub ends_of : CoreValue → List ℕ
ends_of v = filter_map ended (reverse v.past)

-- the call is done with that reply
pub record HasReplied (v : CoreValue) (call : ℕ) (reply : List ℤ) : Type 0 where
  pub known : call < length v.calls
  pub done : is_done call v.past ≡ true
  pub same : reply_of (world_of v) call ≡ reply

-- the row has the reply of that call
pub record IsReplyOfCall (v : CoreValue) (epoch call : ℕ) (row : ReplyRow) : Type 0 where
  pub epoch_is : row.epoch ≡ pos epoch
  pub call_is : row.call ≡ pos call
  pub reply : List ℤ
  pub read_as : numbers_in (string_bytes row.reply) ≡ Some reply
  pub replied : HasReplied v call reply

-- the rows have the replies of these calls, one after another
pub record AreRepliesTo (v : CoreValue) (epoch : ℕ) (calls : List ℕ) (rows : List ReplyRow) : Type 0 where
  pub many : length rows ≡ length calls
  pub each : (n call : ℕ) (row : ReplyRow) → slice_get calls n ≡ Some call → slice_get rows n ≡ Some row → IsReplyOfCall v epoch call row

-- the rows are those of the replies, in the order in which the calls ended
abbrev pub AreRepliesOf : CoreValue → ℕ → List ReplyRow → Type 0
AreRepliesOf v epoch rows = AreRepliesTo v epoch (ends_of v) rows

-- ---- an epoch

-- the rows are those of this core's calls: its procedures, the calls, the turns that they took, and the reply of each that ended
pub record AreOfEpoch (r : EpochRows) (v : CoreValue) : Type 0 where
  pub procedures : AreLatest r.procedures.items v.procedures
  pub calls : AreCallsOf v r.epoch r.calls.items
  pub turns : AreTurnsOf v r.epoch r.turns.items
  pub replies : AreRepliesOf v r.epoch r.replies.items

-- the rows have the forms that this program writes: each procedure was put in its turn, under a name that was allowed and with an accepted code, and a row of turns has
-- two bytes for each
pub record AreWholeRows (r : EpochRows) (v : CoreValue) : Type 0 where
  pub all : List Named
  pub forms : map procedure_form r.procedures.items ≡ map named_form all
  pub latest_are : v.procedures ≡ latest [] all
  pub allowed : MayPutAll [] all
  pub accepted : AreAccepted all
  pub turn_rows : All (IsTurnRow (pos r.epoch)) r.turns.items
