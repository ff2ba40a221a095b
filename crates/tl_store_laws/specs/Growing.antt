-- The rows behind a store's last seal, and rows that are added to them while the calls of their core go on.
use Rattle.std.specs.Prelude.{◌≡◌, ◌≤◌, ℕ, ◌+◌, ℤ, pos, List, [], ◌∷◌, ◌++◌, replicate, All, map, drop, length, reverse, Some, slice_get}
use Rattle.tl_width.specs.Fields.{field_count}
use Rattle.tl_tree_locking.specs.History.{caller, records_now}
use Rattle.tl_procedures.specs.Names.{Named, latest, MayPutAll, AreKnown}
use Rattle.tl_core.specs.Cores.{CoreValue}
use Rattle.tl_json.specs.Procedures.{AreAccepted}
use Rattle.tl_ledger.specs.declared.rows.NodeRow.{NodeRow}
use Rattle.tl_ledger.specs.declared.rows.RecordRow.{RecordRow}
use Rattle.tl_ledger.specs.declared.rows.ProcedureRow.{ProcedureRow}
use Rattle.tl_ledger.specs.declared.rows.CallRow.{CallRow}
use Rattle.tl_ledger.specs.declared.rows.TurnRow.{TurnRow}
use Rattle.tl_ledger.specs.declared.rows.ReplyRow.{ReplyRow}
use Rattle.tl_ledger.specs.declared.rows.SealRow.{SealRow}
use Rattle.tl_ledger.specs.declared.schema.TheConstants.{NODE, RECORD, PROCEDURE, CALL, TURN, REPLY, SEAL}
use Rattle.tl_ledger.specs.Contents.{Contents}
use Rattle.tl_ledger.specs.News.{node_columns, record_columns, procedure_columns, call_columns, turn_columns, reply_columns}
use Rattle.tl_rows.specs.Rows.{parent_in, fields_in, procedure_form, named_form, AreNumbered, turn_bytes, all_turn_bytes, IsTurnRow}
use Rattle.tl_store.specs.declared.stored.Sealed.{Sealed}
use Rattle.tl_store.specs.declared.stored.Stored.{Stored}
use Rattle.tl_store.specs.Stored.{IsLastSeal}
use Rattle.tl_store.specs.Recovered.{IsCallOf, IsReplyOf}
use Rattle.tl_rows.specs.Changes.{Leads}
use Rattle.tl_rows.specs.Batches.{Batch}

-- the nodes, records and procedures, and the calls, turns and replies behind the last seal
pub record RowsValue : Type 0 where
  pub nodes : List NodeRow
  pub records : List RecordRow
  pub procedures : List ProcedureRow
  pub calls : List CallRow
  pub turns : List TurnRow
  pub replies : List ReplyRow

abbrev pub rows_of : Stored → RowsValue
rows_of s = record { nodes = s.nodes.items; records = s.records.items; procedures = s.procedures.items; calls = s.calls.items; turns = s.turns.items; replies = s.replies.items }

-- The rows are those of this core, in this epoch: as `AreOfCore`, of lists.
pub record AreRowsOf (epoch : ℕ) (r : RowsValue) (v : CoreValue) : Type 0 where
  pub parents : map parent_in r.nodes ≡ map pos v.parents
  pub records : map fields_in r.records ≡ v.opening
  pub all : List Named
  pub procedures : map procedure_form r.procedures ≡ map named_form all
  pub latest_are : v.procedures ≡ latest [] all
  pub allowed : MayPutAll [] all
  pub accepted : AreAccepted all
  pub epoch_is : All (λ c. c.epoch ≡ pos epoch) r.calls
  pub numbered : AreNumbered r.calls
  pub many : length r.calls ≡ length v.calls
  pub calls : (n : ℕ) (row : CallRow) → slice_get r.calls n ≡ Some row → IsCallOf v n row
  pub turn_rows : All (IsTurnRow (pos epoch)) r.turns
  pub turns : all_turn_bytes r.turns ≡ turn_bytes (reverse (map caller v.past))
  pub replies : All (IsReplyOf v (pos epoch)) r.replies

-- the row is that of call n of the core, in this epoch
pub record IsRowOf (v : CoreValue) (epoch : ℕ) (n : ℕ) (row : CallRow) : Type 0 where
  pub epoch_is : row.epoch ≡ pos epoch
  pub number : row.number ≡ pos n
  pub call : IsCallOf v n row

-- These rows say what came of the core v up to the later core w, in this epoch, which isn't over.
pub record IsNewsOf (epoch : ℕ) (v w : CoreValue) (n : Batch) : Type 0 where
  pub nodes : n.nodes ≡ []
  pub seals : n.seals ≡ []
  pub records : n.records ≡ []
  pub new : List Named
  pub procedures : map procedure_form n.procedures ≡ map named_form new
  pub new_are : w.procedures ≡ v.procedures ++ new
  pub accepted : AreAccepted new
  pub many : length v.calls + length n.calls ≡ length w.calls
  pub calls : (k : ℕ) (row : CallRow) → slice_get n.calls k ≡ Some row → IsRowOf w epoch (length v.calls + k) row
  pub turn_rows : All (IsTurnRow (pos epoch)) n.turns
  pub turns : turn_bytes (reverse (map caller v.past)) ++ all_turn_bytes n.turns ≡ turn_bytes (reverse (map caller w.past))
  pub replies : All (IsReplyOf w (pos epoch)) n.replies

-- the rows with these behind them
abbrev pub added : RowsValue → Batch → RowsValue
added r n = record {
  nodes = r.nodes;
  records = r.records;
  procedures = r.procedures ++ n.procedures;
  calls = r.calls ++ n.calls;
  turns = r.turns ++ n.turns;
  replies = r.replies ++ n.replies;
}

-- the calls, turns and replies are those behind these counts
pub record AreBehindCounts (c : Contents) (s : Sealed) (r : RowsValue) : Type 0 where
  pub few_calls : s.calls ≤ length (c CALL)
  pub few_turns : s.turns ≤ length (c TURN)
  pub few_replies : s.replies ≤ length (c REPLY)
  pub calls : map call_columns r.calls ≡ drop s.calls (c CALL)
  pub turns : map turn_columns r.turns ≡ drop s.turns (c TURN)
  pub replies : map reply_columns r.replies ≡ drop s.replies (c REPLY)

-- these are the nodes, records and procedures of the contents, and their calls, turns and replies behind the last seal
pub record AreRowsIn (c : Contents) (r : RowsValue) : Type 0 where
  pub nodes : c NODE ≡ map node_columns r.nodes
  pub records : c RECORD ≡ map record_columns r.records
  pub procedures : c PROCEDURE ≡ map procedure_columns r.procedures
  pub last : (s : Sealed) × IsLastSeal c s
  pub behind : (s : Sealed) → IsLastSeal c s → AreBehindCounts c s r

-- what the contents have behind the last seal are the rows of this core
pub record IsLedgerOf (c : Contents) (v : CoreValue) : Type 0 where
  pub rows : RowsValue
  pub there : AreRowsIn c rows
  pub right : AreRowsOf (length (c SEAL)) rows v

-- The news also has the seal of the epoch, which the calls of w end: it has the numbers of rows that there are then, and the changed records
-- lead from those at the epoch's beginning to those at its end.
pub record IsSealOf (c : Contents) (w : CoreValue) (n : Batch) : Type 0 where
  pub seal : SealRow
  pub seals : n.seals ≡ seal ∷ []
  pub procedures : seal.procedures ≡ pos (length (c PROCEDURE) + length n.procedures)
  pub calls : seal.calls ≡ pos (length (c CALL) + length n.calls)
  pub turns : seal.turns ≡ pos (length (c TURN) + length n.turns)
  pub replies : seal.replies ≡ pos (length (c REPLY) + length n.replies)
  pub records : Leads w.opening (records_now w.past w.opening) n.records

-- These rows say what came of the core v up to its end w, with the seal of its epoch.
pub record IsLastNewsOf (c : Contents) (v w : CoreValue) (n : Batch) : Type 0 where
  pub nodes : n.nodes ≡ []
  pub new : List Named
  pub procedures : map procedure_form n.procedures ≡ map named_form new
  pub new_are : w.procedures ≡ v.procedures ++ new
  pub accepted : AreAccepted new
  pub sealed : IsSealOf c w n

-- These procedures took the place of those with their names, before any call of the epoch.
pub record IsReplacingNewsOf (v : CoreValue) (others : List Named) (n : Batch) : Type 0 where
  pub nodes : n.nodes ≡ []
  pub calls : n.calls ≡ []
  pub turns : n.turns ≡ []
  pub replies : n.replies ≡ []
  pub seals : n.seals ≡ []
  pub records : n.records ≡ []
  pub procedures : map procedure_form n.procedures ≡ map named_form others
  pub known : AreKnown v.procedures others
  pub accepted : AreAccepted others

-- the core before any call, with appended nodes, which have these parents and records of zeros
abbrev pub widened : CoreValue → List ℕ → CoreValue
widened v added = record v { parents = v.parents ++ added; opening = v.opening ++ replicate (length added) (replicate field_count (pos 0)) }

-- Nodes with these parents were appended, before any call of the epoch.
pub record IsWideningNewsOf (v : CoreValue) (added : List ℕ) (n : Batch) : Type 0 where
  pub parents : map parent_in n.nodes ≡ map pos added
  pub procedures : n.procedures ≡ []
  pub calls : n.calls ≡ []
  pub turns : n.turns ≡ []
  pub replies : n.replies ≡ []
  pub seals : n.seals ≡ []
  pub records : n.records ≡ []
