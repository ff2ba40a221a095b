-- The rows that a store has of an epoch that is sealed.
use Rattle.std.specs.Prelude.{◌≡◌, ◌<◌, ◌≤◌, ℕ, pos, List, ◌++◌, All, map, length}
use Rattle.tl_core.specs.Cores.{CoreValue}
use Rattle.tl_ledger.specs.declared.rows.NodeRow.{NodeRow}
use Rattle.tl_ledger.specs.declared.rows.ProcedureRow.{ProcedureRow}
use Rattle.tl_ledger.specs.declared.rows.SealRow.{SealRow}
use Rattle.tl_ledger.specs.declared.schema.TheConstants.{NODE, PROCEDURE, CALL, TURN, REPLY}
use Rattle.tl_ledger.specs.Contents.{Contents}
use Rattle.tl_ledger.specs.News.{node_columns, procedure_columns, call_columns, turn_columns, reply_columns}
use Rattle.tl_store.specs.Closing.{HasReply}
use Rattle.tl_compare.specs.Epochs.{AreBetween, IsSealAt, IsSealBefore}
use Rattle.tl_store_laws.specs.Growing.{RowsValue, AreRowsOf}

-- the node was there when that epoch began
abbrev pub IsThere : ℕ → NodeRow → Type 0
IsThere epoch row = (k : ℕ) × (row.epoch ≡ pos k) × (k ≤ epoch)

-- the node was appended after that epoch
abbrev pub IsToCome : ℕ → NodeRow → Type 0
IsToCome epoch row = (k : ℕ) × (row.epoch ≡ pos k) × (epoch < k)

-- the node was appended before that epoch's calls
abbrev pub IsOf : ℕ → NodeRow → Type 0
IsOf epoch row = row.epoch ≡ pos epoch

-- these nodes were there when the epoch began, and those behind them were appended after it
pub record HasNodes (c : Contents) (epoch : ℕ) (nodes : List NodeRow) : Type 0 where
  pub others : List NodeRow
  pub all : c NODE ≡ map node_columns (nodes ++ others)
  pub there : All (IsThere epoch) nodes
  pub to_come : All (IsToCome epoch) others

-- These are the contents' rows of the epoch: its nodes, the procedures that its seal counts, and the calls, turns and replies that it counts and the seal
-- before doesn't. It counts no fewer procedures than that one.
pub record AreSealedRows (c : Contents) (epoch : ℕ) (r : RowsValue) : Type 0 where
  pub first : SealRow
  pub last : SealRow
  pub before : IsSealBefore c epoch first
  pub seal : IsSealAt c epoch last
  pub nodes : HasNodes c epoch r.nodes
  pub procedures : AreBetween procedure_columns (c PROCEDURE) (pos 0) last.procedures r.procedures
  pub new : List ProcedureRow
  pub new_are : AreBetween procedure_columns (c PROCEDURE) first.procedures last.procedures new
  pub calls : AreBetween call_columns (c CALL) first.calls last.calls r.calls
  pub turns : AreBetween turn_columns (c TURN) first.turns last.turns r.turns
  pub replies : AreBetween reply_columns (c REPLY) first.replies last.replies r.replies

-- the epoch's seal counts no fewer procedures than the seal before it
abbrev pub CountsOn : Contents → ℕ → Type 0
CountsOn c epoch = (first last : SealRow) → IsSealBefore c epoch first → IsSealAt c epoch last → (new : List ProcedureRow) × AreBetween procedure_columns (c PROCEDURE) first.procedures last.procedures new

-- The contents have the rows of this core's calls as those of the epoch: its nodes, its procedures, the calls, the turns that they took, and a reply of each.
pub record HasSealed (c : Contents) (epoch : ℕ) (v : CoreValue) : Type 0 where
  pub rows : RowsValue
  pub there : AreSealedRows c epoch rows
  pub right : AreRowsOf epoch rows v
  pub replied : (call : ℕ) → call < length v.calls → HasReply rows.replies call
