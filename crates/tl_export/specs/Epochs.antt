-- The epochs of a store, taken again.
use Rattle.std.specs.Prelude.{◌≡◌, ◌-◌, ℕ, suc, nat_le, ℤ, pos, negsuc, Bool, false, if◌then◌else◌, List, [], ◌∷◌, ◌++◌, replicate, length, map, take, drop, Option, Some, None}
use Rattle.tl_tree.specs.Records.{Records}
use Rattle.tl_tree_locking.specs.History.{AllDone}
use Rattle.tl_core.specs.Cores.{CoreValue}
use Rattle.tl_core.specs.Reached.{IsReached}
use Rattle.tl_audit.specs.Chains.{TakesOverFrom, after_file, zero_record}
use Rattle.tl_trail.specs.Trails.{TrailValue}
use Rattle.tl_record.specs.Recording.{trail_value}
use Rattle.tl_ledger.specs.declared.schema.TheConstants.{PROCEDURE, CALL, TURN, REPLY}
use Rattle.tl_ledger.specs.declared.rows.NodeRow.{NodeRow}
use Rattle.tl_ledger.specs.Contents.{Contents}
use Rattle.tl_ledger.specs.News.{procedure_columns, call_columns, turn_columns, reply_columns}
use Rattle.tl_store.specs.declared.stored.Stored.{Stored}
use Rattle.tl_rows.specs.Rows.{fields_in}
use Rattle.tl_store.specs.Recovered.{IsRebuilt, AreOfCore, IsMadeAgain}
use Rattle.tl_export.specs.declared.counts.Counts.{Counts}
use Rattle.tl_export.specs.declared.plan.Plan.{Plan}
use Rattle.tl_export.specs.Counts.{AreAtBeginning, AreAtEnd, HasCounts}

-- the epoch isn't after that one
abbrev pub is_by : ℕ → ℤ → Bool
is_by epoch (pos n) = nat_le n epoch
is_by epoch (negsuc n) = false

-- how many nodes come before the first that wasn't there at the beginning of that epoch
abbrev pub nodes_at : ℕ → List NodeRow → ℕ
nodes_at epoch [] = 0
nodes_at epoch (row ∷ rows) = if is_by epoch row.epoch then suc (nodes_at epoch rows) else 0

-- the nodes that were there at the beginning of that epoch
abbrev pub nodes_of : Plan → ℕ → List NodeRow
nodes_of p epoch = take (nodes_at epoch p.nodes.items) p.nodes.items

-- the records of the first of so many nodes, and zeros for those behind them
abbrev pub with_new : Records → ℕ → Records
with_new records nodes = records ++ replicate (nodes - length records) zero_record

-- the records that the trail before ends with; before the first epoch those at the opening
abbrev pub known_before : Plan → Option TrailValue → Records
known_before p None = map fields_in p.opening.items
known_before p (Some t) = t.ends

-- the records with which an epoch of so many nodes begins
abbrev pub records_for : Plan → Option TrailValue → ℕ → Records
records_for p before nodes = with_new (known_before p before) nodes

-- the rows from one number on and below another
abbrev pub between : {A : Type 0} → ℕ → ℕ → List A → List A
between first last rows = take (last - first) (drop first rows)

-- These rows make epoch n again: the nodes that were there at its beginning, the procedures that were registered by its end, and the calls, turns and
-- replies in between.
pub record AreRowsOf (c : Contents) (p : Plan) (n : ℕ) (s : Stored) : Type 0 where
  pub number : s.marks.seals ≡ n
  pub first : Counts
  pub last : Counts
  pub beginning : AreAtBeginning p.seals.items p.marks n first
  pub end : AreAtEnd p.seals.items p.marks n last
  pub nodes : s.nodes.items ≡ nodes_of p n
  pub procedures : map procedure_columns s.procedures.items ≡ between 0 last.procedures (c PROCEDURE)
  pub calls : map call_columns s.calls.items ≡ between first.calls last.calls (c CALL)
  pub turns : map turn_columns s.turns.items ≡ between first.turns last.turns (c TURN)
  pub replies : map reply_columns s.replies.items ≡ between first.replies last.replies (c REPLY)

-- the trail is that of the core that these rows make
pub record IsMadeOf (s : Stored) (t : TrailValue) : Type 0 where
  pub core : CoreValue
  pub rebuilt : IsRebuilt s core
  pub trail : t ≡ trail_value core

-- the trail is that of the core that the rows of epoch n make
pub record IsTrailOf (c : Contents) (p : Plan) (n : ℕ) (t : TrailValue) : Type 0 where
  pub rows : Stored
  pub are_rows : AreRowsOf c p n rows
  pub made : IsMadeOf rows t

-- ---- where it is known which core an epoch has

-- What a store with these contents has of epoch n are the rows of this core, which takes over from the trail before: whatever rows are read of it, they are those.
pub record IsCoreOf (c : Contents) (p : Plan) (n : ℕ) (before : Option TrailValue) (v : CoreValue) : Type 0 where
  pub reached : IsReached v
  pub counts : HasCounts p.seals.items p.marks n
  pub begins : v.opening ≡ records_for p before (nodes_at n p.nodes.items)
  pub takes_over : TakesOverFrom (after_file before) (trail_value v)
  pub rows : (s : Stored) → AreRowsOf c p n s → map fields_in s.records.items ≡ v.opening → AreOfCore s v

-- The trail is that of the core at the end of its calls: of the core as it is, if all of them are done.
pub record IsEndOf (v : CoreValue) (t : TrailValue) : Type 0 where
  pub last : CoreValue
  pub made : IsMadeAgain v last
  pub trail : t ≡ trail_value last
  pub same : AllDone v.past → t ≡ trail_value v
