-- The rows of a store from which a core is rebuilt.
use Rattle.std.specs.Prelude.{◌≡◌, ◌<◌, ◌≤◌, ◌^◌, ◌⊎◌, ℕ, pos, List, [], All, map, drop, length}
use Rattle.sqlite_value.specs.Order.{Row}
use Rattle.tl_ledger.specs.declared.committing.Marks.{Marks}
use Rattle.tl_ledger.specs.declared.rows.TheConstants.{FIELDS}
use Rattle.tl_ledger.specs.declared.rows.NodeRow.{NodeRow}
use Rattle.tl_ledger.specs.declared.rows.RecordRow.{RecordRow}
use Rattle.tl_ledger.specs.declared.rows.ProcedureRow.{ProcedureRow}
use Rattle.tl_ledger.specs.declared.rows.SealRow.{SealRow}
use Rattle.tl_ledger.specs.declared.schema.TheConstants.{NODE, RECORD, PROCEDURE, CALL, TURN, REPLY, SEAL, NAME}
use Rattle.tl_ledger.specs.Rows.{IsLast}
use Rattle.tl_ledger.specs.Contents.{Contents}
use Rattle.tl_ledger.specs.News.{IsMarked, node_columns, record_columns, procedure_columns, call_columns, turn_columns, reply_columns, seal_columns}
use Rattle.tl_store.specs.declared.stored.Sealed.{Sealed}
use Rattle.tl_store.specs.declared.stored.Behind.{Behind}
use Rattle.tl_store.specs.declared.stored.Stored.{Stored}

-- the counts are those of the seal
abbrev pub counts : SealRow → Sealed → Type 0
counts seal s = (seal.calls ≡ pos s.calls) × (seal.turns ≡ pos s.turns) × (seal.replies ≡ pos s.replies)

-- the counts are those of the last seal, or zeros if there is none
abbrev pub IsLastSeal : Contents → Sealed → Type 0
IsLastSeal c s =
    ((c SEAL ≡ []) × (s ≡ record { calls = 0; turns = 0; replies = 0 }))
    ⊎ ((number : ℕ) × (seal : SealRow) × IsLast (c SEAL) number (seal_columns seal) × counts seal s)

-- these are the store's calls, turns and replies after the sealed ones, if the store has at least as many
pub record AreBehind (c : Contents) (sealed : Sealed) (b : Behind) : Type 0 where
  pub calls : sealed.calls ≤ length (c CALL) → map call_columns b.calls.items ≡ drop sealed.calls (c CALL)
  pub turns : sealed.turns ≤ length (c TURN) → map turn_columns b.turns.items ≡ drop sealed.turns (c TURN)
  pub replies : sealed.replies ≤ length (c REPLY) → map reply_columns b.replies.items ≡ drop sealed.replies (c REPLY)

-- these are the nodes, records and procedures of the store, and its calls, turns and replies after the last seal
pub record AreStored (c : Contents) (s : Stored) : Type 0 where
  pub marked : IsMarked c s.marks
  pub nodes : c NODE ≡ map node_columns s.nodes.items
  pub records : c RECORD ≡ map record_columns s.records.items
  pub procedures : c PROCEDURE ≡ map procedure_columns s.procedures.items
  pub sealed : Sealed
  pub is_last : IsLastSeal c sealed
  pub calls : map call_columns s.calls.items ≡ drop sealed.calls (c CALL)
  pub turns : map turn_columns s.turns.items ≡ drop sealed.turns (c TURN)
  pub replies : map reply_columns s.replies.items ≡ drop sealed.replies (c REPLY)

-- no table that grows has more than 2^62 rows
pub record AreFewRows (m : Marks) : Type 0 where
  pub procedures : m.procedures ≤ 2 ^ 62
  pub calls : m.calls ≤ 2 ^ 62
  pub turns : m.turns ≤ 2 ^ 62
  pub replies : m.replies ≤ 2 ^ 62
  pub seals : m.seals ≤ 2 ^ 62

-- Rows of a table that are those of entries, from one of them on.
pub record AreEntries {X : Type 0} (columns : X → Row) (rows : List Row) (first : ℕ) : Type 0 where
  pub there : first ≤ length rows
  pub entries : List X
  pub are : map columns entries ≡ drop first rows

-- The contents can be read: there are as many records as nodes, their tables have at most 2^62 rows each, and the rows of nodes, records and procedures, and of the
-- calls, turns and replies behind the last seal, are those of entries.
pub record IsReadable (c : Contents) : Type 0 where
  pub marks : Marks
  pub marked : IsMarked c marks
  pub few : (t : ℕ) → t < NAME → length (c t) ≤ 2 ^ 62
  pub nodes : List NodeRow
  pub nodes_are : c NODE ≡ map node_columns nodes
  pub records : List RecordRow
  pub wide : All (λ r. length r.fields ≡ FIELDS) records
  pub records_are : c RECORD ≡ map record_columns records
  pub procedures : List ProcedureRow
  pub procedures_are : c PROCEDURE ≡ map procedure_columns procedures
  pub last : (s : Sealed) × IsLastSeal c s
  pub calls : (s : Sealed) → IsLastSeal c s → AreEntries call_columns (c CALL) s.calls
  pub turns : (s : Sealed) → IsLastSeal c s → AreEntries turn_columns (c TURN) s.turns
  pub replies : (s : Sealed) → IsLastSeal c s → AreEntries reply_columns (c REPLY) s.replies
