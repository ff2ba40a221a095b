-- What a commit adds to the tables.
use Rattle.std.specs.Prelude.{◌≡◌, ◌≢◌, ℕ, ◌+◌, ◌<◌, ◌≤◌, ◌^◌, ℤ, pos, String, List, [], ◌∷◌, All, map, length, replicate, slice_set, string_bytes, Option, Some, None}
use Rattle.std.specs.declared.alloc.Global.{Global}
use Rattle.sqlite_value.specs.declared.value.Value.{Value}
use Rattle.sqlite_value.specs.declared.value.Value.TheVariants.{Null, Int, Text, Blob}
use Rattle.sqlite_value.specs.Order.{Row}
use Rattle.sqlite_trees.specs.View.{View, OnlyWrites}
use Rattle.tl_ledger.specs.declared.committing.Marks.{Marks}
use Rattle.tl_ledger.specs.declared.news.News.{News}
use Rattle.tl_ledger.specs.declared.founding.Founding.{Founding}
use Rattle.tl_ledger.specs.declared.rows.TheConstants.{FIELDS}
use Rattle.tl_ledger.specs.declared.rows.NodeRow.{NodeRow}
use Rattle.tl_ledger.specs.declared.rows.RecordRow.{RecordRow}
use Rattle.tl_ledger.specs.declared.rows.ProcedureRow.{ProcedureRow}
use Rattle.tl_ledger.specs.declared.rows.CallRow.{CallRow}
use Rattle.tl_ledger.specs.declared.rows.TurnRow.{TurnRow}
use Rattle.tl_ledger.specs.declared.rows.ReplyRow.{ReplyRow}
use Rattle.tl_ledger.specs.declared.rows.SealRow.{SealRow}
use Rattle.tl_ledger.specs.declared.rows.ChangedRecord.{ChangedRecord}
use Rattle.tl_ledger.specs.declared.schema.TheConstants.{NODE, RECORD, PROCEDURE, CALL, TURN, REPLY, SEAL, OPENING, TABLES}
use Rattle.tl_ledger.specs.Rows.{rows_from}
use Rattle.tl_ledger.specs.Contents.{Contents, Holds, with_rows, with_more}

-- the columns of each kind of row
abbrev pub node_columns : NodeRow → Row
node_columns r = Null ∷ Int r.parent ∷ Int r.epoch ∷ []

abbrev pub fields_columns : List ℤ → Row
fields_columns fields = Null ∷ map Int fields

abbrev pub record_columns : RecordRow → Row
record_columns r = fields_columns r.fields

-- a new node has a record of zeros
abbrev pub new_columns : NodeRow → Row
new_columns r = fields_columns (replicate FIELDS (pos 0))

abbrev pub procedure_columns : ProcedureRow → Row
procedure_columns r = Null ∷ Text (string_bytes r.name) ∷ Blob r.container.items ∷ []

abbrev pub key_column : Option (String Global) → Value
key_column None = Null
key_column (Some key) = Text (string_bytes key)

abbrev pub call_columns : CallRow → Row
call_columns r = Null ∷ Int r.epoch ∷ Int r.number ∷ Text (string_bytes r.procedure) ∷ Text (string_bytes r.arguments) ∷ key_column r.key ∷ []

abbrev pub turn_columns : TurnRow → Row
turn_columns r = Null ∷ Int r.epoch ∷ Blob r.calls.items ∷ []

abbrev pub reply_columns : ReplyRow → Row
reply_columns r = Null ∷ Int r.epoch ∷ Int r.call ∷ Text (string_bytes r.reply) ∷ []

abbrev pub seal_columns : SealRow → Row
seal_columns r = Null ∷ Int r.procedures ∷ Int r.calls ∷ Int r.turns ∷ Int r.replies ∷ []

-- the rows with these records in the rows of their nodes, one after another
abbrev pub with_changes : List Row → List ChangedRecord → List Row
with_changes rows [] = rows
with_changes rows (x ∷ xs) = with_changes (slice_set rows x.node (record_columns x.row)) xs

-- the records of these nodes were replaced, and nothing else was written
pub record Changes (old new : View) (nodes : ℕ) (changed : List ChangedRecord) : Type 0 where
  pub tree : (rows : List Row) → length rows ≡ nodes → old.trees RECORD ≡ rows_from 0 rows → new.trees RECORD ≡ rows_from 0 (with_changes rows changed)
  pub others : (t : ℕ) → t ≢ RECORD → new.trees t ≡ old.trees t
  pub only : OnlyWrites old new

-- the contents with these records replaced
abbrev pub with_changed : Contents → List ChangedRecord → Contents
with_changed c changed = with_rows c RECORD (with_changes (c RECORD) changed)

-- the contents with this news
abbrev pub after_news : Contents → News → Contents
after_news c n =
    with_changed (with_more (with_more (with_more (with_more (with_more (with_more (with_more c
    NODE (map node_columns n.nodes.items))
    RECORD (map new_columns n.nodes.items))
    PROCEDURE (map procedure_columns n.procedures.items))
    CALL (map call_columns n.calls.items))
    TURN (map turn_columns n.turns.items))
    REPLY (map reply_columns n.replies.items))
    SEAL (map seal_columns n.seals.items))
    n.records.items

-- the numbers of the tables' rows are these
pub record IsMarked (c : Contents) (m : Marks) : Type 0 where
  pub nodes : length (c NODE) ≡ m.nodes
  pub records : length (c RECORD) ≡ m.nodes
  pub procedures : length (c PROCEDURE) ≡ m.procedures
  pub calls : length (c CALL) ≡ m.calls
  pub turns : length (c TURN) ≡ m.turns
  pub replies : length (c REPLY) ≡ m.replies
  pub seals : length (c SEAL) ≡ m.seals

-- the numbers of rows stay within 2 ^ 62, and each record is that of an existing node or of a new one
pub record HasRoom (m : Marks) (n : News) : Type 0 where
  pub nodes : m.nodes + length n.nodes.items ≤ 2 ^ 62
  pub procedures : m.procedures + length n.procedures.items ≤ 2 ^ 62
  pub calls : m.calls + length n.calls.items ≤ 2 ^ 62
  pub turns : m.turns + length n.turns.items ≤ 2 ^ 62
  pub replies : m.replies + length n.replies.items ≤ 2 ^ 62
  pub seals : m.seals + length n.seals.items ≤ 2 ^ 62
  pub records : All (λ r. r.node < m.nodes + length n.nodes.items) n.records.items

-- the news was written, and nothing else
pub record Adds (old new : View) (m : Marks) (n : News) : Type 0 where
  pub holds : (c : Contents) → IsMarked c m → Holds old.trees c → Holds new.trees (after_news c n)
  pub only : OnlyWrites old new

-- ---- the first contents

-- the tables have no rows
abbrev pub AreEmpty : Contents → Type 0
AreEmpty c = (t : ℕ) → t < TABLES → c t ≡ []

-- the contents with the nodes, their current and their opening records, and the procedures
abbrev pub after_founding : Contents → Founding → Contents
after_founding c f =
    with_more (with_more (with_more (with_more c
    NODE (map node_columns f.nodes.items))
    RECORD (map record_columns f.records.items))
    OPENING (map record_columns f.records.items))
    PROCEDURE (map procedure_columns f.procedures.items)

-- the first contents were written, and nothing else
pub record Founds (old new : View) (f : Founding) : Type 0 where
  pub holds : (c : Contents) → AreEmpty c → Holds old.trees c → Holds new.trees (after_founding c f)
  pub only : OnlyWrites old new
