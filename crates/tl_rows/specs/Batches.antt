-- Rows that are added together.
use Rattle.std.specs.Prelude.{ℕ, List, ◌++◌, map}
use Rattle.tl_ledger.specs.declared.rows.NodeRow.{NodeRow}
use Rattle.tl_ledger.specs.declared.rows.ProcedureRow.{ProcedureRow}
use Rattle.tl_ledger.specs.declared.rows.CallRow.{CallRow}
use Rattle.tl_ledger.specs.declared.rows.TurnRow.{TurnRow}
use Rattle.tl_ledger.specs.declared.rows.ReplyRow.{ReplyRow}
use Rattle.tl_ledger.specs.declared.rows.SealRow.{SealRow}
use Rattle.tl_ledger.specs.declared.rows.ChangedRecord.{ChangedRecord}
use Rattle.tl_ledger.specs.declared.news.News.{News}
use Rattle.tl_ledger.specs.declared.schema.TheConstants.{NODE, RECORD, PROCEDURE, CALL, TURN, REPLY, SEAL}
use Rattle.tl_ledger.specs.Contents.{Contents, with_rows, with_more}
use Rattle.tl_ledger.specs.News.{node_columns, new_columns, procedure_columns, call_columns, turn_columns, reply_columns, seal_columns, with_changes}

-- news, as lists
pub record Batch : Type 0 where
  pub nodes : List NodeRow
  pub procedures : List ProcedureRow
  pub calls : List CallRow
  pub turns : List TurnRow
  pub replies : List ReplyRow
  pub seals : List SealRow
  pub records : List ChangedRecord

abbrev pub batch_of : News → Batch
batch_of n = record {
  nodes = n.nodes.items;
  procedures = n.procedures.items;
  calls = n.calls.items;
  turns = n.turns.items;
  replies = n.replies.items;
  seals = n.seals.items;
  records = n.records.items;
}

-- the second behind the first
abbrev pub joined : Batch → Batch → Batch
joined a b = record {
  nodes = a.nodes ++ b.nodes;
  procedures = a.procedures ++ b.procedures;
  calls = a.calls ++ b.calls;
  turns = a.turns ++ b.turns;
  replies = a.replies ++ b.replies;
  seals = a.seals ++ b.seals;
  records = a.records ++ b.records;
}

-- the contents with these rows: as `after_news`
abbrev pub after_batch : Contents → Batch → Contents
after_batch c n =
    let all : Contents = with_more (with_more (with_more (with_more (with_more (with_more (with_more c
    NODE (map node_columns n.nodes))
    RECORD (map new_columns n.nodes))
    PROCEDURE (map procedure_columns n.procedures))
    CALL (map call_columns n.calls))
    TURN (map turn_columns n.turns))
    REPLY (map reply_columns n.replies))
    SEAL (map seal_columns n.seals) in
    with_rows all RECORD (with_changes (all RECORD) n.records)
