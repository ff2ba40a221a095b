-- A ledger of a core, of other contents with the same tables.
use Rattle.std.proofs.Common.{◌≡◌, ◌≤◌, ℕ, List, length, refl, sym, ap, ◌∙◌, subst}
use Rattle.std.specs.Prelude.{All}
use Rattle.std.specs.Prelude.{drop, map}
use Rattle.tl_core.specs.Cores.{CoreValue}
use Rattle.tl_ledger.specs.declared.rows.ChangedRecord.{ChangedRecord}
use Rattle.tl_ledger.specs.declared.schema.TheConstants.{NODE, RECORD, PROCEDURE, CALL, TURN, REPLY, SEAL}
use Rattle.tl_ledger.specs.Contents.{Contents}
use Rattle.tl_ledger.specs.declared.committing.Marks.{Marks}
use Rattle.tl_ledger.specs.News.{IsMarked, new_columns}
use Rattle.std.specs.Prelude.{◌<◌, ◌++◌}
use Rattle.tl_store.specs.declared.stored.Sealed.{Sealed}
use Rattle.tl_store.specs.Stored.{IsLastSeal}
use Rattle.tl_rows.specs.Batches.{Batch, joined, after_batch}
use Rattle.tl_store_laws.specs.Growing.{AreRowsOf, AreBehindCounts, IsLedgerOf}
use Rattle.tl_store_laws.proofs.Joined.{same_nodes, same_records, same_procedures, same_calls, same_turns, same_replies, same_seals}

-- the same rows in these tables
pub record AreSame (c d : Contents) : Type 0 where
  pub nodes : d NODE ≡ c NODE
  pub records : d RECORD ≡ c RECORD
  pub procedures : d PROCEDURE ≡ c PROCEDURE
  pub calls : d CALL ≡ c CALL
  pub turns : d TURN ≡ c TURN
  pub replies : d REPLY ≡ c REPLY
  pub seals : d SEAL ≡ c SEAL

pub ledger_again : (c d : Contents) (v : CoreValue) → AreSame c d → IsLedgerOf c v → IsLedgerOf d v
ledger_again c d v same old = record {
  rows = old.rows;
  there = record {
    nodes = same.nodes ∙ old.there.nodes;
    records = same.records ∙ old.there.records;
    procedures = same.procedures ∙ old.there.procedures;
    last = (old.there.last.0, subst (λ l. IsLastSeal (λ t. l) old.there.last.0) (sym same.seals) old.there.last.1);
    behind = λ s last.
        let was = old.there.behind s (subst (λ l. IsLastSeal (λ t. l) s) same.seals last) in record {
          few_calls = subst (λ l. s.calls ≤ length l) (sym same.calls) was.few_calls;
          few_turns = subst (λ l. s.turns ≤ length l) (sym same.turns) was.few_turns;
          few_replies = subst (λ l. s.replies ≤ length l) (sym same.replies) was.few_replies;
          calls = was.calls ∙ ap (drop s.calls) (sym same.calls);
          turns = was.turns ∙ ap (drop s.turns) (sym same.turns);
          replies = was.replies ∙ ap (drop s.replies) (sym same.replies);
        };
  };
  right = subst (λ e. AreRowsOf e old.rows v) (sym (ap length same.seals)) old.right;
}

-- rows that are added one after another, as one batch
pub ledger_joined : (c : Contents) (a b : Batch) (v : CoreValue) → All (λ (x : ChangedRecord). x.node < length (c RECORD ++ map new_columns a.nodes)) a.records
    → IsLedgerOf (after_batch (after_batch c a) b) v → IsLedgerOf (after_batch c (joined a b)) v
ledger_joined c a b v inside twice = ledger_again (after_batch (after_batch c a) b) (after_batch c (joined a b)) v (record {
  nodes = same_nodes c a b inside;
  records = same_records c a b inside;
  procedures = same_procedures c a b inside;
  calls = same_calls c a b inside;
  turns = same_turns c a b inside;
  replies = same_replies c a b inside;
  seals = same_seals c a b inside;
}) twice

pub marked_joined : (c : Contents) (a b : Batch) (m : Marks) → All (λ (x : ChangedRecord). x.node < length (c RECORD ++ map new_columns a.nodes)) a.records
    → IsMarked (after_batch (after_batch c a) b) m → IsMarked (after_batch c (joined a b)) m
marked_joined c a b m inside twice = record {
  nodes = ap length (same_nodes c a b inside) ∙ twice.nodes;
  records = ap length (same_records c a b inside) ∙ twice.records;
  procedures = ap length (same_procedures c a b inside) ∙ twice.procedures;
  calls = ap length (same_calls c a b inside) ∙ twice.calls;
  turns = ap length (same_turns c a b inside) ∙ twice.turns;
  replies = ap length (same_replies c a b inside) ∙ twice.replies;
  seals = ap length (same_seals c a b inside) ∙ twice.seals;
}
