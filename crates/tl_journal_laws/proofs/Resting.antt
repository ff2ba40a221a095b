-- What is pending where nothing has come since the last commit.
use Rattle.std.proofs.Common.{◌≡◌, ℕ, ◌<◌, ◌^◌, List, ◌++◌, length, map, sym, ap, ap₂, ◌∙◌, subst, arith}
use Rattle.std.specs.Prelude.{All}
use Rattle.std.proofs.lemmas.List.{append-nil, length-append, length-map}
use Rattle.std.proofs.lemmas.List.Elements.{All-nil}
use Rattle.tl_core.specs.Cores.{CoreValue}
use Rattle.tl_ledger.specs.declared.news.News.{News}
use Rattle.tl_ledger.specs.declared.rows.ChangedRecord.{ChangedRecord}
use Rattle.tl_ledger.specs.declared.schema.TheConstants.{NODE, RECORD, PROCEDURE, CALL, TURN, REPLY, SEAL}
use Rattle.tl_ledger.specs.Contents.{Contents}
use Rattle.tl_ledger.specs.News.{IsMarked, after_news, node_columns, new_columns, procedure_columns, call_columns, turn_columns, reply_columns, seal_columns, with_changes}
use Rattle.tl_rows.specs.Batches.{batch_of, after_batch}
use Rattle.tl_pending.specs.declared.pending.Pending.{Pending}
use Rattle.tl_pending.specs.Pendings.{more, IsEmpty}
use Rattle.tl_store_laws.specs.Growing.{IsLedgerOf}
use Rattle.tl_store_laws.proofs.Again.{AreSame, ledger_again}
use Rattle.tl_journal_laws.specs.Unstored.{IsPendingOf}

pub same_without_news : (c : Contents) (n : News) → IsEmpty n → AreSame c (after_batch c (batch_of n))
same_without_news c n empty = record {
  nodes = ap (λ l. c NODE ++ map node_columns l) empty.nodes ∙ append-nil (c NODE);
  records = ap₂ (λ l changes. with_changes (c RECORD ++ map new_columns l) changes) empty.nodes empty.records ∙ append-nil (c RECORD);
  procedures = ap (λ l. c PROCEDURE ++ map procedure_columns l) empty.procedures ∙ append-nil (c PROCEDURE);
  calls = ap (λ l. c CALL ++ map call_columns l) empty.calls ∙ append-nil (c CALL);
  turns = ap (λ l. c TURN ++ map turn_columns l) empty.turns ∙ append-nil (c TURN);
  replies = ap (λ l. c REPLY ++ map reply_columns l) empty.replies ∙ append-nil (c REPLY);
  seals = ap (λ l. c SEAL ++ map seal_columns l) empty.seals ∙ append-nil (c SEAL);
}

pub begins : (c : Contents) (v : CoreValue) (p : Pending) → IsLedgerOf c v → IsMarked c p.rows → p.records.items ≡ v.opening → IsEmpty p.news → IsPendingOf c p v
begins c v p ledger marked records empty =
    let same = same_without_news c p.news empty in record {
      ledger = ledger_again c (after_batch c (batch_of p.news)) v same ledger;
      marked = record {
        nodes = ap length same.nodes ∙ marked.nodes;
        records = ap length same.records ∙ marked.records;
        procedures = ap length same.procedures ∙ marked.procedures;
        calls = ap length same.calls ∙ marked.calls;
        turns = ap length same.turns ∙ marked.turns;
        replies = ap length same.replies ∙ marked.replies;
        seals = ap length same.seals ∙ marked.seals;
      };
      records = records;
      inside = subst (λ l. All (λ (x : ChangedRecord). x.node < length (c RECORD ++ map new_columns p.news.nodes.items)) l) (sym empty.records) (All-nil _);
    }

-- what was pending is stored
pub stored : (c : Contents) (v : CoreValue) (old new : Pending) → IsPendingOf c old v → IsEmpty new.news → new ≡ record old { news = new.news } → IsPendingOf (after_news c old.news) new v
stored c v old new pending empty rest =
    begins (after_news c old.news) v new pending.ledger
    (subst (IsMarked (after_news c old.news)) (ap (λ (p : Pending). p.rows) (sym rest)) pending.marked)
    (ap (λ (p : Pending). p.records.items) rest ∙ pending.records) empty

-- so many rows with these behind them
pub longer : {A B : Type 0} (f : A → B) (rows : List B) (xs : List A) (n k m : ℕ) → length rows ≡ n → length xs ≡ k → m ≡ more n k → m < 2 ^ 62 → length (rows ++ map f xs) ≡ m
longer f rows xs n k m long many is few =
    let all = length-append rows (map f xs) in
    let each = length-map xs f in
    omega (arith, all, each, long, many, is, few)
