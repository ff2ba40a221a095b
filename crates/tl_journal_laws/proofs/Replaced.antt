-- What is pending where procedures were replaced between two epochs.
use Rattle.std.proofs.Common.{◌≡◌, ◌<◌, ◌^◌, List, [], ◌++◌, length, map, refl, sym, ap, ◌∙◌, subst}
use Rattle.std.specs.Prelude.{All}
use Rattle.std.proofs.lemmas.List.{append-nil, length-map}
use Rattle.tl_procedures.specs.Names.{Named, AreKnown, replaced}
use Rattle.tl_core.specs.Cores.{CoreValue}
use Rattle.tl_json.specs.Procedures.{AreAccepted}
use Rattle.tl_ledger.specs.declared.news.News.{News}
use Rattle.tl_ledger.specs.declared.committing.Marks.{Marks}
use Rattle.tl_ledger.specs.declared.rows.ChangedRecord.{ChangedRecord}
use Rattle.tl_ledger.specs.declared.schema.TheConstants.{NODE, RECORD, PROCEDURE, CALL, TURN, REPLY, SEAL}
use Rattle.tl_ledger.specs.Contents.{Contents}
use Rattle.tl_ledger.specs.News.{IsMarked, new_columns, procedure_columns}
use Rattle.tl_rows.specs.Rows.{procedure_form, named_form}
use Rattle.tl_rows.specs.Batches.{Batch, batch_of, joined, after_batch}
use Rattle.tl_pending.specs.declared.pending.Pending.{Pending}
use Rattle.tl_pending.specs.Pendings.{Replaces}
use Rattle.tl_store_laws.specs.Growing.{IsLedgerOf, IsReplacingNewsOf}
use Rattle.tl_store_laws.proofs.Replace.{ledger_replaces}
use Rattle.tl_store_laws.proofs.Again.{ledger_joined, marked_joined}
use Rattle.tl_tree.specs.Trees.{TreeValue}
use Rattle.tl_store_history.specs.History.{PastEpoch, HasHistory}
use Rattle.tl_store_history.proofs.Whole.{history_joined}
use Rattle.tl_store_history.proofs.Starts.{history_replaces}
use Rattle.tl_journal_laws.specs.Unstored.{IsPendingOf}
use Rattle.tl_journal_laws.proofs.Resting.{longer}

module _ (c : Contents) (v : CoreValue) (others : List Named) (old new : Pending) (pending : IsPendingOf c old v) (none : v.calls ≡ []) (fresh : v.past ≡ []) (known : AreKnown v.procedures others)
    (accepted : AreAccepted others) (replaces : Replaces others old new) (few : new.rows.procedures < 2 ^ 62) where
  abbrev before : Contents
  before = after_batch c (batch_of old.news)

  abbrev next : CoreValue
  next = record v { procedures = replaced v.procedures others }

  abbrev b : Batch
  b = record { nodes = []; procedures = replaces.procedures.0; calls = []; turns = []; replies = []; seals = []; records = [] }

  stays : {A : Type 0} (of : News → List A) → of (record old.news { procedures = new.news.procedures }) ≡ of old.news → of new.news ≡ of old.news ++ []
  stays of same = ap of replaces.news ∙ same ∙ sym (append-nil (of old.news))

  whole : batch_of new.news ≡ joined (batch_of old.news) b
  whole = λ j. record {
    nodes = stays (λ (n : News). n.nodes.items) refl j;
    procedures = replaces.procedures.1 j;
    calls = stays (λ (n : News). n.calls.items) refl j;
    turns = stays (λ (n : News). n.turns.items) refl j;
    replies = stays (λ (n : News). n.replies.items) refl j;
    seals = stays (λ (n : News). n.seals.items) refl j;
    records = stays (λ (n : News). n.records.items) refl j;
  }

  news : IsReplacingNewsOf v others b
  news = record {
    nodes = refl;
    calls = refl;
    turns = refl;
    replies = refl;
    seals = refl;
    records = refl;
    procedures = replaces.procedures.2;
    known = known;
    accepted = accepted;
  }

  as_many : length b.procedures ≡ length others
  as_many = sym (length-map b.procedures procedure_form) ∙ ap length replaces.procedures.2 ∙ length-map others named_form

  marked : IsMarked (after_batch before b) new.rows
  marked =
      let rows = replaces.rows in
      let was = pending.marked in record {
        nodes = ap length (append-nil (before NODE)) ∙ was.nodes ∙ sym (ap (λ (m : Marks). m.nodes) rows);
        records = ap length (append-nil (before RECORD)) ∙ was.records ∙ sym (ap (λ (m : Marks). m.nodes) rows);
        procedures = longer procedure_columns (before PROCEDURE) b.procedures old.rows.procedures (length others) new.rows.procedures was.procedures as_many (ap (λ (m : Marks). m.procedures) rows) few;
        calls = ap length (append-nil (before CALL)) ∙ was.calls ∙ sym (ap (λ (m : Marks). m.calls) rows);
        turns = ap length (append-nil (before TURN)) ∙ was.turns ∙ sym (ap (λ (m : Marks). m.turns) rows);
        replies = ap length (append-nil (before REPLY)) ∙ was.replies ∙ sym (ap (λ (m : Marks). m.replies) rows);
        seals = ap length (append-nil (before SEAL)) ∙ was.seals ∙ sym (ap (λ (m : Marks). m.seals) rows);
      }

  pub replaced_now : IsPendingOf c new next
  replaced_now = record {
    ledger = subst (λ x. IsLedgerOf (after_batch c x) next) (sym whole)
        (ledger_joined c (batch_of old.news) b next pending.inside (ledger_replaces before v others b pending.ledger none fresh news));
    marked = subst (λ x. IsMarked (after_batch c x) new.rows) (sym whole) (marked_joined c (batch_of old.news) b new.rows pending.inside marked);
    records = ap (λ (p : Pending). p.records.items) replaces.rest ∙ pending.records;
    inside = subst (λ (n : News). All (λ (x : ChangedRecord). x.node < length (c RECORD ++ map new_columns n.nodes.items)) n.records.items) (sym replaces.news) pending.inside;
  }

  pub replaced_history : (t : TreeValue) (es : List PastEpoch) → HasHistory before t es v → HasHistory (after_batch c (batch_of new.news)) t es next
  replaced_history t es h = subst (λ x. HasHistory (after_batch c x) t es next) (sym whole)
      (history_joined c (batch_of old.news) b t es next pending.inside (history_replaces before b t es v others h none fresh news))
