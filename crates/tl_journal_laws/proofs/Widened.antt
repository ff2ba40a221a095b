-- What is pending where nodes were appended between two epochs.
use Rattle.std.proofs.Common.{◌≡◌, ℕ, ◌-◌, ◌<◌, ◌^◌, min, ℤ, pos, List, [], ◌∷◌, ◌++◌, length, map, replicate, refl, sym, ap, ap₂, ◌∙◌, subst, arith}
use Rattle.std.specs.Prelude.{All}
use Rattle.std.proofs.lemmas.List.{append-nil, length-append, length-map}
use Rattle.std.proofs.lemmas.List.Elements.{All-nil, All-cons}
use Rattle.tl_width.specs.Fields.{field_count}
use Rattle.tl_core.specs.Cores.{CoreValue}
use Rattle.tl_ledger.specs.declared.news.News.{News}
use Rattle.tl_ledger.specs.declared.committing.Marks.{Marks}
use Rattle.tl_ledger.specs.declared.rows.ChangedRecord.{ChangedRecord}
use Rattle.tl_ledger.specs.declared.rows.NodeRow.{NodeRow}
use Rattle.tl_ledger.specs.declared.schema.TheConstants.{NODE, RECORD, PROCEDURE, CALL, TURN, REPLY, SEAL}
use Rattle.tl_ledger.specs.Contents.{Contents}
use Rattle.tl_ledger.specs.News.{IsMarked, node_columns, new_columns}
use Rattle.tl_rows.specs.Rows.{parent_in}
use Rattle.tl_rows.specs.Batches.{Batch, batch_of, joined, after_batch}
use Rattle.tl_pending.specs.declared.pending.Pending.{Pending}
use Rattle.tl_pending.specs.Pendings.{column, node_of, Grows}
use Rattle.tl_store_laws.specs.Growing.{IsLedgerOf, IsWideningNewsOf, widened}
use Rattle.tl_store_laws.proofs.Widen.{ledger_widens}
use Rattle.tl_store_laws.proofs.Again.{ledger_joined, marked_joined}
use Rattle.tl_tree.specs.Trees.{TreeValue}
use Rattle.tl_store_history.specs.History.{PastEpoch, HasHistory}
use Rattle.tl_store_history.proofs.Whole.{history_joined}
use Rattle.tl_store_history.specs.Sealed.{IsOf}
use Rattle.tl_store_history.proofs.Starts.{history_widens}
use Rattle.tl_journal_laws.specs.Unstored.{IsPendingOf}
use Rattle.tl_journal_laws.proofs.Resting.{longer}

parents_of : (epoch : ℤ) (parents : List ℤ) → map parent_in (map (node_of epoch) parents) ≡ parents
parents_of epoch [] = refl
parents_of epoch (p ∷ parents) = ap (λ l. p ∷ l) (parents_of epoch parents)

of_epoch : (epoch : ℤ) (parents : List ℤ) → All (λ (r : NodeRow). r.epoch ≡ epoch) (map (node_of epoch) parents)
of_epoch epoch [] = All-nil _
of_epoch epoch (p ∷ parents) = All-cons (λ (r : NodeRow). r.epoch ≡ epoch) (node_of epoch p) (map (node_of epoch) parents) refl (of_epoch epoch parents)

module _ (c : Contents) (v : CoreValue) (added : List ℕ) (old new : Pending) (pending : IsPendingOf c old v) (none : v.calls ≡ []) (grows : Grows (map pos added) old new) (few : new.rows.nodes < 2 ^ 62) where
  abbrev before : Contents
  before = after_batch c (batch_of old.news)

  abbrev next : CoreValue
  next = widened v added

  abbrev b : Batch
  b = record { nodes = map (node_of (column old.rows.seals)) (map pos added); procedures = []; calls = []; turns = []; replies = []; seals = []; records = [] }

  stays : {A : Type 0} (of : News → List A) → of (record old.news { nodes = new.news.nodes }) ≡ of old.news → of new.news ≡ of old.news ++ []
  stays of same = ap of grows.news ∙ same ∙ sym (append-nil (of old.news))

  whole : batch_of new.news ≡ joined (batch_of old.news) b
  whole = λ j. record {
    nodes = grows.nodes j;
    procedures = stays (λ (n : News). n.procedures.items) refl j;
    calls = stays (λ (n : News). n.calls.items) refl j;
    turns = stays (λ (n : News). n.turns.items) refl j;
    replies = stays (λ (n : News). n.replies.items) refl j;
    seals = stays (λ (n : News). n.seals.items) refl j;
    records = stays (λ (n : News). n.records.items) refl j;
  }

  news : IsWideningNewsOf v added b
  news = record {
    parents = parents_of (column old.rows.seals) (map pos added);
    procedures = refl;
    calls = refl;
    turns = refl;
    replies = refl;
    seals = refl;
    records = refl;
  }

  as_many : length b.nodes ≡ length (map pos added)
  as_many = length-map (map pos added) (node_of (column old.rows.seals))

  marked : IsMarked (after_batch before b) new.rows
  marked =
      let rows = grows.rows in
      let was = pending.marked in record {
        nodes = longer node_columns (before NODE) b.nodes old.rows.nodes (length (map pos added)) new.rows.nodes was.nodes as_many (ap (λ (m : Marks). m.nodes) rows) few;
        records = longer new_columns (before RECORD) b.nodes old.rows.nodes (length (map pos added)) new.rows.nodes was.records as_many (ap (λ (m : Marks). m.nodes) rows) few;
        procedures = ap length (append-nil (before PROCEDURE)) ∙ was.procedures ∙ sym (ap (λ (m : Marks). m.procedures) rows);
        calls = ap length (append-nil (before CALL)) ∙ was.calls ∙ sym (ap (λ (m : Marks). m.calls) rows);
        turns = ap length (append-nil (before TURN)) ∙ was.turns ∙ sym (ap (λ (m : Marks). m.turns) rows);
        replies = ap length (append-nil (before REPLY)) ∙ was.replies ∙ sym (ap (λ (m : Marks). m.replies) rows);
        seals = ap length (append-nil (before SEAL)) ∙ was.seals ∙ sym (ap (λ (m : Marks). m.seals) rows);
      }

  -- each changed record is that of a node that there was before
  inside : All (λ (x : ChangedRecord). x.node < length (c RECORD ++ map new_columns new.news.nodes.items)) old.news.records.items
  inside k d less =
      let was = pending.inside k d less in
      let long = ap length grows.nodes ∙ length-append old.news.nodes.items b.nodes in
      let new_rows = length-append (c RECORD) (map new_columns new.news.nodes.items) in
      let new_nodes = length-map new.news.nodes.items new_columns in
      let old_rows = length-append (c RECORD) (map new_columns old.news.nodes.items) in
      let old_nodes = length-map old.news.nodes.items new_columns in
      omega (arith, was, long, new_rows, new_nodes, old_rows, old_nodes)

  pub widened_now : IsPendingOf c new next
  widened_now = record {
    ledger = subst (λ x. IsLedgerOf (after_batch c x) next) (sym whole)
        (ledger_joined c (batch_of old.news) b next pending.inside (ledger_widens before v added b pending.ledger none news));
    marked = subst (λ x. IsMarked (after_batch c x) new.rows) (sym whole) (marked_joined c (batch_of old.news) b new.rows pending.inside marked);
    records = grows.records ∙ ap₂ (λ l n. l ++ replicate n (replicate field_count (pos 0))) pending.records (length-map added pos);
    inside = subst (λ (n : News). All (λ (x : ChangedRecord). x.node < length (c RECORD ++ map new_columns new.news.nodes.items)) n.records.items) (sym grows.news) inside;
  }

  pub widened_history : v.past ≡ [] → old.rows.seals < 2 ^ 62 → (t : TreeValue) (es : List PastEpoch) → HasHistory before t es v → HasHistory (after_batch c (batch_of new.news)) t es next
  widened_history fresh small t es h =
      let here : column old.rows.seals ≡ pos (length (before SEAL)) =
      (let fits : min old.rows.seals (2 ^ 63 - 1) ≡ length (before SEAL) = omega (arith, small, pending.marked.seals) in ap pos fits) in
      let of : All (IsOf (length (before SEAL))) b.nodes = subst (λ e. All (λ (r : NodeRow). r.epoch ≡ e) b.nodes) here (of_epoch (column old.rows.seals) (map pos added)) in
      subst (λ x. HasHistory (after_batch c x) t es next) (sym whole)
      (history_joined c (batch_of old.news) b t es next pending.inside (history_widens before b t es v added h none fresh news of))
