-- What is written before a commit.
use Rattle.std.proofs.Common.{ℕ, ◌+◌, ◌≡◌, ◌≢◌, ◌<◌, ◌⊎◌, inl, inr, List, [], ◌∷◌, ◌++◌, length, map, slice_set, refl, sym, ap, ◌∙◌, pos, arith}
use Rattle.std.proofs.lemmas.Bool.{ne_eqb, eq-eqb, cases_eq}
use Rattle.std.proofs.lemmas.List.{length-append, length-map, length-set}
use Rattle.sqlite_value.specs.declared.value.Value.TheVariants.{Int}
use Rattle.sqlite_value.specs.Order.{Row}
use Rattle.sqlite_trees.specs.Tree.{Trees, put_row, with_tree}
use Rattle.sqlite_trees.specs.View.{View, SetsTree}
use Rattle.tl_ledger.specs.declared.news.News.{News}
use Rattle.tl_ledger.specs.declared.founding.Founding.{Founding}
use Rattle.tl_ledger.specs.declared.rows.ChangedRecord.{ChangedRecord}
use Rattle.tl_ledger.specs.declared.committing.Marks.{Marks}
use Rattle.tl_ledger.specs.declared.schema.TheConstants.{NODE, RECORD, PROCEDURE, CALL, TURN, REPLY, SEAL, OPENING, NAME}
use Rattle.tl_ledger.specs.Rows.{Appends, rows_from}
use Rattle.tl_ledger.specs.Contents.{Contents, Holds, with_rows, with_more}
use Rattle.tl_ledger.specs.News.{Changes, Founds, AreEmpty, after_founding, node_columns, record_columns, new_columns, procedure_columns, call_columns, turn_columns, reply_columns, seal_columns, with_changes, with_changed, IsMarked, Adds, after_news}
use Rattle.tl_ledger.proofs.RowLemmas.{put_row-at, only_again}

-- one table was written, and the others haven't changed
holds_rows : (old new : Trees) (c : Contents) (table : ℕ) (rows : List Row) → table < NAME → Holds old c → new table ≡ rows_from 0 rows → ((t : ℕ) → t ≢ table → new t ≡ old t)
    → Holds new (with_rows c table rows)
holds_rows old new c table rows below holds is others = record {
  numbered = λ t inside. by_cases t inside (cases_eq t table);
  names = rw (ne_eqb NAME table names_other) (others NAME names_other ∙ holds.names);
}
  where
    names_other : NAME ≢ table
    names_other same = absurd (omega (arith, same, below))

    by_cases : (t : ℕ) → t < NAME → (t ≡ table) ⊎ (t ≢ table) → new t ≡ rows_from 0 (with_rows c table rows t)
    by_cases t inside (inl same) = rw (eq-eqb t table same) (ap new same ∙ is)
    by_cases t inside (inr other) = rw (ne_eqb t table other) (others t other ∙ holds.numbered t inside)

pub holds_more : (old new : View) (c : Contents) (table first : ℕ) (more : List Row) → table < NAME → length (c table) ≡ first → Appends old new table first more
    → Holds old.trees c → Holds new.trees (with_more c table more)
holds_more old new c table first more inside long adds holds =
    holds_rows old.trees new.trees c table (c table ++ more) inside holds (adds.tree (c table) long (holds.numbered table inside)) adds.others

pub holds_changed : (old new : View) (c : Contents) (nodes : ℕ) (changed : List ChangedRecord) → length (c RECORD) ≡ nodes → Changes old new nodes changed
    → Holds old.trees c → Holds new.trees (with_changed c changed)
holds_changed old new c nodes changed long changes holds =
    holds_rows old.trees new.trees c RECORD (with_changes (c RECORD) changed) (omega arith) holds (changes.tree (c RECORD) long (holds.numbered RECORD (omega arith))) changes.others

longer : (rows more : List Row) (n k : ℕ) → length rows ≡ n → length more ≡ k → length (rows ++ more) ≡ n + k
longer rows more n k long short = let e = length-append rows more in omega (arith, e, long, short)

pub founds_all : (v0 v1 v2 v3 v4 : View) (f : Founding)
    → Appends v0 v1 NODE 0 (map node_columns f.nodes.items)
    → Appends v1 v2 RECORD 0 (map record_columns f.records.items)
    → Appends v2 v3 OPENING 0 (map record_columns f.records.items)
    → Appends v3 v4 PROCEDURE 0 (map procedure_columns f.procedures.items) → Founds v0 v4 f
founds_all v0 v1 v2 v3 v4 f one two three four = record {
  holds = λ c empty holds.
      let c1 : Contents = with_more c NODE (map node_columns f.nodes.items) in
      let c2 : Contents = with_more c1 RECORD (map record_columns f.records.items) in
      let c3 : Contents = with_more c2 OPENING (map record_columns f.records.items) in
      let h1 : Holds v1.trees c1 = holds_more v0 v1 c NODE 0 _ (omega arith) (ap length (empty NODE (omega arith))) one holds in
      let h2 : Holds v2.trees c2 = holds_more v1 v2 c1 RECORD 0 _ (omega arith) (ap length (empty RECORD (omega arith))) two h1 in
      let h3 : Holds v3.trees c3 = holds_more v2 v3 c2 OPENING 0 _ (omega arith) (ap length (empty OPENING (omega arith))) three h2 in
      holds_more v3 v4 c3 PROCEDURE 0 _ (omega arith) (ap length (empty PROCEDURE (omega arith))) four h3;
  only = only_again v0 v1 v4 one.only (only_again v1 v2 v4 two.only (only_again v2 v3 v4 three.only four.only));
}

pub marked_first : (c : Contents) (f : Founding) → AreEmpty c → length f.records.items ≡ length f.nodes.items → IsMarked (after_founding c f)
    (record { nodes = length f.nodes.items; procedures = length f.procedures.items; calls = 0; turns = 0; replies = 0; seals = 0 })
marked_first c f empty each = record {
  nodes = longer (c NODE) (map node_columns f.nodes.items) 0 _ (ap length (empty NODE (omega arith))) (length-map f.nodes.items node_columns) ∙ none _;
  records = longer (c RECORD) (map record_columns f.records.items) 0 _ (ap length (empty RECORD (omega arith))) (length-map f.records.items record_columns ∙ each) ∙ none _;
  procedures = longer (c PROCEDURE) (map procedure_columns f.procedures.items) 0 _ (ap length (empty PROCEDURE (omega arith))) (length-map f.procedures.items procedure_columns) ∙ none _;
  calls = ap length (empty CALL (omega arith));
  turns = ap length (empty TURN (omega arith));
  replies = ap length (empty REPLY (omega arith));
  seals = ap length (empty SEAL (omega arith));
}
  where
    none : (n : ℕ) → 0 + n ≡ n
    none n = omega arith

pub adds_all : (v0 va vb v1 v2 v3 v4 v5 v6 : View) (m : Marks) (n : News)
    → Appends v0 va NODE m.nodes (map node_columns n.nodes.items)
    → Appends va vb RECORD m.nodes (map new_columns n.nodes.items)
    → Appends vb v1 PROCEDURE m.procedures (map procedure_columns n.procedures.items)
    → Appends v1 v2 CALL m.calls (map call_columns n.calls.items)
    → Appends v2 v3 TURN m.turns (map turn_columns n.turns.items)
    → Appends v3 v4 REPLY m.replies (map reply_columns n.replies.items)
    → Appends v4 v5 SEAL m.seals (map seal_columns n.seals.items)
    → Changes v5 v6 (m.nodes + length n.nodes.items) n.records.items → Adds v0 v6 m n
adds_all v0 va vb v1 v2 v3 v4 v5 v6 m n a b one two three four five six = record {
  holds = λ c marked holds.
      let ca : Contents = with_more c NODE (map node_columns n.nodes.items) in
      let cb : Contents = with_more ca RECORD (map new_columns n.nodes.items) in
      let c1 : Contents = with_more cb PROCEDURE (map procedure_columns n.procedures.items) in
      let c2 : Contents = with_more c1 CALL (map call_columns n.calls.items) in
      let c3 : Contents = with_more c2 TURN (map turn_columns n.turns.items) in
      let c4 : Contents = with_more c3 REPLY (map reply_columns n.replies.items) in
      let c5 : Contents = with_more c4 SEAL (map seal_columns n.seals.items) in
      let ha : Holds va.trees ca = holds_more v0 va c NODE m.nodes _ (omega arith) marked.nodes a holds in
      let hb : Holds vb.trees cb = holds_more va vb ca RECORD m.nodes _ (omega arith) marked.records b ha in
      let h1 : Holds v1.trees c1 = holds_more vb v1 cb PROCEDURE m.procedures _ (omega arith) marked.procedures one hb in
      let h2 : Holds v2.trees c2 = holds_more v1 v2 c1 CALL m.calls _ (omega arith) marked.calls two h1 in
      let h3 : Holds v3.trees c3 = holds_more v2 v3 c2 TURN m.turns _ (omega arith) marked.turns three h2 in
      let h4 : Holds v4.trees c4 = holds_more v3 v4 c3 REPLY m.replies _ (omega arith) marked.replies four h3 in
      let h5 : Holds v5.trees c5 = holds_more v4 v5 c4 SEAL m.seals _ (omega arith) marked.seals five h4 in
      holds_changed v5 v6 c5 (m.nodes + length n.nodes.items) n.records.items
      (longer (c RECORD) (map new_columns n.nodes.items) _ _ marked.records (length-map n.nodes.items new_columns)) six h5;
  only = only_again v0 va v6 a.only (only_again va vb v6 b.only (only_again vb v1 v6 one.only
      (only_again v1 v2 v6 two.only (only_again v2 v3 v6 three.only (only_again v3 v4 v6 four.only (only_again v4 v5 v6 five.only six.only))))));
}

-- ---- records in the place of others

pub changes_more : (rows : List Row) (changed : List ChangedRecord) (x : ChangedRecord)
    → with_changes rows (changed ++ x ∷ []) ≡ slice_set (with_changes rows changed) x.node (record_columns x.row)
changes_more rows [] x = refl
changes_more rows (y ∷ changed) x = changes_more (slice_set rows y.node (record_columns y.row)) changed x

pub changes_length : (rows : List Row) (changed : List ChangedRecord) → length (with_changes rows changed) ≡ length rows
changes_length rows [] = refl
changes_length rows (y ∷ changed) = changes_length (slice_set rows y.node (record_columns y.row)) changed ∙ length-set rows y.node (record_columns y.row)

pub changes_none : (v : View) (nodes : ℕ) → Changes v v nodes []
changes_none v nodes = record { tree = λ rows long is. is; others = λ t other. refl; only = refl }

-- ---- how many rows there are then

pub marked_after : (c : Contents) (n : News) (m : Marks) → IsMarked c m → IsMarked (after_news c n) (record {
  nodes = m.nodes + length n.nodes.items;
  procedures = m.procedures + length n.procedures.items;
  calls = m.calls + length n.calls.items;
  turns = m.turns + length n.turns.items;
  replies = m.replies + length n.replies.items;
  seals = m.seals + length n.seals.items;
})
marked_after c n m marked = record {
  nodes = longer (c NODE) (map node_columns n.nodes.items) _ _ marked.nodes (length-map n.nodes.items node_columns);
  records = changes_length (c RECORD ++ map new_columns n.nodes.items) n.records.items ∙ longer (c RECORD) (map new_columns n.nodes.items) _ _ marked.records (length-map n.nodes.items new_columns);
  procedures = longer (c PROCEDURE) (map procedure_columns n.procedures.items) _ _ marked.procedures (length-map n.procedures.items procedure_columns);
  calls = longer (c CALL) (map call_columns n.calls.items) _ _ marked.calls (length-map n.calls.items call_columns);
  turns = longer (c TURN) (map turn_columns n.turns.items) _ _ marked.turns (length-map n.turns.items turn_columns);
  replies = longer (c REPLY) (map reply_columns n.replies.items) _ _ marked.replies (length-map n.replies.items reply_columns);
  seals = longer (c SEAL) (map seal_columns n.seals.items) _ _ marked.seals (length-map n.seals.items seal_columns);
}

pub change_more : (old mid new : View) (nodes : ℕ) (changed : List ChangedRecord) (x : ChangedRecord) → x.node < nodes → Changes old mid nodes changed
    → SetsTree mid new RECORD (put_row (Int (pos x.node) ∷ record_columns x.row)) → Changes old new nodes (changed ++ x ∷ [])
change_more old mid new nodes changed x inside so_far sets =
    let put : Trees → View = λ t. record mid { trees = t; cursors = new.cursors } in
    let trees : new.trees ≡ with_tree mid.trees RECORD (put_row (Int (pos x.node) ∷ record_columns x.row) (mid.trees RECORD)) = ap (λ v. v.trees) sets.is in record {
      tree = λ rows long is.
          ap (λ f. f RECORD) trees
          ∙ ap (put_row (Int (pos x.node) ∷ record_columns x.row)) (so_far.tree rows long is)
          ∙ put_row-at 0 (with_changes rows changed) (record_columns x.row) x.node x.node (let e = changes_length rows changed in omega (arith, inside, long, e)) (omega arith)
          ∙ ap (rows_from 0) (sym (changes_more rows changed x));
      others = λ t other. ap (λ f. f t) trees ∙ rw (ne_eqb t RECORD other) (so_far.others t other);
      only = only_again old mid new so_far.only (sets.is ∙ ap put (sym trees));
    }
