-- Rows that are added behind others, and all of them together.
use Rattle.std.proofs.Common.{◌≡◌, ◌≢◌, ℕ, zero, suc, ◌+◌, ◌<◌, ◌≤◌, List, [], ◌∷◌, ◌++◌, length, map, set, get_or, refl, sym, ap, ap₂, ◌∙◌, subst, arith}
use Rattle.std.specs.Prelude.{All, slice_set}
use Rattle.std.proofs.lemmas.List.{append-nil, append_assoc, length-append, length-map, map-append, length-set}
use Rattle.std.proofs.lemmas.List.Elements.{All-head, All-tail}
use Rattle.sqlite_value.specs.Order.{Row}
use Rattle.tl_ledger.specs.declared.rows.ChangedRecord.{ChangedRecord}
use Rattle.tl_ledger.specs.declared.schema.TheConstants.{NODE, RECORD, PROCEDURE, CALL, TURN, REPLY, SEAL}
use Rattle.tl_ledger.specs.Contents.{Contents}
use Rattle.tl_ledger.specs.News.{node_columns, new_columns, record_columns, procedure_columns, call_columns, turn_columns, reply_columns, seal_columns, with_changes}
use Rattle.tl_rows.specs.Batches.{Batch, joined, after_batch}

behind : {A B : Type 0} (f : A → B) (c : List B) (xs ys : List A) → c ++ map f (xs ++ ys) ≡ (c ++ map f xs) ++ map f ys
behind f c xs ys = ap (λ l. c ++ l) (map-append f xs ys) ∙ sym (append_assoc c (map f xs) (map f ys))

changes_joined : (rows : List Row) (xs ys : List ChangedRecord) → with_changes rows (xs ++ ys) ≡ with_changes (with_changes rows xs) ys
changes_joined rows [] ys = refl
changes_joined rows (x ∷ xs) ys = changes_joined (slice_set rows x.node (record_columns x.row)) xs ys

set_front : (rows more : List Row) (n : ℕ) (x : Row) → n < length rows → slice_set (rows ++ more) n x ≡ slice_set rows n x ++ more
set_front [] more n x inside = absurd (omega arith)
set_front (r ∷ rows) more zero x inside = refl
set_front (r ∷ rows) more (suc n) x inside = ap (λ l. r ∷ l) (set_front rows more n x (omega arith))

changes_front : (rows more : List Row) (xs : List ChangedRecord) → All (λ (x : ChangedRecord). x.node < length rows) xs → with_changes (rows ++ more) xs ≡ with_changes rows xs ++ more
changes_front rows more [] inside = refl
changes_front rows more (x ∷ xs) inside =
    let first = All-head (λ (y : ChangedRecord). y.node < length rows) x xs inside in
    let rest = All-tail (λ (y : ChangedRecord). y.node < length rows) x xs inside in
    let long = length-set rows x.node (record_columns x.row) in
    ap (λ l. with_changes l xs) (set_front rows more x.node (record_columns x.row) first)
    ∙ changes_front (slice_set rows x.node (record_columns x.row)) more xs (λ k d less. (let h = rest k d less in omega (arith, h, long)))

-- each table, where the changes of the first are of nodes that there are then
module _ (c : Contents) (a b : Batch) (inside : All (λ (x : ChangedRecord). x.node < length (c RECORD ++ map new_columns a.nodes)) a.records) where
  abbrev once : Contents
  once = after_batch c (joined a b)

  abbrev twice : Contents
  twice = after_batch (after_batch c a) b

  pub same_nodes : once NODE ≡ twice NODE
  same_nodes = behind node_columns (c NODE) a.nodes b.nodes

  pub same_procedures : once PROCEDURE ≡ twice PROCEDURE
  same_procedures = behind procedure_columns (c PROCEDURE) a.procedures b.procedures

  pub same_calls : once CALL ≡ twice CALL
  same_calls = behind call_columns (c CALL) a.calls b.calls

  pub same_turns : once TURN ≡ twice TURN
  same_turns = behind turn_columns (c TURN) a.turns b.turns

  pub same_replies : once REPLY ≡ twice REPLY
  same_replies = behind reply_columns (c REPLY) a.replies b.replies

  pub same_seals : once SEAL ≡ twice SEAL
  same_seals = behind seal_columns (c SEAL) a.seals b.seals

  pub same_records : once RECORD ≡ twice RECORD
  same_records =
      ap (λ l. with_changes l (a.records ++ b.records)) (behind new_columns (c RECORD) a.nodes b.nodes)
      ∙ changes_joined ((c RECORD ++ map new_columns a.nodes) ++ map new_columns b.nodes) a.records b.records
      ∙ ap (λ l. with_changes l b.records) (changes_front (c RECORD ++ map new_columns a.nodes) (map new_columns b.nodes) a.records inside)
