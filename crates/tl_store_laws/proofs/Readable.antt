-- Contents that have the rows of a core can be read.
use Rattle.std.proofs.Common.{◌≡◌, ℕ, ◌<◌, ◌≤◌, ◌^◌, length, map, get_or, refl, sym, ap, ◌∙◌, subst, arith}
use Rattle.std.specs.Prelude.{All}
use Rattle.std.proofs.lemmas.List.{length-map, get_or-map}
use Rattle.tl_width.specs.Fields.{field_count}
use Rattle.tl_core.specs.Cores.{CoreValue}
use Rattle.tl_core.specs.Reached.{IsReached}
use Rattle.tl_ledger.specs.declared.rows.RecordRow.{RecordRow}
use Rattle.tl_ledger.specs.declared.rows.TheConstants.{FIELDS}
use Rattle.tl_ledger.specs.declared.schema.TheConstants.{NODE, RECORD, PROCEDURE, CALL, TURN, REPLY, SEAL, NAME}
use Rattle.tl_ledger.specs.Contents.{Contents}
use Rattle.tl_ledger.specs.News.{node_columns, record_columns}
use Rattle.tl_rows.specs.Rows.{parent_in, fields_in}
use Rattle.tl_store.specs.Stored.{IsReadable}
use Rattle.tl_store_laws.specs.Growing.{IsLedgerOf}

module _ (c : Contents) (v : CoreValue) (ledger : IsLedgerOf c v) (reached : IsReached v) (wide : All (λ fields. length fields ≡ field_count) v.opening) (few : (t : ℕ) → t < NAME → length (c t) ≤ 2 ^ 62) where
  record_wide : (k : ℕ) (d : RecordRow) → k < length ledger.rows.records → length (get_or ledger.rows.records k d).fields ≡ FIELDS
  record_wide k d less =
      let records = ledger.rows.records in
      let same = ledger.right.records in
      let inside : k < length v.opening = (let all = length-map records fields_in ∙ refl in let l = ap length same in omega (arith, less, all, l)) in
      let there : length (get_or v.opening k (fields_in d)) ≡ field_count = wide k (fields_in d) inside in
      ap length (sym (get_or-map fields_in records k d (fields_in d) less) ∙ ap (λ l. get_or l k (fields_in d)) same) ∙ there

  as_many : length (c RECORD) ≡ length (c NODE)
  as_many =
      let rows = ledger.rows in
      let records : length (c RECORD) ≡ length rows.records = ap length ledger.there.records ∙ length-map rows.records record_columns in
      let nodes : length (c NODE) ≡ length rows.nodes = ap length ledger.there.nodes ∙ length-map rows.nodes node_columns in
      let opening : length rows.records ≡ length v.opening = sym (length-map rows.records fields_in) ∙ ap length ledger.right.records in
      let parents : length rows.nodes ≡ length v.parents = sym (length-map rows.nodes parent_in) ∙ ap length ledger.right.parents ∙ length-map v.parents _ in
      records ∙ opening ∙ reached.sound.size ∙ sym parents ∙ sym nodes

  pub readable : IsReadable c
  readable = record {
    marks = record { nodes = length (c NODE); procedures = length (c PROCEDURE); calls = length (c CALL); turns = length (c TURN); replies = length (c REPLY); seals = length (c SEAL) };
    marked = record { nodes = refl; records = as_many; procedures = refl; calls = refl; turns = refl; replies = refl; seals = refl };
    few = few;
    nodes = ledger.rows.nodes;
    nodes_are = ledger.there.nodes;
    records = ledger.rows.records;
    wide = record_wide;
    records_are = ledger.there.records;
    procedures = ledger.rows.procedures;
    procedures_are = ledger.there.procedures;
    last = ledger.there.last;
    calls = λ s last. record { there = (ledger.there.behind s last).few_calls; entries = ledger.rows.calls; are = (ledger.there.behind s last).calls };
    turns = λ s last. record { there = (ledger.there.behind s last).few_turns; entries = ledger.rows.turns; are = (ledger.there.behind s last).turns };
    replies = λ s last. record { there = (ledger.there.behind s last).few_replies; entries = ledger.rows.replies; are = (ledger.there.behind s last).replies };
  }
