-- What is read of a store before its epochs are taken again.
use Rattle.std.specs.Prelude.{◌≡◌, List, All, map, length}
use Rattle.tl_ledger.specs.declared.rows.RecordRow.{RecordRow}
use Rattle.tl_ledger.specs.declared.rows.TheConstants.{FIELDS}
use Rattle.tl_ledger.specs.declared.schema.TheConstants.{NODE, RECORD, SEAL, OPENING}
use Rattle.tl_ledger.specs.Contents.{Contents}
use Rattle.tl_ledger.specs.News.{IsMarked, node_columns, record_columns, seal_columns}
use Rattle.tl_store.specs.Stored.{IsReadable}
use Rattle.tl_store_history.specs.History.{AreOfEntries}
use Rattle.tl_export.specs.declared.plan.Plan.{Plan}

-- these are the store's counts, nodes, seals, and records at the opening and at the last seal
pub record IsPlanOf (c : Contents) (p : Plan) : Type 0 where
  pub marked : IsMarked c p.marks
  pub nodes : c NODE ≡ map node_columns p.nodes.items
  pub seals : c SEAL ≡ map seal_columns p.seals.items
  pub opening : c OPENING ≡ map record_columns p.opening.items
  pub records : c RECORD ≡ map record_columns p.records.items

-- All tables can be read, and not only what is behind the last seal: their rows are those of entries.
pub record CanBeExported (c : Contents) : Type 0 where
  pub readable : IsReadable c
  pub entries : AreOfEntries c
  pub opening : List RecordRow
  pub wide : All (λ r. length r.fields ≡ FIELDS) opening
  pub opening_are : c OPENING ≡ map record_columns opening
