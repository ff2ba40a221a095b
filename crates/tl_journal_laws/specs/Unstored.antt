-- What isn't stored yet, as rows that lead a store from one core to another.
use Rattle.std.specs.Prelude.{◌≡◌, ◌<◌, ◌^◌, Bool, true, false, List, [], ◌∷◌, ◌++◌, All, map, length, if◌then◌else◌}
use Rattle.tl_core.specs.Cores.{CoreValue, opened_after}
use Rattle.tl_table.specs.Epochs.{EpochValue, seen}
use Rattle.tl_ledger.specs.declared.committing.Marks.{Marks}
use Rattle.tl_ledger.specs.declared.rows.ChangedRecord.{ChangedRecord}
use Rattle.tl_ledger.specs.declared.schema.TheConstants.{RECORD}
use Rattle.tl_ledger.specs.Contents.{Contents}
use Rattle.tl_ledger.specs.News.{IsMarked, new_columns}
use Rattle.tl_pending.specs.declared.pending.Pending.{Pending}
use Rattle.tl_rows.specs.Batches.{batch_of, after_batch}
use Rattle.tl_store_laws.specs.Growing.{IsLedgerOf}
use Rattle.tl_store_history.specs.History.{PastEpoch, HasHistory}
use Rattle.tl_tree.specs.Trees.{TreeValue}
use Rattle.tl_recover.specs.Later.{Later}

-- no number of rows reaches its limit
pub record AreFew (m : Marks) : Type 0 where
  pub procedures : m.procedures < 2 ^ 62
  pub calls : m.calls < 2 ^ 62
  pub turns : m.turns < 2 ^ 62
  pub replies : m.replies < 2 ^ 62
  pub seals : m.seals < 2 ^ 62

-- Once what is pending is stored behind these contents, they are those of the core.
pub record IsPendingOf (c : Contents) (p : Pending) (v : CoreValue) : Type 0 where
  pub ledger : IsLedgerOf (after_batch c (batch_of p.news)) v
  pub marked : IsMarked (after_batch c (batch_of p.news)) p.rows
  pub records : p.records.items ≡ v.opening
  pub inside : All (λ (x : ChangedRecord). x.node < length (c RECORD ++ map new_columns p.news.nodes.items)) p.news.records.items

-- Once what is pending is stored behind these contents, they have this history, and behind it the rows of the core.
pub record IsPendingBehind (c : Contents) (p : Pending) (t : TreeValue) (es : List PastEpoch) (v : CoreValue) : Type 0 where
  pub pending : IsPendingOf c p v
  pub history : HasHistory (after_batch c (batch_of p.news)) t es v

-- the core after an epoch was read: the next one's, if it is over
abbrev pub core_after : Bool → CoreValue → CoreValue
core_after is_over w = if is_over then (opened_after w).seen else w

-- the first of these epochs is that of v at a later time, and each other one takes over from the one before it; the current one is the last
abbrev pub AreLater : CoreValue → List EpochValue → EpochValue → Type 0
AreLater v [] current = Later v (seen current)
AreLater v (e ∷ es) current = Later v (seen e) × AreLater (opened_after (seen e)).seen es current

-- the cores of the epochs that are over: all of these, and the current one if it is over too
abbrev pub over_cores : Bool → List EpochValue → EpochValue → List CoreValue
over_cores true unread current = map seen (unread ++ current ∷ [])
over_cores false unread current = map seen unread

abbrev pub core_of : PastEpoch → CoreValue
core_of e = e.core
