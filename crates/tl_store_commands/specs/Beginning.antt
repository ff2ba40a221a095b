-- The state with which a server with a store begins.
use Rattle.std.specs.Prelude.{◌≡◌, ◌<◌, ◌≤◌, ◌^◌, ◌⊎◌, ℕ, pos, [], All, length, map}
use Rattle.tl_width.specs.Fields.{field_count}
use Rattle.tl_ledger.specs.declared.schema.TheConstants.{NAME}
use Rattle.sqlite_trees.specs.Tree.{Trees}
use Rattle.tl_tree.specs.Trees.{TreeValue}
use Rattle.tl_core.specs.Cores.{CoreValue, CoreState, opened, opened_after}
use Rattle.tl_history.specs.declared.history.TheConstants.{MAX_EVENTS}
use Rattle.tl_ledger.specs.declared.committing.Marks.{Marks}
use Rattle.tl_ledger.specs.declared.founding.Founding.{Founding}
use Rattle.tl_ledger.specs.declared.news.News.{News}
use Rattle.tl_ledger.specs.Contents.{Contents, Holds, no_contents}
use Rattle.tl_ledger.specs.News.{IsMarked, after_news, after_founding}
use Rattle.tl_store.specs.declared.stored.Stored.{Stored}
use Rattle.tl_rows.specs.Rows.{parent_in, fields_in}
use Rattle.tl_store.specs.Stored.{AreStored}
use Rattle.tl_store.specs.Recovered.{IsRebuilt, IsMadeAgain}
use Rattle.tl_store.specs.Closing.{IsClosing}
use Rattle.tl_store_laws.specs.Growing.{IsLedgerOf}

-- the first contents have the tree, whose nodes exist from epoch 0 on, and no procedures
pub record IsFirst (t : TreeValue) (first : Founding) : Type 0 where
  pub parents : map parent_in first.nodes.items ≡ map pos t.parents
  pub epoch : All (λ r. r.epoch ≡ pos 0) first.nodes.items
  pub records : map fields_in first.records.items ≡ t.records
  pub procedures : first.procedures.items ≡ []

-- The core is that of the tree, without procedures and calls, and the store has its rows.
pub record BeginsWith (t : TreeValue) (core : CoreState) (committed : Trees) : Type 0 where
  pub core_is : core ≡ opened t [] MAX_EVENTS
  pub first : Founding
  pub is_first : IsFirst t first
  pub holds : Holds committed (after_founding no_contents first)
  pub rows : IsLedgerOf (after_founding no_contents first) core.seen

-- the contents after the rows that close the epoch of replayed calls; unchanged if no calls were stored
abbrev pub IsClosed : Stored → CoreValue → Contents → Contents → Type 0
IsClosed rows last before now =
    ((rows.calls.items ≡ []) × (now ≡ before))
    ⊎ ((news : News) × IsClosing rows last news × (now ≡ after_news before news))

-- the core follows the one rebuilt from the rows after the last seal, and the rows that close that one's epoch are stored
pub record TakesUp (before : Contents) (core : CoreState) (committed : Trees) (marks : Marks) : Type 0 where
  pub rows : Stored
  pub stored : AreStored before rows
  pub last : CoreValue
  pub rebuilt : IsRebuilt rows last
  pub next : core ≡ opened_after last
  pub now : Contents
  pub closed : IsClosed rows last before now
  pub holds : Holds committed now
  pub marked : IsMarked now marks

-- The core takes over from the core v at the end of its calls, and the store has the rows of the core that takes over.
pub record Resumes (v : CoreValue) (core : CoreState) (committed : Trees) (marks : Marks) : Type 0 where
  pub last : CoreValue
  pub made : IsMadeAgain v last
  pub next : core ≡ opened_after last
  pub now : Contents
  pub holds : Holds committed now
  pub marked : IsMarked now marks
  pub rows : IsLedgerOf now core.seen

-- no table has more than 2^62 rows, and each record of the core has all fields
pub record IsOfSize (c : Contents) (v : CoreValue) : Type 0 where
  pub few : (t : ℕ) → t < NAME → length (c t) ≤ 2 ^ 62
  pub wide : All (λ fields. length fields ≡ field_count) v.opening
