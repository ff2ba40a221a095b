-- What a store has where a server has ended in order.
use Rattle.std.specs.Prelude.{◌≡◌, pos, List, [], map}
use Rattle.tl_tree.specs.Trees.{TreeValue}
use Rattle.tl_procedures.specs.Names.{Named}
use Rattle.tl_ledger.specs.Contents.{Contents}
use Rattle.tl_store.specs.declared.stored.Stored.{Stored}
use Rattle.tl_rows.specs.Rows.{parent_in, fields_in, AreLatest}
use Rattle.tl_store.specs.Stored.{AreStored}

-- the rows have this tree and these procedures, and no call after the last seal
pub record IsLeft (s : Stored) (t : TreeValue) (procedures : List Named) : Type 0 where
  pub parents : map pos t.parents ≡ map parent_in s.nodes.items
  pub records : t.records ≡ map fields_in s.records.items
  pub known : AreLatest s.procedures.items procedures
  pub calls : s.calls.items ≡ []
  pub turns : s.turns.items ≡ []
  pub replies : s.replies.items ≡ []

-- the same of a store with these contents
pub record HasLeft (c : Contents) (t : TreeValue) (procedures : List Named) : Type 0 where
  pub rows : Stored
  pub stored : AreStored c rows
  pub left : IsLeft rows t procedures
