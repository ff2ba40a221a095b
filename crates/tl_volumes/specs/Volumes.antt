-- A store in volumes: each begins with what the one before left.
use Rattle.std.specs.Prelude.{◌≡◌, ◌<◌, ℕ, Bool, true, false, List, All, map, pos}
use Rattle.tl_tree.specs.Trees.{TreeValue}
use Rattle.tl_procedures.specs.Names.{Named}
use Rattle.tl_ledger.specs.declared.founding.Founding.{Founding}
use Rattle.tl_ledger.specs.Contents.{Contents}
use Rattle.tl_rows.specs.Rows.{parent_in, fields_in, procedure_form, named_form}
use Rattle.tl_store.specs.Left.{HasLeft}

-- the first contents of a volume: this tree, all of whose nodes exist from its epoch 0 on, and these procedures
pub record IsOpening (t : TreeValue) (procedures : List Named) (first : Founding) : Type 0 where
  pub parents : map parent_in first.nodes.items ≡ map pos t.parents
  pub epoch : All (λ r. r.epoch ≡ pos 0) first.nodes.items
  pub records : map fields_in first.records.items ≡ t.records
  pub known : map procedure_form first.procedures.items ≡ map named_form procedures

-- The volume before has a tree and procedures, and no call that isn't sealed; the first contents of the next one are these.
pub record Carries (before : Contents) (first : Founding) : Type 0 where
  pub tree : TreeValue
  pub procedures : List Named
  pub left : HasLeft before tree procedures
  pub opening : IsOpening tree procedures first

-- Only the highest volume may not have been begun: which ones were, by number.
pub record AreBegunBelow (highest : ℕ) (begun : ℕ → Bool) : Type 0 where
  pub below : (n : ℕ) → n < highest → begun n ≡ true
  pub above : (n : ℕ) → highest < n → begun n ≡ false

-- the store goes on in the last volume that was begun
pub record IsLive (begun : ℕ → Bool) (n : ℕ) : Type 0 where
  pub is_begun : begun n ≡ true
  pub last : (m : ℕ) → n < m → begun m ≡ false
