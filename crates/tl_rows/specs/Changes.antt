-- Records that have changed.
use Rattle.std.specs.Prelude.{◌≡◌, ◌<◌, ◌⊎◌, ℕ, List, length, All, Contains}
use Rattle.tl_tree.specs.Records.{Records, record_at}
use Rattle.tl_ledger.specs.declared.rows.ChangedRecord.{ChangedRecord}

-- the change of a node to its current record
abbrev pub change_to : Records → ℕ → ChangedRecord
change_to now x = record { node = x; row = record { fields = record_at now x } }

-- the node existed before, and its record hasn't changed
pub record Stays (before now : Records) (x : ℕ) : Type 0 where
  pub known : x < length before
  pub same : record_at before x ≡ record_at now x

-- the change is that of a node to its current record
pub record IsChange (now : Records) (c : ChangedRecord) : Type 0 where
  pub inside : c.node < length now
  pub same : c ≡ change_to now c.node

-- Each change is to a current record. Each of the first n nodes has the record that it had before, or its change is among these.
pub record LeadsBelow (n : ℕ) (before now : Records) (changes : List ChangedRecord) : Type 0 where
  pub each : All (IsChange now) changes
  pub others : (x : ℕ) → x < n → Stays before now x ⊎ Contains changes (change_to now x)

-- the same for all nodes
abbrev pub Leads : Records → Records → List ChangedRecord → Type 0
Leads before now changes = LeadsBelow (length now) before now changes
