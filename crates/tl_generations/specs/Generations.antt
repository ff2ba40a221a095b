-- A sequence of closed tables. Each starts from what its predecessor left, possibly with nodes appended to the tree and with procedures replaced.
use Rattle.std.specs.Prelude.{◌≡◌, ℕ, ℤ, List, [], ◌∷◌, ◌++◌, length, map}
use Rattle.tl_tree.specs.Records.{Records}
use Rattle.tl_tree_locking.specs.Alone.{Outcome, SerialOutcome}
use Rattle.tl_tree_locking.specs.Epochs.{run_each, joined, joined_replies}
use Rattle.tl_procedures.specs.Names.{Named, BeginsWith, AreKnown, replaced}
use Rattle.tl_table.specs.Epochs.{EpochValue, seen}
use Rattle.tl_table.specs.Tables.{epoch_world, records_after, procedures_after, IsChain}
use Rattle.tl_table.specs.Chains.{epoch_order}
use Rattle.tl_generations.specs.Growth.{CanGrow, with_zeros}

-- what a closed table leaves to the next one: a tree and procedures
pub record LegacyValue : Type 0 where
  pub parents : List ℕ
  pub records : Records
  pub procedures : List Named

-- the same with appended nodes, which have these parents and records of zeros
abbrev pub grown : LegacyValue → List ℕ → LegacyValue
grown l added = record { parents = l.parents ++ added; records = with_zeros (length added) l.records; procedures = l.procedures }

-- the same with these procedures in the place of those with their names
abbrev pub with_replaced : LegacyValue → List Named → LegacyValue
with_replaced l others = record { parents = l.parents; records = l.records; procedures = replaced l.procedures others }

-- These procedures took the place of those with their names.
pub record IsReplaced (old : LegacyValue) (others : List Named) (new : LegacyValue) : Type 0 where
  pub known : AreKnown old.procedures others
  pub same : new ≡ with_replaced old others

-- Nodes with these parents were appended; the first of them has the number `first`.
pub record IsGrown (old : LegacyValue) (integers : List ℤ) (first : ℕ) (new : LegacyValue) : Type 0 where
  pub added : List ℕ
  pub tree : CanGrow old.parents integers added
  pub number : first ≡ length old.parents
  pub same : new ≡ grown old added

-- the epoch opens with this tree and has these procedures first
pub record TakesUp (l : LegacyValue) (e : EpochValue) : Type 0 where
  pub parents : (seen e).parents ≡ l.parents
  pub opening : (seen e).opening ≡ l.records
  pub procedures : BeginsWith l.procedures (seen e).procedures

-- the first epoch of a closed table starts from this legacy
abbrev pub TakesUpFirst : LegacyValue → List EpochValue → Type 0
TakesUpFirst l [] = ⊥
TakesUpFirst l (e ∷ es) = TakesUp l e

-- the legacy that these epochs leave
abbrev pub legacy_after : LegacyValue → List EpochValue → LegacyValue
legacy_after l es =
    record { parents = l.parents; records = records_after l.records es; procedures = procedures_after l.procedures es }

-- a closed table: the parents of the nodes that were appended before it, the procedures that took the place of others before it,
-- and its epochs
pub record GenerationValue : Type 0 where
  pub added : List ℕ
  pub others : List Named
  pub epochs : List EpochValue

-- what the table starts from, if the one before it left l
abbrev pub start_of : LegacyValue → GenerationValue → LegacyValue
start_of l g = with_replaced (grown l g.added) g.others

-- the legacy that the table leaves
abbrev pub left_by : LegacyValue → GenerationValue → LegacyValue
left_by l g = legacy_after (start_of l g) g.epochs

-- Each closed table starts from what its predecessor left, with its own appended nodes and replaced procedures; the first one
-- starts from l with its own.
abbrev pub AreGenerations : LegacyValue → List GenerationValue → Type 0
AreGenerations l [] = Unit {0}
AreGenerations l (g ∷ gs) = IsChain g.epochs × TakesUpFirst (start_of l g) g.epochs × AreGenerations (left_by l g) gs

-- the legacy that the last table leaves
abbrev pub legacy_of : LegacyValue → List GenerationValue → LegacyValue
legacy_of l [] = l
legacy_of l (g ∷ gs) = legacy_of (left_by l g) gs

-- the epochs of all tables, one after another
abbrev pub epochs_of : List GenerationValue → List EpochValue
epochs_of [] = []
epochs_of (g ∷ gs) = g.epochs ++ epochs_of gs

-- the parents of all appended nodes
abbrev pub added_by : List GenerationValue → List ℕ
added_by [] = []
added_by (g ∷ gs) = g.added ++ added_by gs

-- ---- all calls, run alone

-- the meanings of these epochs' calls, in their joined orders
abbrev pub calls_of : List EpochValue → List (Records → Outcome)
calls_of es = joined (map epoch_world es) (map epoch_order es)

-- the replies of these calls, in the same order
abbrev pub replies_of : List EpochValue → List (List ℤ)
replies_of es = joined_replies (map epoch_world es) (map epoch_order es)

-- runs all calls alone, one after another; before the calls of each table, records of zeros are appended for that table's new nodes
abbrev pub run_generations : List GenerationValue → Records → SerialOutcome
run_generations [] records = record { tree = records; replies = [] }
run_generations (g ∷ gs) records =
    let own = run_each (calls_of g.epochs) (with_zeros (length g.added) records) in
    let later = run_generations gs own.tree in
    record { tree = later.tree; replies = own.replies ++ later.replies }

-- This run leaves the last table's records, and each call gives the reply that it gave.
pub record AreSerialFrom (l : LegacyValue) (gs : List GenerationValue) : Type 0 where
  pub tree : (run_generations gs l.records).tree ≡ (legacy_of l gs).records
  pub replies : (run_generations gs l.records).replies ≡ replies_of (epochs_of gs)

-- If all calls of these epochs run alone one after another in these orders, starting from `opening`, they leave the last
-- epoch's records, and each call gives the reply that it gave.
pub record IsSerialFrom (opening : Records) (es : List EpochValue) (orders : List (List ℕ)) : Type 0 where
  pub tree : (run_each (joined (map epoch_world es) orders) opening).tree ≡ records_after opening es
  pub replies : (run_each (joined (map epoch_world es) orders) opening).replies ≡ joined_replies (map epoch_world es) orders

-- ---- a line of closed tables that goes on

-- the legacy before any call, and the current one
pub record SuccessionValue : Type 0 where
  pub first : LegacyValue
  pub last : LegacyValue

-- closed tables lead from the first legacy to the last; at the end, nodes may have been appended and procedures replaced once more
pub record IsSuccession (first last : LegacyValue) : Type 0 where
  pub tables : List GenerationValue
  pub added : List ℕ
  pub others : List Named
  pub generations : AreGenerations first tables
  pub left : with_replaced (grown (legacy_of first tables) added) others ≡ last

-- a table with these epochs started from the last legacy, and the new last legacy is what they leave
abbrev pub TakesTurn : SuccessionValue → List EpochValue → SuccessionValue → Type 0
TakesTurn old es new = TakesUpFirst old.last es × (new.first ≡ old.first) × (new.last ≡ legacy_after old.last es)
