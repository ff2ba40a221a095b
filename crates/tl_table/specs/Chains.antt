-- The epochs of a closed table as one serial run, in their joined orders.
use Rattle.std.specs.Prelude.{◌≡◌, ℕ, List, [], ◌∷◌, ◌++◌, map}
use Rattle.tl_tree.specs.Records.{Records}
use Rattle.tl_tree_locking.specs.Epochs.{run_each, joined, joined_replies, ReachedEpochs}
use Rattle.tl_tree_locking.specs.History.{records_now}
use Rattle.tl_tree_locking.specs.Order.{placed}
use Rattle.tl_serial_order.specs.Order.{OrderValue}
use Rattle.tl_table.specs.Epochs.{EpochValue, seen}
use Rattle.tl_table.specs.Tables.{epoch_world}

abbrev pub calls_in : OrderValue → List ℕ
calls_in o = o.calls

-- the order that the epoch's history determines
abbrev pub epoch_order : EpochValue → List ℕ
epoch_order e = placed (seen e).parents (seen e).past

-- the opening records of the first epoch
abbrev pub first_opening : List EpochValue → Records
first_opening [] = []
first_opening (e ∷ es) = (seen e).opening

-- the records that the last epoch leaves
abbrev pub last_records : List EpochValue → Records
last_records [] = []
last_records (e ∷ []) = records_now (seen e).past (seen e).opening
last_records (e ∷ f ∷ es) = last_records (f ∷ es)

-- If all calls of all epochs run alone one after another in these orders, starting from the first opening records, they
-- leave the last records, and each call gives the reply that it gave.
pub record IsSerial (es : List EpochValue) (orders : List (List ℕ)) : Type 0 where
  pub tree : (run_each (joined (map epoch_world es) orders) (first_opening es)).tree ≡ last_records es
  pub replies : (run_each (joined (map epoch_world es) orders) (first_opening es)).replies ≡ joined_replies (map epoch_world es) orders

-- The epochs were reached by admissions, steps and seals: first the sealed ones, then the last one.
pub record AreReached (es : List EpochValue) : Type 0 where
  pub sealed : List EpochValue
  pub last : EpochValue
  pub epochs : es ≡ sealed ++ last ∷ []
  pub reached : ReachedEpochs (seen last).parents (first_opening es) (map epoch_world sealed) (epoch_world last)
