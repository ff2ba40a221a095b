-- The output about calls that are all done.
use Rattle.std.specs.Prelude.{◌≡◌, ℕ, Bool, false, List, [], ◌∷◌, map}
use Rattle.serde_json.specs.Data.{Data}
use Rattle.tl_tree.specs.Trees.{TreeValue}
use Rattle.tl_json.specs.Lists.{order_data, orders_data}
use Rattle.tl_table.specs.Epochs.{EpochValue, seen}
use Rattle.tl_table.specs.Tables.{IsChain}
use Rattle.tl_table.specs.Chains.{epoch_order, IsSerial}
use Rattle.tl_commands.specs.Scripted.{tree_now, two_lines_text}

-- The epochs follow one another and are at rest. All their calls, run alone one after another in these orders joined,
-- leave the last epoch's records and give the replies that they gave.
pub record AreOrders (es : List EpochValue) (orders : List (List ℕ)) : Type 0 where
  pub chain : IsChain es
  pub same : orders ≡ map epoch_order es
  pub serial : IsSerial es orders

-- the orders of all epochs, or the order of the first
abbrev pub orders_form : Bool → List (List ℕ) → Data
orders_form false (order ∷ orders) = order_data order
orders_form has_epochs orders = orders_data orders

-- the tree that the last epoch leaves
abbrev pub tree_after : List EpochValue → TreeValue
tree_after [] = record { parents = []; records = [] }
tree_after (e ∷ []) = tree_now (seen e)
tree_after (e ∷ f ∷ es) = tree_after (f ∷ es)

-- how many sessions had been given when the last epoch ended
abbrev pub sessions_given : List EpochValue → ℕ
sessions_given [] = 0
sessions_given (e ∷ []) = e.sessions
sessions_given (e ∷ f ∷ es) = sessions_given (f ∷ es)

-- two lines: the orders, and the final tree
pub record IsClosing (has_epochs : Bool) (es : List EpochValue) (out : List ℕ) : Type 0 where
  pub orders : List (List ℕ)
  pub ordered : AreOrders es orders
  pub same : out ≡ two_lines_text (orders_form has_epochs orders) (tree_after es)
