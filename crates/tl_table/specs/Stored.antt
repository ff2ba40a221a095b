-- How an epoch stores the sessions and ends of its calls, and how a table stores its epochs.
use Rattle.std.specs.Prelude.{◌≡◌, ℕ, ◌+◌, ◌<◌, ◌≤◌, true, List, [], length, get_or}
use Rattle.tl_history.specs.declared.history.TheConstants.{MAX_CALLS}
use Rattle.tl_tree_locking.specs.History.{is_done}
use Rattle.tl_table.specs.declared.epoch.TheConstants.{MAX_EPOCHS, MAX_SESSIONS}
use Rattle.tl_table.specs.Ends.{begun_by_end}
use Rattle.tl_tree.specs.Records.{Records}
use Rattle.tl_table.specs.Epochs.{EpochValue, seen, owner_of, IsKnown}
use Rattle.tl_table.specs.Tables.{TableValue, InLine, IsNext, records_after, procedures_after}

-- Each call has a session that was opened. For each done call the number of calls that had been admitted when it ended is
-- stored. There is memory for MAX_CALLS entries of both.
pub record IsEpoch (t : EpochValue) (begun : List ℕ) (owners_room begun_room : ℕ) : Type 0 where
  pub few : t.sessions ≤ MAX_SESSIONS
  pub owned : length t.owners ≡ length (seen t).calls
  pub given : (c : ℕ) → IsKnown t c → owner_of t c < t.sessions
  pub counted : length begun ≡ length (seen t).calls
  pub ends : (c : ℕ) → IsKnown t c → is_done c (seen t).past ≡ true → get_or begun c 0 ≡ begun_by_end c (seen t).past
  pub owners_fit : MAX_CALLS ≤ owners_room
  pub begun_fit : MAX_CALLS ≤ begun_room

-- The sealed epochs follow one another, and the current one is next. There is memory for one more closed epoch, which the current one will need.
pub record IsTable (t : TableValue) (capacity : ℕ) : Type 0 where
  pub parents : List ℕ
  pub opening : Records
  pub line : InLine 0 parents opening [] t.sealed
  pub next : IsNext (length t.sealed) parents (records_after opening t.sealed) (procedures_after [] t.sealed) t.current
  pub few : length t.sealed < MAX_EPOCHS
  pub room : length t.sealed + 1 ≤ capacity
