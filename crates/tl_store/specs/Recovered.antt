-- A core that is rebuilt from the rows of a store.
use Rattle.std.specs.Prelude.{◌≡◌, ℕ, ◌<◌, ◌≤◌, ℤ, pos, List, [], ◌++◌, All, map, length, reverse, true, Some, slice_get, string_bytes}
use Rattle.tl_tree_locking.specs.History.{caller, is_done, AllDone}
use Rattle.tl_tree_locking.specs.World.{reply_of}
use Rattle.tl_procedures.specs.Names.{Named, number_of, latest, MayPutAll}
use Rattle.tl_core.specs.Cores.{CoreValue, call_of, world_of}
use Rattle.tl_core.specs.Entries.{procedure_at}
use Rattle.tl_json.specs.Procedures.{AreAccepted}
use Rattle.tl_ledger.specs.Contents.{Contents}
use Rattle.tl_recover.specs.Later.{Later}
use Rattle.tl_ledger.specs.declared.rows.CallRow.{CallRow}
use Rattle.tl_ledger.specs.declared.rows.ReplyRow.{ReplyRow}
use Rattle.tl_store.specs.declared.stored.Stored.{Stored}
use Rattle.tl_rows.specs.Rows.{numbers_in, parent_in, fields_in, procedure_form, named_form, AreLatest, AreNumbered, turn_bytes, all_turn_bytes, IsTurnRow}
use Rattle.tl_store.specs.Stored.{AreStored}

-- call n is of the row's procedure with its arguments
pub record IsCallOf (v : CoreValue) (n : ℕ) (row : CallRow) : Type 0 where
  pub procedure : number_of v.procedures (string_bytes row.procedure) ≡ Some (call_of v n).procedure
  pub code : (call_of v n).code ≡ (procedure_at v (call_of v n).procedure).code
  pub args : numbers_in (string_bytes row.arguments) ≡ Some (call_of v n).args

-- the row has the reply of a done call of this epoch
pub record IsReplyOf (v : CoreValue) (epoch : ℤ) (row : ReplyRow) : Type 0 where
  pub epoch_is : row.epoch ≡ epoch
  pub call : ℕ
  pub call_is : row.call ≡ pos call
  pub known : call < length v.calls
  pub done : is_done call v.past ≡ true
  pub reply : numbers_in (string_bytes row.reply) ≡ Some (reply_of (world_of v) call)

-- the core has the stored tree, records and procedures, and no calls yet
pub record IsOpened (s : Stored) (v : CoreValue) : Type 0 where
  pub parents : map pos v.parents ≡ map parent_in s.nodes.items
  pub opening : v.opening ≡ map fields_in s.records.items
  pub procedures : AreLatest s.procedures.items v.procedures
  pub calls : v.calls ≡ []
  pub past : v.past ≡ []

-- The core has the stored tree, records and procedures. Its calls are the first ones stored, its first turns are the
-- stored ones, and each stored reply is that of its call. All its calls are done.
pub record IsRebuilt (s : Stored) (v : CoreValue) : Type 0 where
  pub parents : map pos v.parents ≡ map parent_in s.nodes.items
  pub opening : v.opening ≡ map fields_in s.records.items
  pub procedures : AreLatest s.procedures.items v.procedures
  pub epoch : All (λ r. r.epoch ≡ pos s.marks.seals) s.calls.items × All (λ r. r.epoch ≡ pos s.marks.seals) s.turns.items
  pub numbered : AreNumbered s.calls.items
  pub few : length v.calls ≤ length s.calls.items
  pub calls : (n : ℕ) (row : CallRow) → n < length v.calls → slice_get s.calls.items n ≡ Some row → IsCallOf v n row
  pub turns : List ℕ
  pub turns_are : all_turn_bytes s.turns.items ≡ turn_bytes turns
  pub later : List ℕ
  pub past : map caller v.past ≡ later ++ reverse turns
  pub replies : All (IsReplyOf v (pos s.marks.seals)) s.replies.items
  pub at_rest : AllDone v.past

-- The rows are those of this core: of its tree, its procedures, its calls and the turns that they took, and replies of its
-- calls. Its procedures were put one after another, each of an accepted code and under a name that was allowed.
pub record AreOfCore (s : Stored) (v : CoreValue) : Type 0 where
  pub parents : map parent_in s.nodes.items ≡ map pos v.parents
  pub records : map fields_in s.records.items ≡ v.opening
  pub all : List Named
  pub procedures : map procedure_form s.procedures.items ≡ map named_form all
  pub latest_are : v.procedures ≡ latest [] all
  pub allowed : MayPutAll [] all
  pub accepted : AreAccepted all
  pub epoch : All (λ r. r.epoch ≡ pos s.marks.seals) s.calls.items
  pub numbered : AreNumbered s.calls.items
  pub many : length s.calls.items ≡ length v.calls
  pub calls : (n : ℕ) (row : CallRow) → slice_get s.calls.items n ≡ Some row → IsCallOf v n row
  pub turn_rows : All (IsTurnRow (pos s.marks.seals)) s.turns.items
  pub turns : all_turn_bytes s.turns.items ≡ turn_bytes (reverse (map caller v.past))
  pub replies : All (IsReplyOf v (pos s.marks.seals)) s.replies.items

-- the rows that a store with these contents has after its last seal are those of this core
abbrev pub IsStoreOf : Contents → CoreValue → Type 0
IsStoreOf c v = (rows : Stored) → AreStored c rows → AreOfCore rows v

-- the core w is v at a later time, with the same procedures, when all its calls are done
pub record IsMadeAgain (v w : CoreValue) : Type 0 where
  pub later : Later v w
  pub procedures : w.procedures ≡ v.procedures
  pub at_rest : AllDone w.past

-- the core is rebuilt from the rows that a store with these contents has after its last seal
pub record IsRecovered (c : Contents) (v : CoreValue) : Type 0 where
  pub rows : Stored
  pub stored : AreStored c rows
  pub rebuilt : IsRebuilt rows v
