-- The output of the command `drive`, and its faults.
use Rattle.std.specs.Prelude.{◌≡◌, ◌≢◌, ◌⊎◌, ℕ, List, map, Ok}
use Rattle.serde_json.specs.Data.{Data}
use Rattle.tl_tree.specs.Trees.{TreeValue}
use Rattle.tl_tree.specs.Reading.{tree_of_text}
use Rattle.tl_tree_locking.specs.History.{AllDone}
use Rattle.tl_tree_locking.specs.Order.{placed}
use Rattle.tl_procedures.specs.Names.{Named}
use Rattle.tl_sources.specs.Given.{GiveAll}
use Rattle.tl_sources.specs.declared.given.Given.{Given}
use Rattle.tl_core.specs.Cores.{CoreValue, IsLeastUnfinished}
use Rattle.tl_core.specs.Entries.{Traced, after_moves}
use Rattle.tl_core.specs.declared.moves.Move.{Move}
use Rattle.tl_core.specs.declared.moves.Entry.{Entry}
use Rattle.tl_json.specs.Lists.{order_data}
use Rattle.tl_commands.specs.declared.fault.CliFault.{CliFault}
use Rattle.tl_commands.specs.Faults.{status_of}
use Rattle.tl_commands.specs.Script.{MoveValue, ScriptValue, IsScript, beside, move_view, script_of_moves}
use Rattle.tl_commands.specs.Scripted.{AreRegistered, core_with, tree_now, lines_text, IsWrongInput}
use Rattle.tl_commands.specs.Trace.{trace_data, unfinished_data}

-- the order if every call is done, otherwise the lowest unfinished call
abbrev pub IsConclusion : CoreValue → Data → Type 0
IsConclusion v d =
    (AllDone v.past × (d ≡ order_data (placed v.parents v.past)))
    ⊎ ((c : ℕ) × IsLeastUnfinished v.past c × (d ≡ unfinished_data c))

-- what a script of moves came to: the entries, and the core after the moves
pub record DrivenValue : Type 0 where
  pub entries : List Entry
  pub core : CoreValue

-- This is the result of the script's moves on this tree, with the procedures of the script and of these files.
pub record IsDriven (limit : ℕ) (tree_bytes script_bytes : List ℕ) (sources : List Given) (d : DrivenValue) : Type 0 where
  pub tree : TreeValue
  pub more : List Named
  pub given : GiveAll sources more
  pub script : ScriptValue MoveValue
  pub procedures : List Named
  pub moves : List Move
  pub tree_is : tree_of_text limit tree_bytes ≡ Ok tree
  pub script_is : IsScript (script_of_moves (beside more)) script_bytes script
  pub registered : AreRegistered script.procedures more procedures
  pub moves_are : map move_view moves ≡ script.tasks
  pub traced : Traced (core_with tree procedures) moves d.entries
  pub after : d.core ≡ after_moves (core_with tree procedures) moves d.entries

-- The output is this result.
pub record PrintsDriven (d : DrivenValue) (out : List ℕ) : Type 0 where
  pub conclusion : Data
  pub concluded : IsConclusion d.core conclusion
  pub same : out ≡ lines_text (trace_data d.entries) conclusion (tree_now d.core)

-- the first fault, or lack of memory
abbrev pub IsFirstDriveFault : ℕ → List ℕ → List ℕ → List Given → CliFault → Type 0
IsFirstDriveFault limit t s sources e = status_of e ≢ 4 → IsWrongInput limit script_of_moves t s sources e
