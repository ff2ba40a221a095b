-- What the commands `drive` and `run`, which carry out a script, have in common.
use Rattle.std.specs.Prelude.{◌≡◌, ◌⊎◌, ℕ, List, [], ◌∷◌, ◌++◌, Option}
use Rattle.serde_json.specs.Data.{Data}
use Rattle.serde_json.specs.Written.{compact_text}
use Rattle.tl_tree.specs.Trees.{TreeValue}
use Rattle.tl_tree.specs.Writing.{tree_text}
use Rattle.tl_tree.specs.declared.fault.TreeFault.{TreeFault}
use Rattle.tl_tree_locking.specs.History.{records_now}
use Rattle.tl_history.specs.declared.history.TheConstants.{MAX_EVENTS}
use Rattle.tl_procedures.specs.Names.{Named, AreFreeAfter, IsFirstRefused}
use Rattle.tl_procedures.specs.declared.fault.NamingFault.{NamingFault}
use Rattle.tl_sources.specs.Given.{GiveAll, IsFirstRefusedFile}
use Rattle.tl_sources.specs.declared.fault.RefusedFile.{RefusedFile}
use Rattle.tl_sources.specs.declared.given.Given.{Given}
use Rattle.tl_core.specs.Cores.{CoreValue}
use Rattle.tl_json.specs.Registering.{TakenUp, IsFirstUnfit}
use Rattle.tl_json.specs.declared.fault.RegisterFault.{RegisterFault}
use Rattle.tl_json.specs.declared.fault.RegisterFault.TheVariants.{Name}
use Rattle.tl_commands.specs.declared.fault.CliFault.{CliFault}
use Rattle.tl_commands.specs.declared.fault.CliFault.TheVariants.{Tree, Register, NotScript}
use Rattle.tl_commands.specs.declared.fault.CliFault.TheVariants as fault
use Rattle.tl_commands.specs.Alone.{IsTreeFile, IsTreeFault}
use Rattle.tl_commands.specs.Script.{ScriptValue, IsScript, beside}

-- a core for this tree with these procedures and without calls
abbrev pub core_with : TreeValue → List Named → CoreValue
core_with tree procedures = record {
  parents = tree.parents;
  opening = tree.records;
  procedures = procedures;
  calls = [];
  past = [];
  limit = MAX_EVENTS;
}

abbrev pub tree_now : CoreValue → TreeValue
tree_now v = record { parents = v.parents; records = records_now v.past v.opening }

-- two lines: a value and a tree
abbrev pub two_lines_text : Data → TreeValue → List ℕ
two_lines_text value tree = compact_text value ++ 10 ∷ tree_text tree ++ 10 ∷ []

-- three lines: two values and a tree
abbrev pub lines_text : Data → Data → TreeValue → List ℕ
lines_text first second tree = compact_text first ++ 10 ∷ two_lines_text second tree

-- These are the procedures of the texts, and then `more`. Each has a name that was free when it was added.
pub record AreRegistered (texts : List (List ℕ × List ℕ)) (more all : List Named) : Type 0 where
  pub own : List Named
  pub taken_up : TakenUp [] texts own
  pub free : AreFreeAfter own more
  pub same : all ≡ own ++ more

-- why not all can be registered: the first fault of the texts, or otherwise of the names of `more`
abbrev pub IsUnregistered : List (List ℕ × List ℕ) → List Named → RegisterFault → Type 0
IsUnregistered texts more f =
    IsFirstUnfit [] texts f
    ⊎ ((own : List Named) × (n : NamingFault) × TakenUp [] texts own × (f ≡ Name n) × IsFirstRefused own more n)

-- the first fault of the tree, of the script, or of the first procedure that can't be registered
abbrev pub IsWrong : {A : Type 0} → ℕ → (Data → Option (ScriptValue A)) → List ℕ → List ℕ → List Named → CliFault → Type 0
IsWrong {A} limit script_of t s more e =
    ((f : TreeFault) × (e ≡ Tree f) × IsTreeFault limit t f)
    ⊎ ((e ≡ NotScript) × IsTreeFile limit t × ((script : ScriptValue A) → ¬ IsScript script_of s script))
    ⊎ ((script : ScriptValue A) × (f : RegisterFault) × (e ≡ Register f) × IsTreeFile limit t × IsScript script_of s script × IsUnregistered script.procedures more f)

-- the first fault of the inputs: of the files of procedures, or what is wrong beside the procedures that they give
abbrev pub IsWrongInput : {A : Type 0} → ℕ → (Option Data → Data → Option (ScriptValue A)) → List ℕ → List ℕ → List Given → CliFault → Type 0
IsWrongInput limit script_of t s sources e =
    ((f : RefusedFile) × (e ≡ fault.Sources f) × IsFirstRefusedFile sources f)
    ⊎ ((more : List Named) × GiveAll sources more × IsWrong limit (script_of (beside more)) t s more e)
