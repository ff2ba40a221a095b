-- The output of the commands on texts of the procedure language: `compile`, `procs`, and `check` of such a text.
use Rattle.std.specs.Prelude.{◌≡◌, ◌≢◌, ℕ, List, [], ◌∷◌, ◌++◌, Option, length, map, codes, decimal}
use Rattle.serde_json.specs.Data.{Data, string}
use Rattle.serde_json.specs.Written.{compact_text}
use Rattle.tl_instr.specs.Codes.{CodeValue}
use Rattle.tl_instr.specs.Spelling.{Spelled}
use Rattle.tl_budget.specs.Loops.{budget, lock_bound, emit_bound}
use Rattle.tl_procedures.specs.Names.{Named}
use Rattle.tl_json.specs.Lists.{list_data}
use Rattle.tl_sources.specs.declared.fault.SourceFault.{SourceFault}
use Rattle.tl_sources.specs.declared.source.Source.{Source as File}
use Rattle.tl_sources.specs.Sources.{ProvidesAll, ProvidesOne, IsProgramFault, IsSourceFault}
use Rattle.tl_language_commands.specs.declared.fault.LanguageFault.{LanguageFault}
use Rattle.tl_language_commands.specs.declared.fault.LanguageFault.TheVariants.{Source}
use Rattle.tl_language_commands.specs.Faults.{status_of}
use Rattle.tl_lines.specs.Bounds.{bounds_data}

-- ---- the lines

abbrev pub compiled_text : ℕ → ℕ → ℕ → ℕ → List ℕ
compiled_text emits locks steps count =
    codes "{\"bounds\":{\"emits\":" ++ decimal emits ++ codes ",\"locks\":" ++ decimal locks ++ codes ",\"steps\":" ++ decimal steps ++ codes "},\"count\":" ++ decimal count ++ codes "}\n"

-- `[name,{"bounds":{..}}]`
abbrev pub checked_data : Named → Data
checked_data p =
    let instrs = p.code.instrs in
    list_data (string p.name ∷ bounds_data (emit_bound instrs) (lock_bound instrs) (budget instrs) ∷ [])

-- ---- `compile`

-- The file has the container of this code, which is that of the procedure with this name, or of the only one of the text. The output has its bounds
-- and its number of instructions.
pub record CompilesTo (text : List ℕ) (name : Option (List ℕ)) (out file : List ℕ) : Type 0 where
  pub code : CodeValue
  pub provided : ProvidesOne text name code
  pub spelled : Spelled file code
  pub same : out ≡ compiled_text (emit_bound code.instrs) (lock_bound code.instrs) (budget code.instrs) (length code.instrs)

-- the fault of the text, or that no procedure is meant; or lack of memory
abbrev pub IsFirstCompilingFault : File → Option (List ℕ) → LanguageFault → Type 0
IsFirstCompilingFault text name e = status_of e ≢ 4 → (f : SourceFault) × (e ≡ Source f) × IsSourceFault text name f

-- ---- `procs`, and `check` of a text

-- The output has one item for each procedure of the text, in order.
pub record ListsText (line : Named → Data) (text out : List ℕ) : Type 0 where
  pub procedures : List Named
  pub provided : ProvidesAll text procedures
  pub same : out ≡ compact_text (list_data (map line procedures)) ++ 10 ∷ []

abbrev pub IsFirstTextFault : List ℕ → LanguageFault → Type 0
IsFirstTextFault text e = status_of e ≢ 4 → (f : SourceFault) × (e ≡ Source f) × IsProgramFault text f
