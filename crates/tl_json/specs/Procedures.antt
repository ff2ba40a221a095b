-- Named procedures, with their texts, as JSON values.
use Rattle.std.specs.Prelude.{ℕ, List, [], ◌∷◌, Option, None, option_and_then, string_bytes, All}
use Rattle.serde_json.specs.Data.{Data, string}
use Rattle.serde_json.specs.Find.{as_str}
use Rattle.tl_tree.specs.Reading.{both}
use Rattle.tl_instr.specs.Codes.{IsCode}
use Rattle.tl_asm.specs.Listing.{listing}
use Rattle.tl_verify.specs.Acceptable.{Acceptable}
use Rattle.tl_procedures.specs.Names.{Named}
use Rattle.tl_json.specs.Lists.{list_of, list_data}
use Rattle.tl_json.specs.declared.procedure.ProcedureText.{ProcedureText}

-- the name and the text
abbrev pub procedure_form : ProcedureText → List ℕ × List ℕ
procedure_form x = (string_bytes x.name, string_bytes x.text)

abbrev pub procedure_in : List Data → Option (List ℕ × List ℕ)
procedure_in (name ∷ text ∷ []) = both (as_str name) (as_str text)
procedure_in _ = None

-- the name and the text of a procedure
abbrev pub procedure_of : Data → Option (List ℕ × List ℕ)
procedure_of d = option_and_then procedure_in (list_of d)

-- the name and the canonical text
abbrev pub procedure_data : Named → Data
procedure_data p = list_data (string p.name ∷ string (listing p.code) ∷ [])

-- each code is valid and accepted
abbrev pub AreAccepted : List Named → Type 0
AreAccepted procedures = All (λ p. IsCode p.code × Acceptable p.code.instrs) procedures
