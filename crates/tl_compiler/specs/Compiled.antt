-- The compiled procedures of a text.
use Rattle.std.specs.Prelude.{◌≡◌, ℕ, List, [], ◌∷◌, Option, Some, None, IsUtf8, string_bytes}
use Rattle.std.specs.List.{All, AllZip, Contains}
use Rattle.tl_instr.specs.Codes.{CodeValue}
use Rattle.tl_instr.specs.declared.version.Version.TheVariants.{Two}
use Rattle.tl_verify.specs.Acceptable.{Acceptable}
use Rattle.tl_lowering.specs.declared.program.Procedure.{Procedure}
use Rattle.tl_lowering.specs.Reading.{IsProgram}
use Rattle.tl_lowering.specs.Sound.{IsInOrder}
use Rattle.tl_compiler.specs.declared.compiler.Compiled.{Compiled}
use Rattle.tl_compiler.specs.Aiming.{at_positions}
use Rattle.tl_compiler.specs.Statements.{procedure_code}

-- the code of a procedure
abbrev pub code_of_procedure : Procedure → CodeValue
code_of_procedure source = record { version = Two; arity = source.arity; instrs = at_positions (procedure_code source.arity source.body) }

-- it has the name and the code of this procedure, and the verifier accepts the code
pub record IsCompiled (source : Procedure) (made : Compiled) : Type 0 where
  pub name : string_bytes made.name ≡ source.name.items
  pub code : made.procedure ≡ code_of_procedure source
  pub accepted : Acceptable (code_of_procedure source).instrs

-- they are compiled from these procedures, one by one
abbrev pub AreCompiled : List Procedure → List Compiled → Type 0
AreCompiled sources made = AllZip IsCompiled sources made

-- the one with this name; without a name, the only one there is
abbrev pub IsMeant : {A : Type 0} → (A → List ℕ) → Option (List ℕ) → List A → A → Type 0
IsMeant name_of (Some name) all one = Contains all one × (name_of one ≡ name)
IsMeant name_of None all one = all ≡ one ∷ []

abbrev pub made_name : Compiled → List ℕ
made_name made = string_bytes made.name

abbrev pub source_name : Procedure → List ℕ
source_name source = source.name.items

-- The compiled procedures of a text, in order. Each procedure is well-formed.
pub record Compiles (text : List ℕ) (made : List Compiled) : Type 0 where
  pub utf8 : IsUtf8 text
  pub sources : List Procedure
  pub program : IsProgram text sources
  pub in_order : All IsInOrder sources
  pub each : AreCompiled sources made
