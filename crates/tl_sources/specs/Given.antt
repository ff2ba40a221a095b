-- The procedures that files give to whoever runs them.
use Rattle.std.specs.Prelude.{◌≡◌, List, [], ◌∷◌, ◌++◌, length, Some}
use Rattle.tl_instr.specs.Codes.{CodeValue}
use Rattle.tl_procedures.specs.Names.{Named}
use Rattle.tl_sources.specs.declared.fault.RefusedFile.{RefusedFile}
use Rattle.tl_sources.specs.declared.fault.SourceFault.{SourceFault}
use Rattle.tl_sources.specs.declared.given.Given.{Given}
use Rattle.tl_sources.specs.declared.given.Given.TheVariants.{Program, Single}
use Rattle.tl_sources.specs.Sources.{ProvidesAll, IsProcedureOf, IsProgramFault, IsSourceFault}

-- these are the procedures that a file gives: all of a text of the language, or the one that is meant, under its name
abbrev pub Gives : Given → List Named → Type 0
Gives (Program text) found = ProvidesAll text.now found
Gives (Single name source) found =
    (code : CodeValue) × IsProcedureOf source (Some name.now) code × (found ≡ record { name = name.now; code = code } ∷ [])

-- these are the procedures of all files, file by file
abbrev pub GiveAll : List Given → List Named → Type 0
GiveAll [] found = found ≡ []
GiveAll (g ∷ gs) found = (own : List Named) × (more : List Named) × Gives g own × GiveAll gs more × (found ≡ own ++ more)

-- why a file is refused
abbrev pub IsGivenFault : Given → SourceFault → Type 0
IsGivenFault (Program text) e = IsProgramFault text.now e
IsGivenFault (Single name source) e = IsSourceFault source (Some name.now) e

-- The file with this number is refused for this reason, and those before it give their procedures.
pub record IsFirstRefusedFile (files : List Given) (e : RefusedFile) : Type 0 where
  pub before : List Given
  pub file : Given
  pub behind : List Given
  pub split : files ≡ before ++ file ∷ behind
  pub number : e.number ≡ length before
  pub procedures : List Named
  pub given : GiveAll before procedures
  pub refused : IsGivenFault file e.fault
