-- Procedures as people give them: which procedures a file stands for, and why it stands for none.
use Rattle.std.specs.Prelude.{◌≡◌, ◌⊎◌, ℕ, ℤ, List, Option, length, map, All, IsUtf8, string_bytes}
use Rattle.tl_tree.specs.Records.{Records}
use Rattle.tl_instr.specs.Codes.{CodeValue}
use Rattle.tl_instr.specs.Spelling.{Spelled}
use Rattle.tl_instr.specs.Faults.{IsFirstFault as IsFirstCodeFault}
use Rattle.tl_asm.specs.Texts.{Written}
use Rattle.tl_asm.specs.Faults.{IsFirstFault as IsFirstTextFault}
use Rattle.tl_verify.specs.Acceptable.{Acceptable}
use Rattle.tl_verify.specs.Findings.{IsFirstFault}
use Rattle.tl_procedures.specs.Names.{Named}
use Rattle.tl_lowering.specs.declared.program.Procedure.{Procedure}
use Rattle.tl_lowering.specs.Reading.{IsProgram}
use Rattle.tl_lowering.specs.Sound.{IsInOrder}
use Rattle.tl_compiler.specs.declared.compiler.Compiled.{Compiled}
use Rattle.tl_compiler.specs.declared.fault.CompileFault.{CompileFault}
use Rattle.tl_compiler.specs.declared.fault.CompileFault.TheVariants.{NotOne}
use Rattle.tl_compiler.specs.Compiled.{code_of_procedure, IsMeant, source_name}
use Rattle.tl_compiler.specs.Faults.{IsCompileFault}
use Rattle.tl_meaning.specs.Calls.{DoesCall}
use Rattle.tl_sources.specs.declared.fault.SourceFault.{SourceFault}
use Rattle.tl_sources.specs.declared.fault.SourceFault.TheVariants.{Compile, NotUtf8, Asm, Code, Verify}
use Rattle.tl_sources.specs.declared.source.Source.{Source}
use Rattle.tl_sources.specs.declared.source.Source.TheVariants.{Language, Assembler, Container}

-- ---- a text of the procedure language

-- a procedure of a text with its code, and below one that was compiled
abbrev pub named : Procedure → Named
named p = record { name = p.name.items; code = code_of_procedure p }

abbrev pub made : Compiled → Named
made c = record { name = string_bytes c.name; code = c.procedure }

-- Run alone on a tree of any shape, with as many arguments as the procedure takes, its code does what a call of the text does.
abbrev pub DoesItsCalls : Procedure → Type 0
DoesItsCalls p =
    (parents : List ℕ) (args : List ℤ) (t : Records) → length args ≡ p.arity
    → DoesCall (code_of_procedure p).instrs parents p.body args t

-- These are the procedures of the text with their codes, in order. Each is well-formed and accepted, and its code does what calls of the text do.
pub record ProvidesAll (text : List ℕ) (found : List Named) : Type 0 where
  pub utf8 : IsUtf8 text
  pub sources : List Procedure
  pub program : IsProgram text sources
  pub in_order : All IsInOrder sources
  pub accepted : All (λ p. Acceptable (code_of_procedure p).instrs) sources
  pub does : All DoesItsCalls sources
  pub same : found ≡ map named sources

-- This is the code of the text's procedure with this name, or of its only one. The procedure is well-formed and accepted, and its code does what
-- calls of the text do.
pub record ProvidesOne (text : List ℕ) (name : Option (List ℕ)) (code : CodeValue) : Type 0 where
  pub utf8 : IsUtf8 text
  pub sources : List Procedure
  pub source : Procedure
  pub program : IsProgram text sources
  pub meant : IsMeant source_name name sources source
  pub in_order : IsInOrder source
  pub accepted : Acceptable (code_of_procedure source).instrs
  pub does : DoesItsCalls source
  pub same : code ≡ code_of_procedure source

-- No procedure of the text has this name, or without a name, the text doesn't have exactly one.
pub record NoneIsMeant (text : List ℕ) (name : Option (List ℕ)) : Type 0 where
  pub sources : List Procedure
  pub program : IsProgram text sources
  pub none : (source : Procedure) → IsMeant source_name name sources source → ⊥

-- ---- a file

-- the procedure that a file stands for: of a text of the language the one of this name or the only one, otherwise the accepted code that is written there
abbrev pub IsProcedureOf : Source → Option (List ℕ) → CodeValue → Type 0
IsProcedureOf (Language text) name code = ProvidesOne text.now name code
IsProcedureOf (Assembler text) name code = IsUtf8 text.now × Written text.now code × Acceptable code.instrs
IsProcedureOf (Container bytes) name code = Spelled bytes.now code × Acceptable code.instrs

-- ---- why there is none

-- the fault of a text of the language
abbrev pub IsProgramFault : List ℕ → SourceFault → Type 0
IsProgramFault text e = (f : CompileFault) × (e ≡ Compile f) × IsCompileFault text f

-- why a file stands for no procedure: its first fault, or the verifier's, or that none is meant
abbrev pub IsSourceFault : Source → Option (List ℕ) → SourceFault → Type 0
IsSourceFault (Language text) name (Compile f) = IsCompileFault text.now f ⊎ ((f ≡ NotOne) × NoneIsMeant text.now name)
IsSourceFault (Assembler text) name NotUtf8 = IsUtf8 text.now → ⊥
IsSourceFault (Assembler text) name (Asm f) = IsFirstTextFault text.now f
IsSourceFault (Assembler text) name (Verify f) = (code : CodeValue) × Written text.now code × IsFirstFault code.instrs f
IsSourceFault (Container bytes) name (Code f) = IsFirstCodeFault bytes.now f
IsSourceFault (Container bytes) name (Verify f) = (code : CodeValue) × Spelled bytes.now code × IsFirstFault code.instrs f
IsSourceFault source name f = ⊥
