-- The faults of a text and of its procedures, and their numbers.
use Rattle.std.specs.Prelude.{◌≡◌, ◌<◌, ℕ, List, [], ◌∷◌, length, IsUtf8}
use Rattle.std.specs.List.{Contains}
use Rattle.tl_instr.specs.declared.instr.Instr.{Instr}
use Rattle.tl_instr.specs.declared.code.TheConstants.{MAX_COUNT}
use Rattle.tl_budget.specs.Loops.{budget, lock_bound, emit_bound}
use Rattle.tl_budget.specs.declared.limits.TheConstants.{MAX_STEPS, MAX_LOCKS, MAX_EMITS}
use Rattle.tl_budget.specs.declared.fault.NestFault.TheVariants.{StepsOver, LocksOver, EmitsOver}
use Rattle.tl_verify.specs.declared.fault.VerifyFault.{VerifyFault}
use Rattle.tl_verify.specs.declared.fault.VerifyFault.TheVariants as verify
use Rattle.tl_syntax.specs.Faults.{number_of}
use Rattle.tl_syntax.specs.declared.position.Position.{Position}
use Rattle.tl_lowering.specs.declared.program.Procedure.{Procedure}
use Rattle.tl_lowering.specs.Reading.{IsProgram}
use Rattle.tl_compiler.specs.Aiming.{at_positions}
use Rattle.tl_compiler.specs.Statements.{procedure_code}
use Rattle.tl_compiler.specs.declared.fault.Excess.{Excess}
use Rattle.tl_compiler.specs.declared.fault.Excess.TheVariants.{Instructions, Steps, Locks, Emits}
use Rattle.tl_compiler.specs.declared.fault.CompileFault.{CompileFault}
use Rattle.tl_compiler.specs.declared.fault.CompileFault.TheVariants.{NotUtf8, Wrong, Over, NotOne, Memory}

abbrev pub excess_number : Excess → ℕ
excess_number Instructions = 294
excess_number Steps = 295
excess_number Locks = 296
excess_number Emits = 297

-- a number followed by a line and a column
abbrev pub numbers_at : ℕ → Position → List ℕ
numbers_at number position = number ∷ position.line ∷ position.column ∷ []

abbrev pub numbers_of : CompileFault → List ℕ
numbers_of NotUtf8 = 255 ∷ []
numbers_of (Wrong wrong position) = numbers_at (number_of wrong) position
numbers_of (Over excess sum position) = numbers_at (excess_number excess) position
numbers_of NotOne = 289 ∷ []
numbers_of Memory = 290 ∷ []

-- the fault is one of the text
abbrev pub IsTextFault : CompileFault → Type 0
IsTextFault (Wrong wrong position) = Unit {0}
IsTextFault Memory = Unit {0}
IsTextFault _ = ⊥

-- the code of a procedure, with positions in place of labels
abbrev pub placed_code : Procedure → List Instr
placed_code source = at_positions (procedure_code source.arity source.body)

-- the code of a procedure exceeds this limit
abbrev pub IsOver : Procedure → Excess → Type 0
IsOver source Instructions = MAX_COUNT < length (procedure_code source.arity source.body)
IsOver source Steps = MAX_STEPS < budget (placed_code source)
IsOver source Locks = MAX_LOCKS < lock_bound (placed_code source)
IsOver source Emits = MAX_EMITS < emit_bound (placed_code source)

-- this limit is exceeded, or memory was refused
abbrev pub IsExcess : Excess → CompileFault → Type 0
IsExcess excess (Over other sum position) = other ≡ excess
IsExcess excess Memory = Unit {0}
IsExcess excess _ = ⊥

-- the fault that a fault of the verifier becomes: an exceeded sum, or refused memory
abbrev pub IsVerifierFault : VerifyFault → CompileFault → Type 0
IsVerifierFault (verify.Nest StepsOver) e = IsExcess Steps e
IsVerifierFault (verify.Nest LocksOver) e = IsExcess Locks e
IsVerifierFault (verify.Nest EmitsOver) e = IsExcess Emits e
IsVerifierFault verify.Memory e = e ≡ Memory
IsVerifierFault fault e = ⊥

-- the fault of a procedure's code
abbrev pub IsCodeFault : Procedure → CompileFault → Type 0
IsCodeFault source (Over excess sum position) = IsOver source excess
IsCodeFault source Memory = Unit {0}
IsCodeFault source _ = ⊥

-- the fault of the code of one of these procedures
abbrev pub IsCodesFault : List Procedure → CompileFault → Type 0
IsCodesFault sources (Over excess sum position) = (source : Procedure) × Contains sources source × IsOver source excess
IsCodesFault sources Memory = Unit {0}
IsCodesFault sources _ = ⊥

-- the text has procedures, and the code of one has this fault
pub record HasCodeFault (text : List ℕ) (e : CompileFault) : Type 0 where
  pub utf8 : IsUtf8 text
  pub sources : List Procedure
  pub program : IsProgram text sources
  pub fault : IsCodesFault sources e

-- NotUtf8 means that the text isn't UTF-8. A fault of the code is returned only if the text has procedures.
abbrev pub IsCompileFault : List ℕ → CompileFault → Type 0
IsCompileFault text NotUtf8 = IsUtf8 text → ⊥
IsCompileFault text (Wrong wrong position) = IsUtf8 text
IsCompileFault text NotOne = ⊥
IsCompileFault text Memory = Unit {0}
IsCompileFault text e = HasCodeFault text e
