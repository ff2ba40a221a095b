-- The numbers of the faults of files of procedures, and which of them mean a lack of memory.
use Rattle.std.specs.Prelude.{ℕ, List, [], ◌∷◌, Bool, true, false}
use Rattle.tl_compiler.specs.Faults.{numbers_of as compile_numbers_of}
use Rattle.tl_compiler.specs.declared.fault.CompileFault.TheVariants as compile
use Rattle.tl_asm.specs.Faults.{numbers_of as asm_numbers_of}
use Rattle.tl_asm.specs.declared.fault.AsmFault.TheVariants as asm
use Rattle.tl_instr.specs.Faults.{numbers_of as code_numbers_of}
use Rattle.tl_instr.specs.declared.fault.CodeFault.TheVariants as code
use Rattle.tl_verify.specs.Faults.{numbers_of as verify_numbers_of}
use Rattle.tl_verify.specs.declared.fault.VerifyFault.TheVariants as verify
use Rattle.tl_sources.specs.declared.fault.SourceFault.{SourceFault}
use Rattle.tl_sources.specs.declared.fault.SourceFault.TheVariants.{Compile, NotUtf8, Asm, Code, Verify}

-- the fault's number, followed by its parts
abbrev pub numbers_of : SourceFault → List ℕ
numbers_of (Compile f) = compile_numbers_of f
numbers_of NotUtf8 = 255 ∷ []
numbers_of (Asm f) = asm_numbers_of f
numbers_of (Code f) = code_numbers_of f
numbers_of (Verify f) = verify_numbers_of f

abbrev pub is_memory : SourceFault → Bool
is_memory (Compile compile.Memory) = true
is_memory (Asm asm.Memory) = true
is_memory (Code code.Memory) = true
is_memory (Verify verify.Memory) = true
is_memory f = false
