-- The faults of registering a procedure: their numbers, and which of them mean a lack of memory.
use Rattle.std.specs.Prelude.{ℕ, List, Bool, true, false}
use Rattle.tl_asm.specs.Faults.{numbers_of as asm_numbers_of}
use Rattle.tl_asm.specs.declared.fault.AsmFault.TheVariants as asm
use Rattle.tl_verify.specs.Faults.{numbers_of as verify_numbers_of}
use Rattle.tl_verify.specs.declared.fault.VerifyFault.TheVariants as verify
use Rattle.tl_procedures.specs.Faults.{numbers_of as naming_numbers_of}
use Rattle.tl_procedures.specs.declared.fault.NamingFault.TheVariants as naming
use Rattle.tl_json.specs.declared.fault.ProcedureFault.{ProcedureFault}
use Rattle.tl_json.specs.declared.fault.ProcedureFault.TheVariants.{Asm, Verify}
use Rattle.tl_json.specs.declared.fault.RegisterFault.{RegisterFault}
use Rattle.tl_json.specs.declared.fault.RegisterFault.TheVariants.{Text, Name}

-- the number of a text's fault, followed by its operands
abbrev pub text_numbers_of : ProcedureFault → List ℕ
text_numbers_of (Asm f) = asm_numbers_of f
text_numbers_of (Verify f) = verify_numbers_of f

-- whether the fault means a lack of memory
abbrev pub is_text_memory : ProcedureFault → Bool
is_text_memory (Asm asm.Memory) = true
is_text_memory (Asm f) = false
is_text_memory (Verify verify.Memory) = true
is_text_memory (Verify f) = false

-- the number of a text's or a name's fault, followed by its operands
abbrev pub numbers_of : RegisterFault → List ℕ
numbers_of (Text f) = text_numbers_of f
numbers_of (Name f) = naming_numbers_of f

abbrev pub is_memory : RegisterFault → Bool
is_memory (Text f) = is_text_memory f
is_memory (Name naming.Memory) = true
is_memory (Name f) = false
