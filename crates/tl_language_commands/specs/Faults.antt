-- The numbers of the faults of the commands on texts, and their exit statuses.
use Rattle.std.specs.Prelude.{ℕ, List, [], ◌∷◌, if◌then◌else◌}
use Rattle.tl_sources.specs.Faults.{numbers_of as source_numbers_of, is_memory}
use Rattle.tl_instr.specs.Faults.{numbers_of as code_numbers_of}
use Rattle.tl_instr.specs.declared.fault.CodeFault.TheVariants as code
use Rattle.tl_language_commands.specs.declared.fault.LanguageFault.{LanguageFault}
use Rattle.tl_language_commands.specs.declared.fault.LanguageFault.TheVariants.{Source, Code, Memory}

abbrev pub numbers_of : LanguageFault → List ℕ
numbers_of (Source f) = source_numbers_of f
numbers_of (Code f) = code_numbers_of f
numbers_of Memory = 990 ∷ []

-- 4 for lack of memory, 1 for all other faults
abbrev pub status_of : LanguageFault → ℕ
status_of (Source f) = if is_memory f then 4 else 1
status_of (Code code.Memory) = 4
status_of Memory = 4
status_of f = 1
