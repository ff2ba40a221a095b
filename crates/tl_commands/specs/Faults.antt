-- The numbers of the program's faults, and its exit statuses.
use Rattle.std.specs.Prelude.{ℕ, List, [], ◌∷◌, if◌then◌else◌}
use Rattle.tl_tree.specs.Faults.{numbers_of as tree_numbers_of}
use Rattle.tl_tree.specs.declared.fault.TreeFault.TheVariants as tree
use Rattle.tl_asm.specs.Faults.{numbers_of as asm_numbers_of}
use Rattle.tl_asm.specs.declared.fault.AsmFault.TheVariants as asm
use Rattle.tl_instr.specs.Faults.{numbers_of as code_numbers_of}
use Rattle.tl_instr.specs.declared.fault.CodeFault.TheVariants as code
use Rattle.tl_verify.specs.Faults.{numbers_of as verify_numbers_of}
use Rattle.tl_verify.specs.declared.fault.VerifyFault.TheVariants as verify
use Rattle.tl_sources.specs.Faults.{numbers_of as source_numbers_of, is_memory as is_source_memory}
use Rattle.tl_json.specs.Faults.{numbers_of as register_numbers_of, is_memory}
use Rattle.tl_core.specs.Faults.{numbers_of as core_numbers_of}
use Rattle.tl_core.specs.declared.fault.CoreFault.TheVariants as core
use Rattle.tl_trail.specs.Faults.{numbers_of as trail_numbers_of}
use Rattle.tl_audit.specs.Faults.{audit_numbers_of, chain_numbers_of}
use Rattle.tl_trail.specs.declared.fault.TrailFault.TheVariants as trail
use Rattle.tl_audit.specs.declared.fault.AuditFault.TheVariants as audit
use Rattle.tl_audit.specs.declared.chain.ChainFault.TheVariants as chain
use Rattle.tl_table.specs.declared.fault.TableFault.TheVariants as table
use Rattle.tl_workers.specs.Refusals.{numbers_of as engine_numbers_of}
use Rattle.tl_workers.specs.declared.refusal.Refusal.TheVariants as refusal
use Rattle.tl_commands.specs.declared.fault.CliFault.{CliFault}
use Rattle.tl_commands.specs.declared.fault.CliFault.TheVariants.{Unreadable, Unwritable, NoPort, NotUtf8, Asm, Tree, Code, Verify, Source, Sources, Register, Core, Trail, Audit, Chain, Engine, Replaced, NotClosed, NotScript, NotArgs, WrongArgs, Memory}

abbrev pub numbers_of : CliFault → List ℕ
numbers_of Unreadable = 31 ∷ []
numbers_of Unwritable = 32 ∷ []
numbers_of NoPort = 33 ∷ []
numbers_of NotUtf8 = 255 ∷ []
numbers_of (Asm f) = asm_numbers_of f
numbers_of (Tree f) = tree_numbers_of f
numbers_of (Code f) = code_numbers_of f
numbers_of (Verify f) = verify_numbers_of f
numbers_of (Source f) = source_numbers_of f
numbers_of (Sources r) = source_numbers_of r.fault
numbers_of (Register f) = register_numbers_of f
numbers_of (Core f) = core_numbers_of f
numbers_of (Trail f) = trail_numbers_of f
numbers_of (Audit f) = audit_numbers_of f
numbers_of (Chain f) = chain_numbers_of f
numbers_of (Engine r) = engine_numbers_of r
numbers_of Replaced = 720 ∷ []
numbers_of NotClosed = 831 ∷ []
numbers_of NotScript = 731 ∷ []
numbers_of NotArgs = 732 ∷ []
numbers_of WrongArgs = 501 ∷ []
numbers_of Memory = 990 ∷ []

-- 3 for a fault of a device, 4 for lack of memory, 1 for all other faults
abbrev pub status_of : CliFault → ℕ
status_of Unreadable = 3
status_of Unwritable = 3
status_of NoPort = 3
status_of (Asm asm.Memory) = 4
status_of (Tree tree.Memory) = 4
status_of (Code code.Memory) = 4
status_of (Verify verify.Memory) = 4
status_of (Source f) = if is_source_memory f then 4 else 1
status_of (Sources r) = if is_source_memory r.fault then 4 else 1
status_of (Register f) = if is_memory f then 4 else 1
status_of (Core core.Memory) = 4
status_of (Trail trail.Memory) = 4
status_of (Audit audit.Memory) = 4
status_of (Chain chain.Memory) = 4
status_of (Engine refusal.Memory) = 4
status_of (Engine (refusal.Table table.Memory)) = 4
status_of (Engine (refusal.Table (table.Core core.Memory))) = 4
status_of Memory = 4
status_of f = 1
