-- The output of the commands on one procedure, `asm`, `dis`, `migrate` and `verify`, and their faults.
use Rattle.std.specs.Prelude.{◌≡◌, ◌≢◌, ◌⊎◌, ℕ, Bool, nat_eq, List, ◌++◌, length, codes, decimal, IsUtf8}
use Rattle.std.specs.List.{starts_with}
use Rattle.tl_instr.specs.declared.version.Version.TheVariants.{One}
use Rattle.tl_instr.specs.Codes.{CodeValue, migrated}
use Rattle.tl_instr.specs.Spelling.{Spelled}
use Rattle.tl_instr.specs.Faults.{IsFirstFault as IsFirstCodeFault}
use Rattle.tl_instr.specs.declared.fault.CodeFault.{CodeFault}
use Rattle.tl_instr.specs.declared.fault.CodeFault.TheVariants.{NotVersion1}
use Rattle.tl_asm.specs.Texts.{Written}
use Rattle.tl_asm.specs.Listing.{listing}
use Rattle.tl_asm.specs.Faults.{IsFirstFault as IsFirstTextFault}
use Rattle.tl_asm.specs.declared.fault.AsmFault.{AsmFault}
use Rattle.tl_budget.specs.Loops.{budget, lock_bound, emit_bound}
use Rattle.tl_verify.specs.Acceptable.{Acceptable}
use Rattle.tl_verify.specs.Findings.{IsFirstFault}
use Rattle.tl_verify.specs.declared.fault.VerifyFault.{VerifyFault}
use Rattle.tl_commands.specs.declared.fault.CliFault.{CliFault}
use Rattle.tl_commands.specs.declared.fault.CliFault.TheVariants.{NotUtf8, Asm, Code, Verify}
use Rattle.tl_commands.specs.Faults.{status_of}

-- ---- the lines

abbrev pub count_text : ℕ → List ℕ
count_text count = codes "{\"count\":" ++ decimal count ++ codes "}\n"

abbrev pub bounds_text : ℕ → ℕ → ℕ → List ℕ
bounds_text emits locks steps =
    codes "{\"bounds\":{\"emits\":" ++ decimal emits ++ codes ",\"locks\":" ++ decimal locks ++ codes ",\"steps\":" ++ decimal steps ++ codes "}}\n"

-- whether the file begins like a container, as no assembly text does
abbrev pub is_container : List ℕ → Bool
is_container file = starts_with nat_eq file (codes "TLP")

-- ---- `asm`

-- The text denotes a code. The output has its number of instructions, and the file has its container.
pub record Assembles (text out file : List ℕ) : Type 0 where
  pub code : CodeValue
  pub utf8 : IsUtf8 text
  pub written : Written text code
  pub spelled : Spelled file code
  pub same : out ≡ count_text (length code.instrs)

-- the text isn't UTF-8, or otherwise its first fault; or lack of memory
abbrev pub IsFirstAssemblingFault : List ℕ → CliFault → Type 0
IsFirstAssemblingFault text e = status_of e ≢ 4 →
    ((e ≡ NotUtf8) × (IsUtf8 text → ⊥))
    ⊎ ((f : AsmFault) × (e ≡ Asm f) × IsFirstTextFault text f)

-- ---- `dis`

-- The output is the canonical text of the container's code.
pub record Lists (container out : List ℕ) : Type 0 where
  pub code : CodeValue
  pub spelled : Spelled container code
  pub same : out ≡ listing code

-- the container's first fault, or lack of memory
abbrev pub IsFirstContainerFault : List ℕ → CliFault → Type 0
IsFirstContainerFault container e = status_of e ≢ 4 → (f : CodeFault) × (e ≡ Code f) × IsFirstCodeFault container f

-- ---- `migrate`

-- The container's code is of the first version. The output has its number of instructions, and the file has the container
-- of the same code in the second version.
pub record Migrates (container out file : List ℕ) : Type 0 where
  pub code : CodeValue
  pub spelled : Spelled container code
  pub first : code.version ≡ One
  pub new : Spelled file (migrated code)
  pub same : out ≡ count_text (length code.instrs)

-- the container's first fault, or otherwise that its code isn't of the first version; or lack of memory
abbrev pub IsFirstMigratingFault : List ℕ → CliFault → Type 0
IsFirstMigratingFault container e = status_of e ≢ 4 →
    ((f : CodeFault) × (e ≡ Code f) × IsFirstCodeFault container f)
    ⊎ ((code : CodeValue) × (e ≡ Code NotVersion1) × Spelled container code × (code.version ≢ One))

-- ---- `verify`

-- The container's code is accepted, and the output has its bounds.
pub record Verifies (container out : List ℕ) : Type 0 where
  pub code : CodeValue
  pub spelled : Spelled container code
  pub accepted : Acceptable code.instrs
  pub same : out ≡ bounds_text (emit_bound code.instrs) (lock_bound code.instrs) (budget code.instrs)

-- the first fault of the container, or otherwise of its code; or lack of memory
abbrev pub IsFirstVerifyingFault : List ℕ → CliFault → Type 0
IsFirstVerifyingFault container e = status_of e ≢ 4 →
    ((f : CodeFault) × (e ≡ Code f) × IsFirstCodeFault container f)
    ⊎ ((f : VerifyFault) × (code : CodeValue) × (e ≡ Verify f) × Spelled container code × IsFirstFault code.instrs f)

-- ---- `check`, of a text

-- The text denotes a code that is accepted, and the output has its bounds.
pub record VerifiesText (text out : List ℕ) : Type 0 where
  pub code : CodeValue
  pub utf8 : IsUtf8 text
  pub written : Written text code
  pub accepted : Acceptable code.instrs
  pub same : out ≡ bounds_text (emit_bound code.instrs) (lock_bound code.instrs) (budget code.instrs)

-- the text isn't UTF-8, or otherwise the first fault of the text or of its code; or lack of memory
abbrev pub IsFirstCheckingFault : List ℕ → CliFault → Type 0
IsFirstCheckingFault text e = status_of e ≢ 4 →
    (((e ≡ NotUtf8) × (IsUtf8 text → ⊥)) ⊎ ((f : AsmFault) × (e ≡ Asm f) × IsFirstTextFault text f))
    ⊎ ((f : VerifyFault) × (code : CodeValue) × (e ≡ Verify f) × Written text code × IsFirstFault code.instrs f)
