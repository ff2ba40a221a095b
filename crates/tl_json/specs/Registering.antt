-- Registering named procedures from their texts: which are registered, one after another, and why one isn't.
use Rattle.std.specs.Prelude.{◌≡◌, ◌⊎◌, ℕ, List, [], ◌∷◌, ◌++◌, None, Some}
use Rattle.tl_instr.specs.Codes.{CodeValue}
use Rattle.tl_asm.specs.Texts.{Written}
use Rattle.tl_asm.specs.Faults.{IsFirstFault as IsFirstTextFault}
use Rattle.tl_verify.specs.Acceptable.{Acceptable}
use Rattle.tl_verify.specs.Findings.{IsFirstFault}
use Rattle.tl_procedures.specs.Names.{Named, naming_refusal}
use Rattle.tl_json.specs.declared.fault.ProcedureFault.{ProcedureFault}
use Rattle.tl_json.specs.declared.fault.ProcedureFault.TheVariants.{Asm, Verify}
use Rattle.tl_json.specs.declared.fault.RegisterFault.{RegisterFault}
use Rattle.tl_json.specs.declared.fault.RegisterFault.TheVariants.{Text, Name}

-- The text denotes an accepted code.
pub record IsCodeText (text : List ℕ) (code : CodeValue) : Type 0 where
  pub written : Written text code
  pub accepted : Acceptable code.instrs

-- why a text doesn't denote an accepted code: the text has a fault, or its code has one
abbrev pub IsTextFault : List ℕ → ProcedureFault → Type 0
IsTextFault text (Asm f) = IsFirstTextFault text f
IsTextFault text (Verify f) = (code : CodeValue) × Written text code × IsFirstFault code.instrs f

-- The text denotes an accepted code, and the name is allowed.
pub record IsFit (before : List Named) (p : List ℕ × List ℕ) (code : CodeValue) : Type 0 where
  pub text : IsCodeText p.1 code
  pub free : naming_refusal before p.0 ≡ None

abbrev pub and_named : List Named → List ℕ → CodeValue → List Named
and_named before name code = before ++ record { name = name; code = code } ∷ []

-- the procedures after these are added, one after another
abbrev pub TakenUp : List Named → List (List ℕ × List ℕ) → List Named → Type 0
TakenUp before [] after = after ≡ before
TakenUp before (p ∷ ps) after = (code : CodeValue) × IsFit before p code × TakenUp (and_named before p.0 code) ps after

-- why a procedure isn't added: its text has a fault, or its name is refused
abbrev pub IsUnfit : List Named → List ℕ × List ℕ → RegisterFault → Type 0
IsUnfit before p (Text f) = IsTextFault p.1 f
IsUnfit before p (Name f) = (code : CodeValue) × IsCodeText p.1 code × (naming_refusal before p.0 ≡ Some f)

-- why not all are added: the fault of the first one that isn't
abbrev pub IsFirstUnfit : List Named → List (List ℕ × List ℕ) → RegisterFault → Type 0
IsFirstUnfit before [] e = ⊥
IsFirstUnfit before (p ∷ ps) e =
    IsUnfit before p e ⊎ ((code : CodeValue) × IsFit before p code × IsFirstUnfit (and_named before p.0 code) ps e)
