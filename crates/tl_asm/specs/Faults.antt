-- The faults of assembly texts: their numbers, and which fault comes first.
use Rattle.std.specs.Prelude.{◌≡◌, ◌⊎◌, ℕ, ◌+◌, ◌<◌, ◌≤◌, List, [], ◌∷◌, length, take, Option, Some, None, slice_get, IsSome}
use Rattle.std.specs.List.{All}
use Rattle.tl_instr.specs.declared.code.TheConstants.{MAX_COUNT}
use Rattle.tl_asm.specs.declared.fault.AsmFault.{AsmFault}
use Rattle.tl_asm.specs.declared.fault.AsmFault.TheVariants.{BadLine, NoLabel, LabelTwice, TooLong, Memory}
use Rattle.tl_asm.specs.Statements.{DraftValue, Said}
use Rattle.tl_asm.specs.Texts.{statements, InPlace, Distinct, arity_in, labels_in, drafts_in, aimed}

-- the fault's number, followed by its line
abbrev pub numbers_of : AsmFault → List ℕ
numbers_of (BadLine n) = 251 ∷ n ∷ []
numbers_of (NoLabel n) = 252 ∷ n ∷ []
numbers_of (LabelTwice n) = 253 ∷ n ∷ []
numbers_of TooLong = 254 ∷ []
numbers_of Memory = 290 ∷ []

-- These lines are a valid beginning of a text. Whether the labels that they use are defined isn't checked.
pub record Begin (ss : List (Option Said)) : Type 0 where
  pub in_place : InPlace ss
  pub distinct : Distinct (labels_in 0 ss)
  pub short : length (drafts_in 1 ss) ≤ MAX_COUNT

-- Line k + 1 exists, and the lines before it are a valid beginning of a text.
pub record IsReached (ss : List (Option Said)) (k : ℕ) : Type 0 where
  pub inside : k < length ss
  pub before : Begin (take k ss)

-- All lines are a valid beginning of a text, and there is an arity and at least one instruction.
pub record IsWhole (ss : List (Option Said)) : Type 0 where
  pub lines : Begin ss
  pub arity : IsSome (arity_in ss)
  pub some : 0 < length (drafts_in 1 ss)

-- Line n is the first that uses an undefined label.
pub record IsFirstAstray (ss : List (Option Said)) (n : ℕ) : Type 0 where
  pub whole : IsWhole ss
  pub place : ℕ
  pub draft : DraftValue
  pub here : slice_get (drafts_in 1 ss) place ≡ Some (n, draft)
  pub astray : aimed (labels_in 0 ss) draft.instr draft.label ≡ None
  pub before : All (λ d. IsSome (aimed (labels_in 0 ss) d.1.instr d.1.label)) (take place (drafts_in 1 ss))

-- the first fault of these statements
abbrev pub IsFirstFaultIn : List (Option Said) → AsmFault → Type 0
IsFirstFaultIn ss (BadLine n) =
    ((k : ℕ) × (n ≡ k + 1) × IsReached ss k × ¬ InPlace (take (k + 1) ss))
    ⊎ ((n ≡ length ss) × Begin ss × ¬ IsWhole ss)
IsFirstFaultIn ss (LabelTwice n) =
    (k : ℕ) × (n ≡ k + 1) × IsReached ss k × InPlace (take (k + 1) ss) × ¬ Distinct (labels_in 0 (take (k + 1) ss))
IsFirstFaultIn ss TooLong =
    (k : ℕ) × IsReached ss k × InPlace (take (k + 1) ss) × Distinct (labels_in 0 (take (k + 1) ss)) × (MAX_COUNT < length (drafts_in 1 (take (k + 1) ss)))
IsFirstFaultIn ss (NoLabel n) = IsFirstAstray ss n
IsFirstFaultIn ss Memory = ⊥

-- the first fault of the text
abbrev pub IsFirstFault : List ℕ → AsmFault → Type 0
IsFirstFault text f = IsFirstFaultIn (statements text) f
