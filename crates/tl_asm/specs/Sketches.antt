-- What a sketch holds of the lines that it was made from.
use Rattle.std.specs.Prelude.{◌≡◌, ◌<◌, ℕ, List, [], ◌∷◌, map, take, Option, Some, None, option_map, IfSome, IsSome, slice_get, length}
use Rattle.std.specs.Borrow.{Bor}
use Rattle.std.specs.List.{All}
use Rattle.tl_instr.specs.declared.instr.Instr.{Instr}
use Rattle.tl_instr.specs.declared.version.Version.{Version}
use Rattle.tl_instr.specs.Codes.{IsArity}
use Rattle.tl_instr.specs.Instructions.{IsInstr}
use Rattle.tl_instr.specs.declared.code.TheConstants.{MAX_COUNT}
use Rattle.tl_asm.specs.declared.fault.AsmFault.{AsmFault}
use Rattle.tl_asm.specs.declared.fault.AsmFault.TheVariants.{BadLine, NoLabel, LabelTwice, TooLong, Memory}
use Rattle.tl_asm.specs.declared.sketch.Origin.{Origin}
use Rattle.tl_asm.specs.declared.sketch.Sketch.{Sketch}
use Rattle.tl_asm.specs.Words.{Word}
use Rattle.tl_asm.specs.Statements.{DraftValue, Said, says}
use Rattle.tl_asm.specs.Texts.{InPlace, Distinct, version_in, arity_in, labels_in, drafts_in, aimed}
use Rattle.tl_asm.specs.Faults.{Begin}

-- the statements of borrowed lines
abbrev pub said_by : List (Bor (List ℕ)) → List (Option Said)
said_by lines = map (λ line. says line.now) lines

-- the labels with their positions, and below the origins, by value instead of by reference
abbrev pub known : List (Bor (List ℕ) × ℕ) → List (Word × ℕ)
known entries = map (λ entry. (entry.0.now, entry.1)) entries

abbrev pub traced : List Origin → List (ℕ × Option Word)
traced origins = map (λ origin. (origin.line, option_map (λ label. label.now) origin.label)) origins

-- The lines are a valid beginning of a text, and the version, arity, labels, instructions and origins are those of the lines.
pub record Sketched (ss : List (Option Said)) (version : Version) (given : Option ℕ) (entries : List (Word × ℕ)) (is : List Instr) (lines : List (ℕ × Option Word)) : Type 0 where
  pub begin : Begin ss
  pub version_is : version ≡ version_in ss
  pub arity : given ≡ arity_in ss
  pub arity_in_range : IfSome given IsArity
  pub labels : entries ≡ labels_in 0 ss
  pub instrs : is ≡ map (λ d. d.1.instr) (drafts_in 1 ss)
  pub origins : lines ≡ map (λ d. (d.0, d.1.label)) (drafts_in 1 ss)
  pub in_range : All (IsInstr version 0) is

-- The sketch is the one of these lines.
abbrev pub IsSketch : List (Option Said) → Sketch → Type 0
IsSketch ss s = Sketched ss s.version s.arity (known s.labels.entries) s.instrs.items (traced s.origins.items)

-- the fault of the last of these lines, where the lines before it are a valid beginning of a text
abbrev pub IsWrongLast : List (Option Said) → AsmFault → Type 0
IsWrongLast ss (BadLine n) = (n ≡ length ss) × ¬ InPlace ss
IsWrongLast ss (LabelTwice n) = (n ≡ length ss) × InPlace ss × ¬ Distinct (labels_in 0 ss)
IsWrongLast ss TooLong = InPlace ss × Distinct (labels_in 0 ss) × (MAX_COUNT < length (drafts_in 1 ss))
IsWrongLast ss (NoLabel n) = ⊥
IsWrongLast ss Memory = ⊥

-- the instructions with the line and the label of each
abbrev pub drafts_of : List Instr → List (ℕ × Option Word) → List (ℕ × DraftValue)
drafts_of [] lines = []
drafts_of (i ∷ is) [] = []
drafts_of (i ∷ is) (line ∷ lines) = (line.0, record { instr = i; label = line.1 }) ∷ drafts_of is lines

-- Line n is the first whose instruction uses a label that isn't among `labels`.
pub record IsAstray (labels : List (Word × ℕ)) (ds : List (ℕ × DraftValue)) (n : ℕ) : Type 0 where
  pub place : ℕ
  pub draft : DraftValue
  pub here : slice_get ds place ≡ Some (n, draft)
  pub astray : aimed labels draft.instr draft.label ≡ None
  pub before : All (λ d. IsSome (aimed labels d.1.instr d.1.label)) (take place ds)
