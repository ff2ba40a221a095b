-- The words of an instruction's line.
use Rattle.std.specs.Prelude.{◌≡◌, ℕ, List, [], Option, Some, None, true}
use Rattle.tl_instr.specs.Instructions.{InRange, target}
use Rattle.tl_asm.specs.Words.{Word}
use Rattle.tl_asm.specs.Tokens.{is_label}
use Rattle.tl_asm.specs.Statements.{DraftValue}
use Rattle.tl_asm.specs.Listing.{words_to}

abbrev pub label_or_none : Option Word → Word
label_or_none None = []
label_or_none (Some label) = label

-- A label is given exactly if there is a target. The label is valid, and the target is 0 until the label is resolved.
abbrev pub IsLabelFor : Option ℕ → Option Word → Type 0
IsLabelFor None label = label ≡ None
IsLabelFor (Some to) None = ⊥
IsLabelFor (Some to) (Some label) = (to ≡ 0) × (is_label label ≡ true)

-- The words are those of the instruction, with the label in place of its target. The operands are in range.
pub record IsLineOf (d : DraftValue) (words : List Word) : Type 0 where
  pub words_are : words ≡ words_to (label_or_none d.label) d.instr
  pub in_range : InRange d.instr
  pub label : IsLabelFor (target d.instr) d.label
