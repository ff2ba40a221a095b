-- The canonical text denotes its code.
use Rattle.std.proofs.Common.{◌≡◌, ℕ, suc, ◌+◌, ◌<◌, ◌≤◌, ◌^◌, List, [], ◌∷◌, ◌++◌, length, refl, sym, ◌∙◌, ap, arith, Bool, true, false, ◌==◌, not, ◌||◌, ◌&&◌, Option, Some, append-nil, cond}
use Rattle.std.specs.Prelude.{ℤ, pos, negsuc}
use Rattle.std.specs.List.{AllByRecursion, list_all}
use Rattle.std.specs.Fmt.{decimal, signed_decimal}
use Rattle.std.specs.Int.{w32}
use Rattle.std.specs.Int.RustNames.{FitsSigned}
use lib.Chars.{codes}
use Rattle.std.proofs.lemmas.Fmt.{decimal_nonempty}
use Rattle.tl_instr.specs.declared.instr.Instr.{Instr}
use Rattle.tl_instr.specs.declared.instr.Instr.TheVariants.{Set, Copy, Add, Subtract, Multiply, Divide, Jump, JumpIfLess, JumpIfEqual, Repeat, RepeatBy, End, First, Child, Move, Release, Get, Put, Kids, Emit, Return}
use Rattle.tl_instr.specs.Instructions.{InRange, GoesWithin}
use Rattle.tl_instr.specs.declared.operand.TheConstants.{VALUE_REGISTERS, NODE_REGISTERS}
use Rattle.tl_asm.specs.Words.{Word, words_of}
use Rattle.tl_asm.specs.Statements.{Said, Blank, Names, Does, said_in}
use Rattle.tl_asm.specs.Texts.{statements}
use Rattle.tl_asm.specs.Listing.{label_word, instr_words, line_of, instr_line, is_target, label_line, lines_from}
use Rattle.tl_asm.proofs.SpacedWords.{Clean, IsCleanWord, clean_decimal, line_says}
use Rattle.tl_asm.proofs.TokenSpelling.{drafted, instr_again, label_line_again, both_true}

-- ---- the words are clean

abbrev pub clean_byte : ℕ → Bool
clean_byte b = not ((b == 32) || ((b == 9) || (b == 13))) && (not (b == 59) && not (b == 10))

not_true : (b : Bool) → not b ≡ true → b ≡ false
not_true true e = sym e
not_true false e = refl

pub clean_if : (w : Word) → list_all clean_byte w ≡ true → Clean w
clean_if [] e = tt
clean_if (b ∷ w) e =
    let parts = both_true (clean_byte b) (list_all clean_byte w) e in
    let tests = both_true (not ((b == 32) || ((b == 9) || (b == 13)))) (not (b == 59) && not (b == 10)) parts.0 in
    let others = both_true (not (b == 59)) (not (b == 10)) tests.1 in
    (not_true _ tests.0, not_true (b == 59) others.0, not_true (b == 10) others.1, clean_if w parts.1)

clean_word : (w : Word) → 0 < length w → Clean w → IsCleanWord w
clean_word [] lt h = absurd (omega (arith, lt))
clean_word (b ∷ w) lt h = h

pub number_word : (n : ℕ) → n < 2 ^ 64 → IsCleanWord (decimal n)
number_word n lt = clean_word (decimal n) (decimal_nonempty n lt) (clean_decimal n lt)

signed_word : (z : ℤ) → FitsSigned w32 z → IsCleanWord (signed_decimal z)
signed_word (pos n) h = let lt : n < 2147483648 = h.sfits in number_word n (omega arith)
signed_word (negsuc n) h = let lt : n < 2147483648 = h.sfits in (refl, refl, refl, clean_decimal (suc n) (omega arith))

value_clean : (n : ℕ) → n < VALUE_REGISTERS → IsCleanWord (118 ∷ decimal n)
value_clean n lt = (refl, refl, refl, clean_decimal n (omega arith))

node_clean : (n : ℕ) → n < NODE_REGISTERS → IsCleanWord (110 ∷ decimal n)
node_clean n lt = (refl, refl, refl, clean_decimal n (omega arith))

label_clean : (pc : ℕ) → pc ≤ 1024 → IsCleanWord (76 ∷ decimal pc)
label_clean pc le = (refl, refl, refl, clean_decimal pc (omega arith))

words_clean : (i : Instr) → InRange i → GoesWithin 1024 i → AllByRecursion IsCleanWord (instr_words i)
words_clean (Set to number) h t = (clean_if (codes "set") refl, (value_clean to h.0, (signed_word number h.1, tt)))
words_clean (Copy to from) h t = (clean_if (codes "copy") refl, (value_clean to h.0, (value_clean from h.1, tt)))
words_clean (Add to left right otherwise) h t = (clean_if (codes "add") refl, (value_clean to h.0, (value_clean left h.1, (value_clean right h.2, (clean_if (codes "else") refl, (label_clean otherwise t, tt))))))
words_clean (Subtract to left right otherwise) h t = (clean_if (codes "sub") refl, (value_clean to h.0, (value_clean left h.1, (value_clean right h.2, (clean_if (codes "else") refl, (label_clean otherwise t, tt))))))
words_clean (Multiply to left right otherwise) h t = (clean_if (codes "mul") refl, (value_clean to h.0, (value_clean left h.1, (value_clean right h.2, (clean_if (codes "else") refl, (label_clean otherwise t, tt))))))
words_clean (Divide to left right otherwise) h t = (clean_if (codes "div") refl, (value_clean to h.0, (value_clean left h.1, (value_clean right h.2, (clean_if (codes "else") refl, (label_clean otherwise t, tt))))))
words_clean (Jump to) h t = (clean_if (codes "jmp") refl, (label_clean to t, tt))
words_clean (JumpIfLess left right to) h t = (clean_if (codes "jlt") refl, (value_clean left h.0, (value_clean right h.1, (label_clean to t, tt))))
words_clean (JumpIfEqual left right to) h t = (clean_if (codes "jeq") refl, (value_clean left h.0, (value_clean right h.1, (label_clean to t, tt))))
words_clean (Repeat count) h t = (clean_if (codes "rep") refl, (number_word count (omega (arith, h)), tt))
words_clean (RepeatBy turns count) h t = (clean_if (codes "repv") refl, (value_clean turns h.0, (number_word count (omega (arith, h.1)), tt)))
words_clean End h t = (clean_if (codes "end") refl, tt)
words_clean (First to number otherwise) h t = (clean_if (codes "first") refl, (node_clean to h.0, (value_clean number h.1, (clean_if (codes "else") refl, (label_clean otherwise t, tt)))))
words_clean (Child to parent number otherwise) h t = (clean_if (codes "child") refl, (node_clean to h.0, (node_clean parent h.1, (value_clean number h.2, (clean_if (codes "else") refl, (label_clean otherwise t, tt))))))
words_clean (Move to from) h t = (clean_if (codes "move") refl, (node_clean to h.0, (node_clean from h.1, tt)))
words_clean (Release node) h t = (clean_if (codes "rel") refl, (node_clean node h, tt))
words_clean (Get to node field) h t = (clean_if (codes "get") refl, (value_clean to h.0, (node_clean node h.1, (number_word field (omega (arith, h.2)), tt))))
words_clean (Put node field from) h t = (clean_if (codes "put") refl, (node_clean node h.0, (number_word field (omega (arith, h.1)), (value_clean from h.2, tt))))
words_clean (Kids to node) h t = (clean_if (codes "kids") refl, (value_clean to h.0, (node_clean node h.1, tt)))
words_clean (Emit from) h t = (clean_if (codes "emit") refl, (value_clean from h, tt))
words_clean Return h t = (clean_if (codes "ret") refl, tt)

-- ---- what the lines say

-- a label, if the position is a target
abbrev pub marked : Bool → ℕ → List (Option Said)
marked true pc = Some (Names (label_word pc)) ∷ []
marked false pc = []

colon_clean : (pc : ℕ) → pc ≤ 1024 → IsCleanWord (label_word pc ++ 58 ∷ [])
colon_clean pc le = (refl, refl, refl, append_clean (decimal pc) (clean_decimal pc (omega arith)))
  where
    append_clean : (w : List ℕ) → Clean w → Clean (w ++ 58 ∷ [])
    append_clean [] h = (refl, refl, refl, tt)
    append_clean (b ∷ w) h = (h.0, h.1, h.2, append_clean w h.3)

mark_says : (b : Bool) (pc : ℕ) (rest : List ℕ) → pc ≤ 1024 → statements (cond b (line_of ((label_word pc ++ 58 ∷ []) ∷ [])) [] ++ rest) ≡ marked b pc ++ statements rest
mark_says true pc rest le = line_says ((label_word pc ++ 58 ∷ []) ∷ []) rest (colon_clean pc le, tt) ∙ ap (λ (s : Option Said). s ∷ statements rest) (label_line_again pc le)
mark_says false pc rest le = refl

module _ (f : ℕ → Bool) where
  -- the statements of the lines from a position on, where the positions that pass the test are targets
  unfoldable pub said_from : ℕ → List Instr → List (Option Said)
  said_from pc [] = marked (f pc) pc ++ Some Blank ∷ []
  said_from pc (i ∷ is) = marked (f pc) pc ++ Some (Does (drafted i)) ∷ said_from (pc + 1) is

empty_says : statements [] ≡ Some Blank ∷ []
unfolding words_of said_in
empty_says = refl

abbrev pub Fits : Instr → Type 0
Fits i = InRange i × GoesWithin 1024 i

pub lines_say : (instrs : List Instr) (pc : ℕ) (is : List Instr) → AllByRecursion Fits is → pc + length is ≤ 1024 → statements (lines_from instrs pc is) ≡ said_from (is_target instrs) pc is
unfolding said_from
lines_say instrs pc [] h le =
    ap statements (sym (append-nil (label_line instrs pc))) ∙ mark_says (is_target instrs pc) pc [] (omega arith) ∙ ap (λ (rest : List (Option Said)). marked (is_target instrs pc) pc ++ rest) empty_says
lines_say instrs pc (i ∷ is) h le =
    mark_says (is_target instrs pc) pc (instr_line i ++ lines_from instrs (pc + 1) is) (omega arith)
    ∙ ap (λ (rest : List (Option Said)). marked (is_target instrs pc) pc ++ rest)
    (line_says (instr_words i) (lines_from instrs (pc + 1) is) (words_clean i h.0.0 h.0.1)
    ∙ ap (λ (s : Option Said). s ∷ statements (lines_from instrs (pc + 1) is)) (instr_again i h.0.0 h.0.1)
    ∙ ap (λ (rest : List (Option Said)). Some (Does (drafted i)) ∷ rest) (lines_say instrs (pc + 1) is h.1 (omega arith)))
