-- The canonical text of a code.
use Rattle.std.specs.Prelude.{ℕ, ◌+◌, List, [], ◌∷◌, ◌++◌, Bool, false, ◌==◌, if◌then◌else◌}
use Rattle.std.specs.List.{list_any}
use Rattle.std.specs.Fmt.{decimal, signed_decimal}
use Rattle.std.specs.Option.{option_map_or}
use lib.Chars.{codes}
use Rattle.tl_instr.specs.declared.instr.Instr.{Instr}
use Rattle.tl_instr.specs.declared.instr.Instr.TheVariants.{Set, Copy, Add, Subtract, Multiply, Divide, Jump, JumpIfLess, JumpIfEqual, Repeat, RepeatBy, End, First, Child, Move, Release, Get, Put, Kids, Emit, Return}
use Rattle.tl_instr.specs.declared.version.Version.{Version}
use Rattle.tl_instr.specs.declared.version.Version.TheVariants.{One, Two}
use Rattle.tl_instr.specs.Codes.{CodeValue}
use Rattle.tl_instr.specs.Instructions.{target}
use Rattle.tl_asm.specs.Words.{Word}

abbrev pub value_word : ℕ → Word
value_word n = 118 ∷ decimal n

abbrev pub node_word : ℕ → Word
node_word n = 110 ∷ decimal n

-- `L` followed by the position
abbrev pub label_word : ℕ → Word
label_word pc = 76 ∷ decimal pc

-- the words of an instruction, with this label in place of its target
abbrev pub words_to : Word → Instr → List Word
words_to label (Set to number) = codes "set" ∷ value_word to ∷ signed_decimal number ∷ []
words_to label (Copy to from) = codes "copy" ∷ value_word to ∷ value_word from ∷ []
words_to label (Add to left right otherwise) = codes "add" ∷ value_word to ∷ value_word left ∷ value_word right ∷ codes "else" ∷ label ∷ []
words_to label (Subtract to left right otherwise) = codes "sub" ∷ value_word to ∷ value_word left ∷ value_word right ∷ codes "else" ∷ label ∷ []
words_to label (Multiply to left right otherwise) = codes "mul" ∷ value_word to ∷ value_word left ∷ value_word right ∷ codes "else" ∷ label ∷ []
words_to label (Divide to left right otherwise) = codes "div" ∷ value_word to ∷ value_word left ∷ value_word right ∷ codes "else" ∷ label ∷ []
words_to label (Jump to) = codes "jmp" ∷ label ∷ []
words_to label (JumpIfLess left right to) = codes "jlt" ∷ value_word left ∷ value_word right ∷ label ∷ []
words_to label (JumpIfEqual left right to) = codes "jeq" ∷ value_word left ∷ value_word right ∷ label ∷ []
words_to label (Repeat count) = codes "rep" ∷ decimal count ∷ []
words_to label (RepeatBy turns count) = codes "repv" ∷ value_word turns ∷ decimal count ∷ []
words_to label End = codes "end" ∷ []
words_to label (First to number otherwise) = codes "first" ∷ node_word to ∷ value_word number ∷ codes "else" ∷ label ∷ []
words_to label (Child to parent number otherwise) = codes "child" ∷ node_word to ∷ node_word parent ∷ value_word number ∷ codes "else" ∷ label ∷ []
words_to label (Move to from) = codes "move" ∷ node_word to ∷ node_word from ∷ []
words_to label (Release node) = codes "rel" ∷ node_word node ∷ []
words_to label (Get to node field) = codes "get" ∷ value_word to ∷ node_word node ∷ decimal field ∷ []
words_to label (Put node field from) = codes "put" ∷ node_word node ∷ decimal field ∷ value_word from ∷ []
words_to label (Kids to node) = codes "kids" ∷ value_word to ∷ node_word node ∷ []
words_to label (Emit from) = codes "emit" ∷ value_word from ∷ []
words_to label Return = codes "ret" ∷ []

-- the words of an instruction, with its target's position as the label
abbrev pub instr_words : Instr → List Word
instr_words i = words_to (option_map_or label_word (target i) []) i

-- the words, separated by one space, and a line feed
abbrev pub line_of : List Word → List ℕ
line_of [] = 10 ∷ []
line_of (word ∷ []) = word ++ 10 ∷ []
line_of (word ∷ next ∷ words) = word ++ 32 ∷ line_of (next ∷ words)

abbrev pub instr_line : Instr → List ℕ
instr_line i = line_of (instr_words i)

-- whether an instruction has this position as its target
abbrev pub is_target : List Instr → ℕ → Bool
is_target instrs pc = list_any (λ i. option_map_or (λ t. t == pc) (target i) false) instrs

-- the label's line if the position is a target, otherwise nothing
abbrev pub label_line : List Instr → ℕ → List ℕ
label_line instrs pc = if is_target instrs pc then line_of ((label_word pc ++ 58 ∷ []) ∷ []) else []

-- the lines from position pc on
abbrev pub lines_from : List Instr → ℕ → List Instr → List ℕ
lines_from instrs pc [] = label_line instrs pc
lines_from instrs pc (i ∷ is) = label_line instrs pc ++ (instr_line i ++ lines_from instrs (pc + 1) is)

-- the version's line, if it isn't the first version, and the arity's line
abbrev pub header_lines : Version → ℕ → List ℕ
header_lines One arity = line_of (codes "arity" ∷ decimal arity ∷ [])
header_lines Two arity = line_of (codes "version" ∷ codes "2" ∷ []) ++ line_of (codes "arity" ∷ decimal arity ∷ [])

abbrev pub listing : CodeValue → List ℕ
listing c = header_lines c.version c.arity ++ lines_from c.instrs 0 c.instrs
