-- The statement that a line contains.
use Rattle.std.specs.Prelude.{ℕ, ◌-◌, List, [], ◌∷◌, length, take, slice_index, Option, Some, None, option_map, ◌==◌, if◌then◌else◌}
use Rattle.std.specs.Str.{bytes_eq}
use lib.Chars.{codes}
use Rattle.tl_width.specs.Fields.{field_count}
use Rattle.tl_instr.specs.declared.instr.Instr.{Instr}
use Rattle.tl_instr.specs.declared.instr.Instr.TheVariants.{Set, Copy, Add, Subtract, Multiply, Divide, Jump, JumpIfLess, JumpIfEqual, Repeat, RepeatBy, End, First, Child, Move, Release, Get, Put, Kids, Emit, Return}
use Rattle.tl_instr.specs.declared.version.Version.TheVariants.{Two}
use Rattle.tl_instr.specs.Codes.{IsArity}
use Rattle.tl_instr.specs.Instructions.{IsInstr}
use Rattle.tl_asm.specs.declared.draft.Draft.{Draft}
use Rattle.tl_asm.specs.declared.statement.Statement.{Statement}
use Rattle.tl_asm.specs.declared.statement.Statement.TheVariants as statements
use Rattle.tl_asm.specs.Words.{Word, first_of, words_of, without_comment}
use Rattle.tl_asm.specs.Tokens.{◌>>=◌, number_in, value_register, node_register, signed_in, is_label}

-- An instruction whose target isn't resolved: the target is 0, and the label is kept beside it.
pub record DraftValue : Type 0 where
  pub instr : Instr
  pub label : Option Word

-- the draft with its label by value
abbrev pub view : Draft → DraftValue
view d = record { instr = d.instr; label = option_map (λ l. l.now) d.label }

abbrev pub plain : Instr → DraftValue
plain i = record { instr = i; label = None }

abbrev pub going : Word → Instr → DraftValue
going label i = record { instr = i; label = Some label }

-- reads the first word, and returns the result with the remaining words
abbrev pub token : {A : Type 0} → (Word → Option A) → List Word → Option (A × List Word)
token read words = first_of words >>= λ first. read first.0 >>= λ x. Some (x, first.1)

-- the word, if there is exactly one
abbrev pub only_of : List Word → Option Word
only_of [] = None
only_of (word ∷ []) = Some word
only_of (word ∷ next ∷ words) = None

abbrev pub last : {A : Type 0} → (Word → Option A) → List Word → Option A
last read words = only_of words >>= read

abbrev pub label_in : Word → Option Word
label_in word = if is_label word then Some word else None

abbrev pub else_in : Word → Option Word
else_in word = if bytes_eq word (codes "else") then Some word else None

-- `else` and a label
unfoldable pub otherwise_in : List Word → Option Word
otherwise_in words = do
  literal ← token else_in words
  last label_in literal.1

-- the instruction, if no words follow its name
unfoldable pub bare_in : Instr → List Word → Option DraftValue
bare_in i [] = Some (plain i)
bare_in i (word ∷ words) = None

unfoldable pub set_in : List Word → Option DraftValue
set_in words = do
  to ← token value_register words
  number ← last signed_in to.1
  Some (plain (Set to.0 number))

unfoldable pub copy_in : List Word → Option DraftValue
copy_in words = do
  to ← token value_register words
  from ← last value_register to.1
  Some (plain (Copy to.0 from))

-- three value registers, and the label that is used if the result doesn't exist
unfoldable pub arithmetic_in : List Word → Option (ℕ × ℕ × ℕ × Word)
arithmetic_in words = do
  to ← token value_register words
  left ← token value_register to.1
  right ← token value_register left.1
  label ← otherwise_in right.1
  Some (to.0, left.0, right.0, label)

unfoldable pub add_in : List Word → Option DraftValue
add_in words = do
  x ← arithmetic_in words
  Some (going x.3 (Add x.0 x.1 x.2 0))

unfoldable pub subtract_in : List Word → Option DraftValue
subtract_in words = do
  x ← arithmetic_in words
  Some (going x.3 (Subtract x.0 x.1 x.2 0))

unfoldable pub multiply_in : List Word → Option DraftValue
multiply_in words = do
  x ← arithmetic_in words
  Some (going x.3 (Multiply x.0 x.1 x.2 0))

unfoldable pub divide_in : List Word → Option DraftValue
divide_in words = do
  x ← arithmetic_in words
  Some (going x.3 (Divide x.0 x.1 x.2 0))

unfoldable pub jump_in : List Word → Option DraftValue
jump_in words = do
  label ← last label_in words
  Some (going label (Jump 0))

-- two value registers and a label
unfoldable pub comparison_in : List Word → Option (ℕ × ℕ × Word)
comparison_in words = do
  left ← token value_register words
  right ← token value_register left.1
  label ← last label_in right.1
  Some (left.0, right.0, label)

unfoldable pub jump_if_less_in : List Word → Option DraftValue
jump_if_less_in words = do
  x ← comparison_in words
  Some (going x.2 (JumpIfLess x.0 x.1 0))

unfoldable pub jump_if_equal_in : List Word → Option DraftValue
jump_if_equal_in words = do
  x ← comparison_in words
  Some (going x.2 (JumpIfEqual x.0 x.1 0))

unfoldable pub repeat_in : List Word → Option DraftValue
repeat_in words = do
  count ← last (number_in 65536) words
  Some (plain (Repeat count))

unfoldable pub repeat_by_in : List Word → Option DraftValue
repeat_by_in words = do
  turns ← token value_register words
  count ← last (number_in 65536) turns.1
  Some (plain (RepeatBy turns.0 count))

unfoldable pub first_in : List Word → Option DraftValue
first_in words = do
  to ← token node_register words
  number ← token value_register to.1
  label ← otherwise_in number.1
  Some (going label (First to.0 number.0 0))

unfoldable pub child_in : List Word → Option DraftValue
child_in words = do
  to ← token node_register words
  parent ← token node_register to.1
  number ← token value_register parent.1
  label ← otherwise_in number.1
  Some (going label (Child to.0 parent.0 number.0 0))

unfoldable pub move_in : List Word → Option DraftValue
move_in words = do
  to ← token node_register words
  from ← last node_register to.1
  Some (plain (Move to.0 from))

unfoldable pub release_in : List Word → Option DraftValue
release_in words = do
  node ← last node_register words
  Some (plain (Release node))

unfoldable pub get_in : List Word → Option DraftValue
get_in words = do
  to ← token value_register words
  node ← token node_register to.1
  field ← last (number_in field_count) node.1
  Some (plain (Get to.0 node.0 field))

unfoldable pub put_in : List Word → Option DraftValue
put_in words = do
  node ← token node_register words
  field ← token (number_in field_count) node.1
  from ← last value_register field.1
  Some (plain (Put node.0 field.0 from))

unfoldable pub kids_in : List Word → Option DraftValue
kids_in words = do
  to ← token value_register words
  node ← last node_register to.1
  Some (plain (Kids to.0 node))

unfoldable pub emit_in : List Word → Option DraftValue
emit_in words = do
  from ← last value_register words
  Some (plain (Emit from))

-- the instruction with this name, if the words are valid operands of it
unfoldable pub draft_in : Word → List Word → Option DraftValue
draft_in name words =
    if bytes_eq name (codes "set") then set_in words
    else (if bytes_eq name (codes "copy") then copy_in words
    else (if bytes_eq name (codes "add") then add_in words
    else (if bytes_eq name (codes "sub") then subtract_in words
    else (if bytes_eq name (codes "mul") then multiply_in words
    else (if bytes_eq name (codes "div") then divide_in words
    else (if bytes_eq name (codes "jmp") then jump_in words
    else (if bytes_eq name (codes "jlt") then jump_if_less_in words
    else (if bytes_eq name (codes "jeq") then jump_if_equal_in words
    else (if bytes_eq name (codes "rep") then repeat_in words
    else (if bytes_eq name (codes "end") then bare_in End words
    else (if bytes_eq name (codes "first") then first_in words
    else (if bytes_eq name (codes "child") then child_in words
    else (if bytes_eq name (codes "move") then move_in words
    else (if bytes_eq name (codes "rel") then release_in words
    else (if bytes_eq name (codes "get") then get_in words
    else (if bytes_eq name (codes "put") then put_in words
    else (if bytes_eq name (codes "kids") then kids_in words
    else (if bytes_eq name (codes "emit") then emit_in words
    else (if bytes_eq name (codes "ret") then bare_in Return words
    else (if bytes_eq name (codes "repv") then repeat_by_in words
    else None))))))))))))))))))))

pub data Said : Type 0 where
  Blank : Said
  Version2 : Said
  Takes : ℕ → Said
  Names : Word → Said
  Does : DraftValue → Said

abbrev pub names_in : Word → List Word → Option Said
names_in label [] = option_map Names (label_in label)
names_in label (word ∷ words) = None

-- the statement of the version's number: only 2 may be given
abbrev pub version_named : Word → Option Said
version_named word = if bytes_eq word (codes "2") then Some Version2 else None

-- the statement of the words: a version, an arity, a label or an instruction
unfoldable pub said_in : List Word → Option Said
said_in [] = Some Blank
said_in (name ∷ words) =
    if bytes_eq name (codes "version") then last version_named words
    else (if bytes_eq name (codes "arity") then option_map Takes (last (number_in 9) words)
    else (if slice_index name (length name - 1) == 58 then names_in (take (length name - 1) name) words
    else option_map Does (draft_in name words)))

-- the statement of a line, if the line has one of these forms
abbrev pub says : List ℕ → Option Said
says line = said_in (words_of (without_comment line))

-- the statement with its label by value
abbrev pub shown : Statement → Said
shown statements.Blank = Blank
shown statements.Version2 = Version2
shown (statements.Takes arity) = Takes arity
shown (statements.Names label) = Names label.now
shown (statements.Does draft) = Does (view draft)

-- an arity is valid; the operands of an instruction are in range, and its target is 0
abbrev pub IsSaid : Said → Type 0
IsSaid Blank = Unit {0}
IsSaid Version2 = Unit {0}
IsSaid (Takes arity) = IsArity arity
IsSaid (Names label) = Unit {0}
IsSaid (Does d) = IsInstr Two 0 d.instr
