-- The instruction that a cell encodes. Operands that its opcode doesn't use are ignored.
use Rattle.std.specs.Prelude.{ℕ, ◌^◌, Option, Some, None, option_and_then, nat_lt, ◌==◌, if◌then◌else◌}
use Rattle.std.specs.Int.{w32, cast_signed}
use Rattle.tl_width.specs.Fields.{field_count}
use Rattle.tl_instr.specs.declared.operand.TheConstants.{VALUE_REGISTERS, NODE_REGISTERS}
use Rattle.tl_instr.specs.declared.cell.Cell.{Cell}
use Rattle.tl_instr.specs.declared.instr.Instr.{Instr}
use Rattle.tl_instr.specs.declared.instr.Instr.TheVariants.{Set, Copy, Add, Subtract, Multiply, Divide, Jump, JumpIfLess, JumpIfEqual, Repeat, RepeatBy, End, First, Child, Move, Release, Get, Put, Kids, Emit, Return}

infixl 10 ◌>>=◌
abbrev pub ◌>>=◌ : {A B : Type 0} → Option A → (A → Option B) → Option B
o >>= f = option_and_then f o

abbrev pub below : ℕ → ℕ → Option ℕ
below limit n = if nat_lt n limit then Some n else None

abbrev pub value_register : ℕ → Option ℕ
value_register n = below VALUE_REGISTERS n

abbrev pub node_register : ℕ → Option ℕ
node_register n = below NODE_REGISTERS n

abbrev pub field : ℕ → Option ℕ
field n = below field_count n

abbrev pub position : ℕ → Option ℕ
position n = below (2 ^ 16) n

unfoldable pub set_in : Cell → Option Instr
set_in c = do
  to ← value_register c.x
  Some (Set to (cast_signed w32 c.w))

unfoldable pub copy_in : Cell → Option Instr
copy_in c = do
  to ← value_register c.x
  from ← value_register c.y
  Some (Copy to from)

unfoldable pub add_in : Cell → Option Instr
add_in c = do
  to ← value_register c.x
  left ← value_register c.y
  right ← value_register c.z
  otherwise ← position c.w
  Some (Add to left right otherwise)

unfoldable pub subtract_in : Cell → Option Instr
subtract_in c = do
  to ← value_register c.x
  left ← value_register c.y
  right ← value_register c.z
  otherwise ← position c.w
  Some (Subtract to left right otherwise)

unfoldable pub multiply_in : Cell → Option Instr
multiply_in c = do
  to ← value_register c.x
  left ← value_register c.y
  right ← value_register c.z
  otherwise ← position c.w
  Some (Multiply to left right otherwise)

unfoldable pub divide_in : Cell → Option Instr
divide_in c = do
  to ← value_register c.x
  left ← value_register c.y
  right ← value_register c.z
  otherwise ← position c.w
  Some (Divide to left right otherwise)

unfoldable pub jump_in : Cell → Option Instr
jump_in c = do
  to ← position c.w
  Some (Jump to)

unfoldable pub jump_if_less_in : Cell → Option Instr
jump_if_less_in c = do
  left ← value_register c.x
  right ← value_register c.y
  to ← position c.w
  Some (JumpIfLess left right to)

unfoldable pub jump_if_equal_in : Cell → Option Instr
jump_if_equal_in c = do
  left ← value_register c.x
  right ← value_register c.y
  to ← position c.w
  Some (JumpIfEqual left right to)

unfoldable pub repeat_in : Cell → Option Instr
repeat_in c = do
  count ← position c.w
  Some (Repeat count)

unfoldable pub repeat_by_in : Cell → Option Instr
repeat_by_in c = do
  turns ← value_register c.x
  count ← position c.w
  Some (RepeatBy turns count)

unfoldable pub first_in : Cell → Option Instr
first_in c = do
  to ← node_register c.x
  number ← value_register c.y
  otherwise ← position c.w
  Some (First to number otherwise)

unfoldable pub child_in : Cell → Option Instr
child_in c = do
  to ← node_register c.x
  parent ← node_register c.y
  number ← value_register c.z
  otherwise ← position c.w
  Some (Child to parent number otherwise)

unfoldable pub move_in : Cell → Option Instr
move_in c = do
  to ← node_register c.x
  from ← node_register c.y
  Some (Move to from)

unfoldable pub release_in : Cell → Option Instr
release_in c = do
  node ← node_register c.x
  Some (Release node)

unfoldable pub get_in : Cell → Option Instr
get_in c = do
  to ← value_register c.x
  node ← node_register c.y
  from ← field c.z
  Some (Get to node from)

unfoldable pub put_in : Cell → Option Instr
put_in c = do
  node ← node_register c.x
  to ← field c.y
  from ← value_register c.z
  Some (Put node to from)

unfoldable pub kids_in : Cell → Option Instr
kids_in c = do
  to ← value_register c.x
  node ← node_register c.y
  Some (Kids to node)

unfoldable pub emit_in : Cell → Option Instr
emit_in c = do
  from ← value_register c.x
  Some (Emit from)

unfoldable pub instr_in : Cell → Option Instr
instr_in c =
    if c.opcode == 1 then set_in c
    else (if c.opcode == 2 then copy_in c
    else (if c.opcode == 3 then add_in c
    else (if c.opcode == 4 then subtract_in c
    else (if c.opcode == 5 then multiply_in c
    else (if c.opcode == 6 then divide_in c
    else (if c.opcode == 7 then jump_in c
    else (if c.opcode == 8 then jump_if_less_in c
    else (if c.opcode == 9 then jump_if_equal_in c
    else (if c.opcode == 10 then repeat_in c
    else (if c.opcode == 11 then Some End
    else (if c.opcode == 12 then first_in c
    else (if c.opcode == 13 then child_in c
    else (if c.opcode == 14 then move_in c
    else (if c.opcode == 15 then release_in c
    else (if c.opcode == 16 then get_in c
    else (if c.opcode == 17 then put_in c
    else (if c.opcode == 18 then kids_in c
    else (if c.opcode == 19 then emit_in c
    else (if c.opcode == 20 then Some Return
    else (if c.opcode == 21 then repeat_by_in c
    else None))))))))))))))))))))
