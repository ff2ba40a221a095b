-- The value registers in which numbers are computed, and how many registers that takes.
use Rattle.std.specs.Prelude.{ℕ, ◌+◌, ◌≤◌, Option, Some, None, is_some, max, if◌then◌else◌}
use Rattle.std.specs.Option.{unwrap_or}
use Rattle.tl_instr.specs.declared.operand.TheConstants.{VALUE_REGISTERS}
use Rattle.tl_lowering.specs.declared.program.Expression.{Expression}
use Rattle.tl_lowering.specs.declared.program.Expression.TheVariants as E

-- the register of a value; other numbers have none
abbrev pub own_register : Expression → Option ℕ
own_register (E.Value x) = Some x
own_register e = None

-- the register of an operand: a value's own register, otherwise t
abbrev pub register_of : Expression → ℕ → ℕ
register_of e t = unwrap_or (own_register e) t

-- the first free register after an operand
abbrev pub behind : Expression → ℕ → ℕ
behind e t = if is_some (own_register e) then t else t + 1

-- the number of registers needed for the operands of a number, where the first t are in use
abbrev pub registers_of : Expression → ℕ → ℕ
registers_of (E.Calculated' o p a q b) t =
    max (max (registers_of a t) (behind a t)) (max (registers_of b (behind a t)) (behind b (behind a t)))
registers_of e t = 0

-- the same including the number itself, unless it is a value
abbrev pub registers_for : Expression → ℕ → ℕ
registers_for e t = max (registers_of e t) (behind e t)

-- there are enough registers for the operands of a number
abbrev pub HasTemporaries : Expression → ℕ → Type 0
HasTemporaries e t = registers_of e t ≤ VALUE_REGISTERS

-- the same including the number itself
abbrev pub HasRegisters : Expression → ℕ → Type 0
HasRegisters e t = registers_for e t ≤ VALUE_REGISTERS
