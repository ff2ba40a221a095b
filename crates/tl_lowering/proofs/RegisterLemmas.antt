-- Registers of numbers, counted in machine words.
use Rattle.std.proofs.Common.{◌≡◌, ℕ, ◌-◌, ◌^◌, ◌≤◌, sym, subst, arith}
use Rattle.std.specs.Prelude.{min}
use Rattle.tl_instr.specs.declared.operand.TheConstants.{VALUE_REGISTERS}
use Rattle.tl_lowering.specs.declared.program.Expression.{Expression}
use Rattle.tl_lowering.specs.Registers.{behind, registers_of, registers_for, HasTemporaries, HasRegisters}

-- the count is small enough
pub has_temporaries : (e : Expression) (t v needed : ℕ) → v ≡ t → needed ≡ min (registers_of e v) (2 ^ 64 - 1) → needed ≤ VALUE_REGISTERS → HasTemporaries e t
has_temporaries e t v needed f is few = subst (HasTemporaries e) f (omega arith)

pub has_registers : (e : Expression) (t v needed : ℕ) → v ≡ t → needed ≡ min (registers_for e v) (2 ^ 64 - 1) → needed ≤ VALUE_REGISTERS → HasRegisters e t
has_registers e t v needed f is few = subst (HasRegisters e) f (omega arith)

-- the first free register after an operand
pub free_behind : (e : Expression) (t v free : ℕ) → HasRegisters e t → v ≡ t → free ≡ min (behind e v) (2 ^ 64 - 1) → free ≡ behind e t
free_behind e t v free has f is =
    let here : HasRegisters e v = subst (HasRegisters e) (sym f) has in
    subst (λ n. free ≡ behind e n) f (omega arith)
