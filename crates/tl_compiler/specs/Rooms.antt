-- Which registers the code of a statement needs.
use Rattle.std.specs.Prelude.{◌≡◌, ℕ, ◌+◌, ◌<◌, ◌≤◌}
use Rattle.tl_instr.specs.declared.operand.TheConstants.{VALUE_REGISTERS, NODE_REGISTERS}
use Rattle.tl_lowering.specs.declared.program.Procedure.{Procedure}
use Rattle.tl_lowering.specs.declared.program.Statement.{Statement}
use Rattle.tl_lowering.specs.declared.program.Statement.TheVariants as S
use Rattle.tl_lowering.specs.Fit.{HasConditionRoom, HasPlaceRoom}
use Rattle.tl_lowering.specs.Registers.{behind, HasTemporaries, HasRegisters}
use Rattle.tl_lowering.specs.Sound.{IsInOrder, nodes_behind}

-- each new value has the next register, where the first d registers hold values
abbrev pub IsNumbered : Statement → ℕ → Type 0
IsNumbered S.Skip d = Unit {0}
IsNumbered (S.Sequence' p a q b) d = IsNumbered a d × IsNumbered b d
IsNumbered (S.Assign v e) d = Unit {0}
IsNumbered (S.Write n f e) d = Unit {0}
IsNumbered (S.Emit e) d = Unit {0}
IsNumbered (S.Free n) d = Unit {0}
IsNumbered (S.Descend n e) d = Unit {0}
IsNumbered (S.Take n k) d = Unit {0}
IsNumbered S.Break d = Unit {0}
IsNumbered S.Return d = Unit {0}
IsNumbered S.Fail d = Unit {0}
IsNumbered (S.If' c p a q b) d = IsNumbered a d × IsNumbered b d
IsNumbered (S.Let' v e p a) d = (v ≡ d) × IsNumbered a (d + 1)
IsNumbered (S.LetElse' v e p a q o) d = (v ≡ d) × IsNumbered a (d + 1) × IsNumbered o d
IsNumbered (S.Lock' place p a q o) d = IsNumbered a d × IsNumbered o d
IsNumbered (S.Try' p a q b) d = IsNumbered a d × IsNumbered b d
IsNumbered (S.Repeat' w p a) d = IsNumbered a d
IsNumbered (S.RepeatUpTo' e w p a) d = IsNumbered a d
IsNumbered (S.At' offset p a) d = IsNumbered a d

-- a procedure that can be compiled
pub record IsReady (source : Procedure) : Type 0 where
  pub in_order : IsInOrder source
  pub numbered : IsNumbered source.body source.arity

-- there are enough registers for the code of a statement, where the first d value registers hold values and m is the first free node register
abbrev pub Fits : Statement → ℕ → ℕ → Type 0
Fits S.Skip d m = Unit {0}
Fits (S.Sequence' p a q b) d m = Fits a d m × Fits b d m
Fits (S.Assign v e) d m = HasTemporaries e d
Fits (S.Write n f e) d m = HasRegisters e d
Fits (S.Emit e) d m = HasRegisters e d
Fits (S.Free n) d m = Unit {0}
Fits (S.Descend n e) d m = HasRegisters e d × (m < NODE_REGISTERS)
Fits (S.Take n k) d m = Unit {0}
Fits S.Break d m = Unit {0}
Fits S.Return d m = Unit {0}
Fits S.Fail d m = Unit {0}
Fits (S.If' c p a q b) d m = HasConditionRoom c d × Fits a d m × Fits b d m
Fits (S.Let' v e p a) d m = HasTemporaries e v × Fits a (v + 1) m
Fits (S.LetElse' v e p a q o) d m = HasTemporaries e v × Fits a (v + 1) m × Fits o d m
Fits (S.Lock' place p a q o) d m = HasPlaceRoom place d × Fits a d (nodes_behind place) × Fits o d m
Fits (S.Try' p a q b) d m = Fits a d m × Fits b d m
Fits (S.Repeat' w p a) d m = Fits a d m
Fits (S.RepeatUpTo' e w p a) d m = HasRegisters e d × (behind e d + 1 ≤ VALUE_REGISTERS) × Fits a d m
Fits (S.At' offset p a) d m = Fits a d m
