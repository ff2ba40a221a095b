-- What the code of a statement needs: enough registers, and loops with a positive count that don't nest too deep.
use Rattle.std.specs.Prelude.{ℕ, suc, ◌+◌, ◌<◌, ◌≤◌, List, All, IsTrue, max}
use Rattle.tl_instr.specs.declared.operand.TheConstants.{VALUE_REGISTERS, NODE_REGISTERS}
use Rattle.tl_lowering.specs.declared.program.Condition.{Condition}
use Rattle.tl_lowering.specs.declared.program.Condition.TheVariants as C
use Rattle.tl_lowering.specs.declared.program.Expression.{Expression}
use Rattle.tl_lowering.specs.declared.program.Place.{Place}
use Rattle.tl_lowering.specs.declared.program.Place.TheVariants as P
use Rattle.tl_lowering.specs.declared.program.Statement.{Statement}
use Rattle.tl_lowering.specs.declared.program.Statement.TheVariants as S
use Rattle.tl_syntax.specs.Tokens.{stays_word}
use Rattle.tl_lowering.specs.Outcomes.{nodes_behind}
use Rattle.tl_lowering.specs.Registers.{behind, HasTemporaries, HasRegisters}

-- only letters, digits and `_`
abbrev pub IsWord : List ℕ → Type 0
IsWord bytes = All (λ b. IsTrue (stays_word b)) bytes

-- the nesting depth of the loops
abbrev pub loops : Statement → ℕ
loops (S.Sequence' p a q b) = max (loops a) (loops b)
loops (S.If' c p a q b) = max (loops a) (loops b)
loops (S.Let' v e p a) = loops a
loops (S.LetElse' v e p a q o) = max (loops a) (loops o)
loops (S.Lock' place p a q o) = max (loops a) (loops o)
loops (S.Try' p a q b) = max (loops a) (loops b)
loops (S.Repeat' w p a) = suc (loops a)
loops (S.RepeatUpTo' e w p a) = suc (loops a)
loops (S.At' offset p a) = loops a
loops s = 0

-- each loop has a positive count
abbrev pub AllTurn : Statement → Type 0
AllTurn (S.Sequence' p a q b) = AllTurn a × AllTurn b
AllTurn (S.If' c p a q b) = AllTurn a × AllTurn b
AllTurn (S.Let' v e p a) = AllTurn a
AllTurn (S.LetElse' v e p a q o) = AllTurn a × AllTurn o
AllTurn (S.Lock' place p a q o) = AllTurn a × AllTurn o
AllTurn (S.Try' p a q b) = AllTurn a × AllTurn b
AllTurn (S.Repeat' w p a) = (0 < w) × AllTurn a
AllTurn (S.RepeatUpTo' e w p a) = (0 < w) × AllTurn a
AllTurn (S.At' offset p a) = AllTurn a
AllTurn S.Skip = Unit {0}
AllTurn (S.Assign v e) = Unit {0}
AllTurn (S.Write n f e) = Unit {0}
AllTurn (S.Emit e) = Unit {0}
AllTurn (S.Free n) = Unit {0}
AllTurn (S.Descend n e) = Unit {0}
AllTurn (S.Take n k) = Unit {0}
AllTurn S.Break = Unit {0}
AllTurn S.Return = Unit {0}
AllTurn S.Fail = Unit {0}

-- the registers of the locked nodes exist
abbrev pub HasSlots : Place → Type 0
HasSlots (P.Node n e) = n < NODE_REGISTERS
HasSlots (P.Child n p e) = n < NODE_REGISTERS
HasSlots (P.Pair n k p a b) = (n < NODE_REGISTERS) × (k < NODE_REGISTERS)

-- all node registers of the statement exist, where it may use register m and those above it
abbrev pub AllSlots : Statement → ℕ → Type 0
AllSlots (S.Sequence' p a q b) m = AllSlots a m × AllSlots b m
AllSlots (S.Descend n e) m = m < NODE_REGISTERS
AllSlots (S.If' c p a q b) m = AllSlots a m × AllSlots b m
AllSlots (S.Let' v e p a) m = AllSlots a m
AllSlots (S.LetElse' v e p a q o) m = AllSlots a m × AllSlots o m
AllSlots (S.Lock' place p a q o) m = HasSlots place × AllSlots a (nodes_behind place) × AllSlots o m
AllSlots (S.Try' p a q b) m = AllSlots a m × AllSlots b m
AllSlots (S.Repeat' w p a) m = AllSlots a m
AllSlots (S.RepeatUpTo' e w p a) m = AllSlots a m
AllSlots (S.At' offset p a) m = AllSlots a m
AllSlots S.Skip m = Unit {0}
AllSlots (S.Assign v e) m = Unit {0}
AllSlots (S.Write n f e) m = Unit {0}
AllSlots (S.Emit e) m = Unit {0}
AllSlots (S.Free n) m = Unit {0}
AllSlots (S.Take n k) m = Unit {0}
AllSlots S.Break m = Unit {0}
AllSlots S.Return m = Unit {0}
AllSlots S.Fail m = Unit {0}

-- there are registers for both operands, the second one after those of the first
abbrev pub HasBoth : Expression → Expression → ℕ → Type 0
HasBoth a b d = HasRegisters a d × HasRegisters b (behind a d)

abbrev pub HasConditionRoom : Condition → ℕ → Type 0
HasConditionRoom (C.Less a b) d = HasBoth a b d
HasConditionRoom (C.Greater a b) d = HasBoth a b d
HasConditionRoom (C.Equal a b) d = HasBoth a b d
HasConditionRoom (C.Not' p c) d = HasConditionRoom c d
HasConditionRoom (C.And' p a q b) d = HasConditionRoom a d × HasConditionRoom b d

abbrev pub HasPlaceRoom : Place → ℕ → Type 0
HasPlaceRoom (P.Node n e) d = HasRegisters e d
HasPlaceRoom (P.Child n p e) d = HasRegisters e d
HasPlaceRoom (P.Pair n k p a b) d = HasBoth a b d

-- there are registers for all numbers of the statement, where the first d registers hold values
abbrev pub HasRoom : Statement → ℕ → Type 0
HasRoom S.Skip d = Unit {0}
HasRoom (S.Sequence' p a q b) d = HasRoom a d × HasRoom b d
HasRoom (S.Assign v e) d = HasTemporaries e d
HasRoom (S.Write n f e) d = HasRegisters e d
HasRoom (S.Emit e) d = HasRegisters e d
HasRoom (S.Free n) d = Unit {0}
HasRoom (S.Descend n e) d = HasRegisters e d
HasRoom (S.Take n k) d = Unit {0}
HasRoom S.Break d = Unit {0}
HasRoom S.Return d = Unit {0}
HasRoom S.Fail d = Unit {0}
HasRoom (S.If' c p a q b) d = HasConditionRoom c d × HasRoom a d × HasRoom b d
HasRoom (S.Let' v e p a) d = HasTemporaries e v × HasRoom a (d + 1)
HasRoom (S.LetElse' v e p a q o) d = HasTemporaries e v × HasRoom a (d + 1) × HasRoom o d
HasRoom (S.Lock' place p a q o) d = HasPlaceRoom place d × HasRoom a d × HasRoom o d
HasRoom (S.Try' p a q b) d = HasRoom a d × HasRoom b d
HasRoom (S.Repeat' w p a) d = HasRoom a d
-- the count has a register after those of the number
HasRoom (S.RepeatUpTo' e w p a) d = HasRegisters e d × (behind e d + 1 ≤ VALUE_REGISTERS) × HasRoom a d
HasRoom (S.At' offset p a) d = HasRoom a d
