-- A loop over the children of a node whose turns leave its place and its node alone: once its first turn has locked a child, each
-- turn finds the next one.
use Rattle.std.specs.Prelude.{ℕ, ◌^◌, ℤ, pos, negsuc, Bool, true, false, ◌&&◌, not, nat_eq, nat_lt}
use Rattle.std.specs.Ordering.{int_eq}
use Rattle.tl_instr.specs.declared.operand.TheConstants.{VALUE_REGISTERS}
use Rattle.tl_syntax.specs.declared.operator.Operator.TheVariants as O
use Rattle.tl_lowering.specs.declared.program.Expression.{Expression}
use Rattle.tl_lowering.specs.declared.program.Expression.TheVariants as E
use Rattle.tl_lowering.specs.declared.program.Place.{Place}
use Rattle.tl_lowering.specs.declared.program.Place.TheVariants as P
use Rattle.tl_lowering.specs.declared.program.Statement.{Statement}
use Rattle.tl_lowering.specs.declared.program.Statement.TheVariants as S

-- the lock puts nothing into node register n, and locks no child of its node
abbrev pub locks_elsewhere : Place → ℕ → Bool
locks_elsewhere (P.Node m e) n = not (nat_eq m n)
locks_elsewhere (P.Child m p e) n = not (nat_eq m n) && not (nat_eq p n)
locks_elsewhere (P.Pair m k p a b) n = not (nat_eq m n) && (not (nat_eq k n) && not (nat_eq p n))

-- the statement assigns nothing to value register x, puts nothing into node register n, and locks no child of its node
abbrev pub leaves_alone : Statement → ℕ → ℕ → Bool
leaves_alone S.Skip x n = true
leaves_alone (S.Sequence' p a q b) x n = leaves_alone a x n && leaves_alone b x n
leaves_alone (S.Assign v e) x n = not (nat_eq v x)
leaves_alone (S.Write m f e) x n = true
leaves_alone (S.Emit e) x n = true
leaves_alone (S.Free m) x n = true
leaves_alone (S.Descend m e) x n = not (nat_eq m n)
leaves_alone (S.Take m k) x n = not (nat_eq m n)
leaves_alone S.Break x n = true
leaves_alone S.Return x n = true
leaves_alone S.Fail x n = true
leaves_alone (S.If' c p a q b) x n = leaves_alone a x n && leaves_alone b x n
leaves_alone (S.Let' v e p a) x n = not (nat_eq v x) && leaves_alone a x n
leaves_alone (S.LetElse' v e p a q o) x n = not (nat_eq v x) && (leaves_alone a x n && leaves_alone o x n)
leaves_alone (S.Lock' place p a q o) x n = locks_elsewhere place n && (leaves_alone a x n && leaves_alone o x n)
leaves_alone (S.Try' p a q b) x n = leaves_alone a x n && leaves_alone b x n
leaves_alone (S.Repeat' w p a) x n = leaves_alone a x n
leaves_alone (S.RepeatUpTo' e w p a) x n = leaves_alone a x n
leaves_alone (S.At' offset p a) x n = leaves_alone a x n

abbrev pub is_value : Expression → ℕ → Bool
is_value (E.Value y) x = nat_eq y x
is_value e x = false

abbrev pub is_constant : Expression → ℤ → Bool
is_constant (E.Constant w) v = int_eq w v
is_constant e v = false

-- one more than value x
abbrev pub is_next : Expression → ℕ → Bool
is_next (E.Calculated' O.Add p a q b) x = is_value a x && is_constant b (pos 1)
is_next e x = false

-- value x is increased by 1
abbrev pub is_step : Statement → ℕ → Bool
is_step (S.Assign y e) x = is_next e x && nat_eq y x
is_step a x = false

abbrev pub is_fail : Statement → Bool
is_fail S.Fail = true
is_fail a = false

-- child x of the node in register n
abbrev pub is_child : Place → ℕ → ℕ → Bool
is_child (P.Child c m e) x n = nat_eq m n && is_value e x
is_child place x n = false

abbrev pub locks_next : Statement → ℕ → ℕ → Bool
locks_next (S.Lock' place p a q o) x n = is_child place x n && (leaves_alone a x n && is_fail o)
locks_next a x n = false

abbrev pub is_turn : Statement → ℕ → ℕ → Bool
is_turn (S.Sequence' p a q b) x n = locks_next b x n && is_step a x
is_turn a x n = false

-- turns of which there are as many as the node has children
abbrev pub goes_through : Expression → Statement → ℕ → Bool
goes_through (E.Children n) a x = is_turn a x n
goes_through e a x = false

-- the loop that follows, where value x is e
abbrev pub is_walk : ℕ → Expression → Statement → Bool
is_walk x e (S.RepeatUpTo' count w p a) = is_constant e (negsuc 0) && (goes_through count a x && (nat_lt x VALUE_REGISTERS && nat_lt w (2 ^ 16)))
is_walk x e a = false
