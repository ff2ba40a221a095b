-- The core forms of a text's numbers, conditions, places and actions, in which names are replaced by registers and fields.
use Rattle.std.specs.Prelude.{◌≡◌, ◌<◌, ◌≤◌, ℕ, ◌+◌, ◌/◌, List, [], ◌∷◌, ◌++◌, length, take, drop, Bool, true, false, ◌||◌, ◌&&◌, nat_eq, Option, None, Some, ℤ, pos, negsuc, ◌+ℤ◌, ◌-ℤ◌, ◌*ℤ◌, int_div, int_rem, ◌^◌, nat_lt, if◌then◌else◌}
use Rattle.std.specs.Ordering.{int_eq}
use Rattle.std.specs.declared.vec.Vec.{Vec}
use Rattle.std.specs.declared.boxed.Box.{Box}
use Rattle.std.specs.declared.alloc.Global.{Global}
use Rattle.tl_syntax.specs.declared.operator.Operator.{Operator}
use Rattle.tl_syntax.specs.declared.operator.Operator.TheVariants as O
use Rattle.tl_syntax.specs.declared.parsed.Name.{Name}
use Rattle.tl_syntax.specs.declared.parsed.Comparison.{Comparison}
use Rattle.tl_syntax.specs.declared.parsed.Comparison.TheVariants as K
use Rattle.tl_syntax.specs.declared.parsed.Form.{Form}
use Rattle.tl_syntax.specs.declared.parsed.Form.TheVariants as F
use Rattle.tl_syntax.specs.declared.parsed.Expression.{Expression as TextExpression}
use Rattle.tl_syntax.specs.declared.parsed.Child.{Child}
use Rattle.tl_syntax.specs.declared.parsed.Place.{Place as TextPlace}
use Rattle.tl_syntax.specs.declared.parsed.Place.TheVariants as T
use Rattle.tl_syntax.specs.declared.parsed.Change.{Change}
use Rattle.tl_syntax.specs.declared.parsed.Change.TheVariants as H
use Rattle.tl_syntax.specs.declared.parsed.Leave.TheVariants as L
use Rattle.tl_syntax.specs.declared.parsed.Write.{Write}
use Rattle.tl_syntax.specs.declared.parsed.Action.{Action}
use Rattle.tl_syntax.specs.declared.parsed.Action.TheVariants as A
use Rattle.tl_instr.specs.declared.operand.NodeRegister.{NodeRegister}
use Rattle.tl_instr.specs.declared.operand.TheConstants.{VALUE_REGISTERS}
use Rattle.tl_lowering.specs.declared.naming.Locking.{Locking}
use Rattle.tl_lowering.specs.declared.program.Expression.{Expression}
use Rattle.tl_lowering.specs.declared.program.Expression.TheVariants as E
use Rattle.tl_lowering.specs.declared.program.Condition.{Condition}
use Rattle.tl_lowering.specs.declared.program.Condition.TheVariants as C
use Rattle.tl_lowering.specs.declared.program.Place.{Place}
use Rattle.tl_lowering.specs.declared.program.Place.TheVariants as P
use Rattle.tl_lowering.specs.declared.program.Statement.{Statement}
use Rattle.tl_lowering.specs.declared.program.Statement.TheVariants as S
use Rattle.tl_lowering.specs.declared.scope.Meaning.TheVariants as M
use Rattle.tl_lowering.specs.Registers.{behind, HasTemporaries, HasRegisters}
use Rattle.tl_lowering.specs.Names.{Names, stands_for, IsNew, HasNode, field_named, with_node, with_place}

-- ---- numbers

-- the operation on two numbers
pub data IsCalculated (operator : Operator) (left right : Expression) : Expression → Type 0 where
  calculated : {p q : _} → IsCalculated operator left right (E.Calculated' operator p left q right)

-- whether the number has 32 bits
abbrev pub is_narrow : ℤ → Bool
is_narrow (pos n) = nat_lt n (2 ^ 31)
is_narrow (negsuc n) = nat_lt n (2 ^ 31)

-- a number that is written: one of more than 32 bits is computed from its quotient by 2 ^ 16 and the rest
pub data IsLiteral : ℤ → Expression → Type 0 where
  short_number : {w : ℤ} → is_narrow w ≡ true → IsLiteral w (E.Constant w)
  long_number : {w : ℤ} {a b e : Expression} → is_narrow w ≡ false → IsLiteral (int_div w (pos 65536)) a → IsCalculated O.Multiply a (E.Constant (pos 65536)) b →
      IsCalculated O.Add b (E.Constant (int_rem w (pos 65536))) e → IsLiteral w e

pub data IsNumber (names : Names) : Form → Expression → Type 0 where
  number : {w : ℤ} {e : Expression} → IsLiteral w e → IsNumber names (F.Number w) e
  constant : {name : Name} {w : ℤ} {i : ℕ} {e : Expression} → stands_for names name ≡ M.Constant w i → IsLiteral w e → IsNumber names (F.Named name) e
  value : {name : Name} {x : ℕ} → stands_for names name ≡ M.Value x → IsNumber names (F.Named name) (E.Value x)
  index : {name : Name} {x : ℕ} → stands_for names name ≡ M.Index x → IsNumber names (F.Named name) (E.Value x)
  field : {node field : Name} {n f : ℕ} → stands_for names node ≡ M.Node n → field_named names field ≡ Some f →
      IsNumber names (F.Field node field) (E.Field n f)
  children : {node : Name} {n : ℕ} → stands_for names node ≡ M.Node n → IsNumber names (F.Children node) (E.Children n)
  -- it is subtracted from 0
  negated : {a : Box TextExpression Global} {b c : Expression} → IsNumber names a.value.form b →
      IsCalculated O.Subtract (E.Constant (pos 0)) b c → IsNumber names (F.Negated a) c
  operation : {operator : Operator} {a b : Box TextExpression Global} {c d e : Expression} → IsNumber names a.value.form c →
      IsNumber names b.value.form d → IsCalculated operator c d e → IsNumber names (F.Calculated operator a b) e

-- the number, if it has 64 bits
abbrev pub fitting : ℤ → Option ℤ
fitting (pos n) = if nat_lt n (2 ^ 63) then Some (pos n) else None
fitting (negsuc n) = if nat_lt n (2 ^ 63) then Some (negsuc n) else None

-- the result of an operation on two constants; None if it doesn't have 64 bits, or if the divisor is 0
abbrev pub folded : Operator → ℤ → ℤ → Option ℤ
folded O.Add x y = fitting (x +ℤ y)
folded O.Subtract x y = fitting (x -ℤ y)
folded O.Multiply x y = fitting (x *ℤ y)
folded O.Divide x y = if int_eq y (pos 0) then None else fitting (int_div x y)

-- the number of a constant: it and each number on the way have 64 bits
pub data IsConstant (names : Names) : Form → ℤ → Type 0 where
  written : {w : ℤ} → IsConstant names (F.Number w) w
  known : {name : Name} {w : ℤ} {i : ℕ} → stands_for names name ≡ M.Constant w i → IsConstant names (F.Named name) w
  opposed : {a : Box TextExpression Global} {v w : ℤ} → IsConstant names a.value.form v → folded O.Subtract (pos 0) v ≡ Some w → IsConstant names (F.Negated a) w
  combined : {operator : Operator} {a b : Box TextExpression Global} {u v w : ℤ} → IsConstant names a.value.form u → IsConstant names b.value.form v →
      folded operator u v ≡ Some w → IsConstant names (F.Calculated operator a b) w

-- the largest number of turns of a loop, from 1 to 65,535
pub data IsCount (names : Names) : Form → ℕ → Type 0 where
  count : {form : Form} {w : ℕ} → 0 < w → w ≤ 65535 → IsConstant names form (pos w) → IsCount names form w

-- ---- conditions

-- the negation of a condition
pub data IsNot (a : Condition) : Condition → Type 0 where
  opposite : {p : _} → IsNot a (C.Not' p a)

-- the conjunction of two conditions
pub data IsBoth (a b : Condition) : Condition → Type 0 where
  together : {p q : _} → IsBoth a b (C.And' p a q b)

abbrev pub IsComparison : Comparison → Expression → Expression → Condition → Type 0
IsComparison K.Less a b c = c ≡ C.Less a b
IsComparison K.LessOrEqual a b c = IsNot (C.Greater a b) c
IsComparison K.Greater a b c = c ≡ C.Greater a b
IsComparison K.GreaterOrEqual a b c = IsNot (C.Less a b) c
IsComparison K.Equal a b c = c ≡ C.Equal a b
IsComparison K.NotEqual a b c = IsNot (C.Equal a b) c

-- the comparison of two numbers
pub record IsCompared (names : Names) (k : Comparison) (a b : Form) (c : Condition) : Type 0 where
  pub left : Expression
  pub right : Expression
  pub left_is : IsNumber names a left
  pub right_is : IsNumber names b right
  pub left_fits : HasRegisters left names.values
  pub right_fits : HasRegisters right (behind left names.values)
  pub condition_is : IsComparison k left right c

pub data IsCondition (names : Names) : Form → Condition → Type 0 where
  comparison : {k : Comparison} {a b : Box TextExpression Global} {c : Condition} → IsCompared names k a.value.form b.value.form c →
      IsCondition names (F.Compared k a b) c
  negation : {a : Box TextExpression Global} {c d : Condition} → IsCondition names a.value.form c → IsNot c d →
      IsCondition names (F.Not a) d
  conjunction : {a b : Box TextExpression Global} {c d e : Condition} → IsCondition names a.value.form c →
      IsCondition names b.value.form d → IsBoth c d e → IsCondition names (F.And a b) e
  -- either is true: it is not the case that both are false
  disjunction : {a b : Box TextExpression Global} {c d not_c not_d neither either : Condition} → IsCondition names a.value.form c →
      IsCondition names b.value.form d → IsNot c not_c → IsNot d not_d → IsBoth not_c not_d neither → IsNot neither either →
      IsCondition names (F.Or a b) either

-- ---- places

-- the place's nodes get the next registers
pub data IsPlace (names : Names) : TextPlace → Place → Type 0 where
  node : {name : Name} {offset : ℕ} {a : TextExpression} {e : Expression} → IsNew names name → HasNode names → IsNumber names a.form e →
      HasRegisters e names.values → IsPlace names (T.Node name offset a) (P.Node names.nodes e)
  child : {c : Child} {n : ℕ} {e : Expression} → IsNew names c.name → HasNode names → stands_for names c.parent ≡ M.Node n →
      IsNumber names c.number.form e → HasRegisters e names.values → IsPlace names (T.Child c) (P.Child names.nodes n e)
  pair : {c d : Child} {n : ℕ} {e f : Expression} → IsNew names c.name → IsNew (with_node names c.name) d.name →
      HasNode (with_node names c.name) → stands_for names c.parent ≡ M.Node n → stands_for names d.parent ≡ M.Node n →
      IsNumber names c.number.form e → HasRegisters e names.values → IsNumber names d.number.form f →
      HasRegisters f (behind e names.values) → IsPlace names (T.Pair c d) (P.Pair names.nodes (names.nodes + 1) n e f)

-- the names, with those of the nodes about to be locked
abbrev pub with_second : Names → Option (Name × NodeRegister) → Names
with_second names None = names
with_second names (Some second) = with_node names second.0

abbrev pub with_locking : Names → Locking → Names
with_locking names locking = with_second (with_node names locking.first.0) locking.second

-- the locking is that of the place, and declares the place's names
pub record Locks (names : Names) (text : TextPlace) (locking : Locking) : Type 0 where
  pub place_is : IsPlace names text locking.place
  pub names_are : with_locking names locking ≡ with_place names text

-- ---- statements one after another

pub data IsThen (first second : Statement) : Statement → Type 0 where
  then : {p q : _} → IsThen first second (S.Sequence' p first q second)

-- one statement that does these one after another, grouped by halves
pub data IsHalved : Statement → List Statement → Type 0 where
  none : IsHalved S.Skip []
  one : {a : Statement} → IsHalved a (a ∷ [])
  more : {a b whole : Statement} {xs : List Statement} → 2 ≤ length xs → IsHalved a (take (length xs / 2) xs) →
      IsHalved b (drop (length xs / 2) xs) → IsThen a b whole → IsHalved whole xs

-- ---- actions

-- the new number of a value or a field
abbrev pub IsChanged : Expression → Change → Expression → Expression → Type 0
IsChanged old H.Set operand new = new ≡ operand
IsChanged old H.Add operand new = IsCalculated O.Add old operand new
IsChanged old H.Subtract operand new = IsCalculated O.Subtract old operand new

-- the field k that a write changes, of the node that register n has, and its new number
pub record IsUpdate (names : Names) (w : Write) (n k : ℕ) (new : Expression) : Type 0 where
  pub operand : Expression
  pub node_is : stands_for names w.node ≡ M.Node n
  pub field_is : field_named names w.field ≡ Some k
  pub operand_is : IsNumber names w.value.form operand
  pub new_is : IsChanged (E.Field n k) w.change operand new

-- whether one of these writes is to field k of the node in register n
abbrev pub rewrites : Statement → ℕ → ℕ → Bool
rewrites (S.Sequence' p a q b) n k = rewrites a n k || rewrites b n k
rewrites (S.Write m f e) n k = nat_eq m n && nat_eq f k
rewrites s n k = false

-- All numbers are computed, in the registers from t on, and then all fields are written: first by `done`, which writes those whose numbers were computed before. No field is written twice.
pub data AreWritten (names : Names) : ℕ → List Write → Statement → Statement → Type 0 where
  all_computed : {t : ℕ} {done : Statement} → AreWritten names t [] done done
  next_computed : {t n k : ℕ} {w : Write} {ws : List Write} {e : Expression} {p : _} {done more body : Statement} → IsUpdate names w n k e →
      rewrites done n k ≡ false → t < VALUE_REGISTERS → HasTemporaries e t → IsThen done (S.Write n k (E.Value t)) more → AreWritten names (t + 1) ws more body →
      AreWritten names t (w ∷ ws) done (S.Let' t e p body)

-- one write, or several
pub data IsWritten (names : Names) : Write → List Write → Statement → Type 0 where
  one_write : {w : Write} {n k : ℕ} {e : Expression} → IsUpdate names w n k e → HasRegisters e names.values → IsWritten names w [] (S.Write n k e)
  several_writes : {v w : Write} {ws : List Write} {whole : Statement} → AreWritten names names.values (v ∷ w ∷ ws) S.Skip whole →
      IsWritten names v (w ∷ ws) whole

-- one statement for each number
pub data AreEmits (names : Names) : List TextExpression → List Statement → Type 0 where
  no_emits : AreEmits names [] []
  next_emit : {xs : List TextExpression} {emits : List Statement} {e : Expression} (a : TextExpression) → AreEmits names xs emits →
      IsNumber names a.form e → HasRegisters e names.values → AreEmits names (xs ++ a ∷ []) (emits ++ S.Emit e ∷ [])

-- a statement that emits these numbers one after another
pub record Emits (names : Names) (xs : List TextExpression) (whole : Statement) : Type 0 where
  pub parts : List Statement
  pub each : AreEmits names xs parts
  pub joined : IsHalved whole parts

-- whether the action declares names for the rest of its block
abbrev pub declares : Action → Bool
declares (A.Let name e) = true
declares (A.Lock p) = true
declares action = false

-- whether the action declares nothing, uses no part, and leaves no block
abbrev pub is_plain : Action → Bool
is_plain (A.Assign name change e) = true
is_plain (A.Write w ws) = true
is_plain (A.Emit xs) = true
is_plain (A.Descend n e) = true
is_plain (A.Take n from) = true
is_plain (A.Free n) = true
is_plain action = false

-- a plain action, or one that leaves a loop or the procedure
pub data IsAction (names : Names) : Action → Statement → Type 0 where
  assigns : {name : Name} {change : Change} {a : TextExpression} {x : ℕ} {e f : Expression} → stands_for names name ≡ M.Value x →
      IsNumber names a.form e → IsChanged (E.Value x) change e f → HasTemporaries f names.values →
      IsAction names (A.Assign name change a) (S.Assign x f)
  writes : {w : Write} {ws : Vec Write Global} {whole : Statement} → IsWritten names w ws.items whole → IsAction names (A.Write w ws) whole
  emits : {xs : Vec TextExpression Global} {whole : Statement} → Emits names xs.items whole → IsAction names (A.Emit xs) whole
  -- the child is first locked in the next node register
  descends : {node : Name} {a : TextExpression} {n : ℕ} {e : Expression} → HasNode names → stands_for names node ≡ M.Node n →
      IsNumber names a.form e → HasRegisters e names.values → IsAction names (A.Descend node a) (S.Descend n e)
  takes : {node from : Name} {n k : ℕ} → stands_for names node ≡ M.Node n → stands_for names from ≡ M.Node k →
      IsAction names (A.Take node from) (S.Take n k)
  frees : {node : Name} {n : ℕ} → stands_for names node ≡ M.Node n → IsAction names (A.Free node) (S.Free n)
  breaks : 0 < names.loops → IsAction names (A.Leave L.Break) S.Break
  returns : IsAction names (A.Leave L.Return) S.Return
