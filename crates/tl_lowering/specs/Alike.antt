-- When two core forms are the same except for the memory that their parts occupy: each box may be a different one with the same content.
use Rattle.std.specs.Prelude.{◌≡◌, ℕ, ℤ, List, [], ◌∷◌}
use Rattle.tl_syntax.specs.declared.operator.Operator.{Operator}
use Rattle.tl_lowering.specs.declared.program.Expression.{Expression}
use Rattle.tl_lowering.specs.declared.program.Expression.TheVariants as E
use Rattle.tl_lowering.specs.declared.program.Condition.{Condition}
use Rattle.tl_lowering.specs.declared.program.Condition.TheVariants as C
use Rattle.tl_lowering.specs.declared.program.Place.{Place}
use Rattle.tl_lowering.specs.declared.program.Place.TheVariants as P
use Rattle.tl_lowering.specs.declared.program.Procedure.{Procedure}
use Rattle.tl_lowering.specs.declared.program.Statement.{Statement}
use Rattle.tl_lowering.specs.declared.program.Statement.TheVariants as S

pub data SameNumber : Expression → Expression → Type 0 where
  same_constant : {v w : ℤ} → v ≡ w → SameNumber (E.Constant v) (E.Constant w)
  same_value : {x y : ℕ} → x ≡ y → SameNumber (E.Value x) (E.Value y)
  same_field : {m n f g : ℕ} → m ≡ n → f ≡ g → SameNumber (E.Field m f) (E.Field n g)
  same_children : {m n : ℕ} → m ≡ n → SameNumber (E.Children m) (E.Children n)
  same_operation : {o r : Operator} {p q u v : _} {a b c d : Expression} → o ≡ r → SameNumber a c → SameNumber b d →
      SameNumber (E.Calculated' o p a q b) (E.Calculated' r u c v d)

pub data SameCondition : Condition → Condition → Type 0 where
  same_less : {a b c d : Expression} → SameNumber a c → SameNumber b d → SameCondition (C.Less a b) (C.Less c d)
  same_greater : {a b c d : Expression} → SameNumber a c → SameNumber b d → SameCondition (C.Greater a b) (C.Greater c d)
  same_equal : {a b c d : Expression} → SameNumber a c → SameNumber b d → SameCondition (C.Equal a b) (C.Equal c d)
  same_not : {p q : _} {a b : Condition} → SameCondition a b → SameCondition (C.Not' p a) (C.Not' q b)
  same_and : {p q u v : _} {a b c d : Condition} → SameCondition a c → SameCondition b d → SameCondition (C.And' p a q b) (C.And' u c v d)

pub data SamePlace : Place → Place → Type 0 where
  same_node : {m n : ℕ} {e f : Expression} → m ≡ n → SameNumber e f → SamePlace (P.Node m e) (P.Node n f)
  same_child : {m n r s : ℕ} {e f : Expression} → m ≡ n → r ≡ s → SameNumber e f → SamePlace (P.Child m r e) (P.Child n s f)
  same_pair : {m n k l r s : ℕ} {a b c d : Expression} → m ≡ n → k ≡ l → r ≡ s → SameNumber a c → SameNumber b d →
      SamePlace (P.Pair m k r a b) (P.Pair n l s c d)

pub data SameStatement : Statement → Statement → Type 0 where
  same_skip : SameStatement S.Skip S.Skip
  same_sequence : {p q u v : _} {a b c d : Statement} → SameStatement a c → SameStatement b d → SameStatement (S.Sequence' p a q b) (S.Sequence' u c v d)
  same_assign : {x y : ℕ} {e f : Expression} → x ≡ y → SameNumber e f → SameStatement (S.Assign x e) (S.Assign y f)
  same_write : {m n k l : ℕ} {e f : Expression} → m ≡ n → k ≡ l → SameNumber e f → SameStatement (S.Write m k e) (S.Write n l f)
  same_emit : {e f : Expression} → SameNumber e f → SameStatement (S.Emit e) (S.Emit f)
  same_free : {m n : ℕ} → m ≡ n → SameStatement (S.Free m) (S.Free n)
  same_descend : {m n : ℕ} {e f : Expression} → m ≡ n → SameNumber e f → SameStatement (S.Descend m e) (S.Descend n f)
  same_take : {m n k l : ℕ} → m ≡ n → k ≡ l → SameStatement (S.Take m k) (S.Take n l)
  same_break : SameStatement S.Break S.Break
  same_return : SameStatement S.Return S.Return
  same_fail : SameStatement S.Fail S.Fail
  same_if : {p q u v : _} {c d : Condition} {a b x y : Statement} → SameCondition c d → SameStatement a x → SameStatement b y → SameStatement (S.If' c p a q b) (S.If' d u x v y)
  same_let : {p q : _} {x y : ℕ} {e f : Expression} {a b : Statement} → x ≡ y → SameNumber e f → SameStatement a b → SameStatement (S.Let' x e p a) (S.Let' y f q b)
  same_let_else : {p q u v : _} {x y : ℕ} {e f : Expression} {a b c d : Statement} → x ≡ y → SameNumber e f → SameStatement a c → SameStatement b d →
      SameStatement (S.LetElse' x e p a q b) (S.LetElse' y f u c v d)
  same_lock : {p q u v : _} {k l : Place} {a b c d : Statement} → SamePlace k l → SameStatement a c → SameStatement b d → SameStatement (S.Lock' k p a q b) (S.Lock' l u c v d)
  same_try : {p q u v : _} {a b c d : Statement} → SameStatement a c → SameStatement b d → SameStatement (S.Try' p a q b) (S.Try' u c v d)
  same_repeat : {p q : _} {w v : ℕ} {a b : Statement} → w ≡ v → SameStatement a b → SameStatement (S.Repeat' w p a) (S.Repeat' v q b)
  same_repeat_up_to : {p q : _} {w v : ℕ} {e f : Expression} {a b : Statement} → SameNumber e f → w ≡ v → SameStatement a b →
      SameStatement (S.RepeatUpTo' e w p a) (S.RepeatUpTo' f v q b)
  same_at : {p q : _} {i j : ℕ} {a b : Statement} → i ≡ j → SameStatement a b → SameStatement (S.At' i p a) (S.At' j q b)

-- the statements are the same, one by one
pub data AllSame : List Statement → List Statement → Type 0 where
  none_same : AllSame [] []
  more_same : {a b : Statement} {xs ys : List Statement} → SameStatement a b → AllSame xs ys → AllSame (a ∷ xs) (b ∷ ys)

pub record SameProcedure (p q : Procedure) : Type 0 where
  pub name : p.name.items ≡ q.name.items
  pub offset : p.offset ≡ q.offset
  pub arity : p.arity ≡ q.arity
  pub body : SameStatement p.body q.body

-- the procedures are the same, one by one
pub data SameProcedures : List Procedure → List Procedure → Type 0 where
  no_procedures : SameProcedures [] []
  more_procedures : {p q : Procedure} {ps qs : List Procedure} → SameProcedure p q → SameProcedures ps qs → SameProcedures (p ∷ ps) (q ∷ qs)
