-- The part of a block that has been read, and what the whole block is lowered to.
use Rattle.std.specs.Prelude.{◌≡◌, ℕ, ◌+◌, ◌≤◌, List, [], ◌∷◌, ◌++◌, Bool, true, false, Option, None, Some, reverse, take, slice_get, pos}
use Rattle.std.specs.declared.alloc.Global.{Global}
use Rattle.std.specs.declared.vec.Vec.{Vec}
use Rattle.tl_budget.specs.declared.limits.TheConstants.{MAX_DEPTH}
use Rattle.tl_syntax.specs.Codes.{code_of}
use Rattle.tl_syntax.specs.declared.failure.Failure.{Failure}
use Rattle.tl_syntax.specs.declared.failure.Failure.TheVariants as F
use Rattle.tl_syntax.specs.declared.parsed.Name.{Name}
use Rattle.tl_syntax.specs.declared.parsed.Expression.{Expression as TextExpression}
use Rattle.tl_syntax.specs.declared.parsed.Place.{Place as TextPlace}
use Rattle.tl_syntax.specs.declared.parsed.Action.{Action}
use Rattle.tl_syntax.specs.declared.parsed.Action.TheVariants as A
use Rattle.tl_syntax.specs.declared.parsed.Declaration.{Declaration}
use Rattle.tl_syntax.specs.declared.parsed.Declaration.TheVariants as D
use Rattle.tl_syntax.specs.declared.parsed.Part.{Part}
use Rattle.tl_syntax.specs.declared.parsed.Otherwise.{Otherwise, out-Otherwise}
use Rattle.tl_syntax.specs.declared.parsed.Statement.{Statement as TextStatement}
use Rattle.tl_syntax.specs.declared.parsed.StatementForm.{StatementForm}
use Rattle.tl_syntax.specs.declared.parsed.StatementForm.TheVariants as T
use Rattle.tl_lowering.specs.declared.lowering.Binding.{Binding}
use Rattle.tl_lowering.specs.declared.lowering.Binding.TheVariants as B
use Rattle.tl_lowering.specs.declared.lowering.Draft.{Draft}
use Rattle.tl_lowering.specs.declared.lowering.Head.{Head}
use Rattle.tl_lowering.specs.declared.lowering.Head.TheVariants as H
use Rattle.tl_lowering.specs.declared.lowering.Opened.{Opened}
use Rattle.tl_lowering.specs.declared.naming.Locking.{Locking}
use Rattle.tl_lowering.specs.declared.paths.Flow.{Flow}
use Rattle.tl_lowering.specs.declared.program.Expression.{Expression}
use Rattle.tl_lowering.specs.declared.program.Expression.TheVariants as E
use Rattle.tl_lowering.specs.declared.program.Place.{Place}
use Rattle.tl_lowering.specs.declared.program.Statement.{Statement}
use Rattle.tl_lowering.specs.declared.program.Statement.TheVariants as S
use Rattle.tl_lowering.specs.declared.readers.Readers.{Readers}
use Rattle.tl_lowering.specs.Failing.{in_part, number_failure, place_failure, is_told, IsFailure}
use Rattle.tl_lowering.specs.Outcomes.{may_fail}
use Rattle.tl_lowering.specs.Registers.{HasTemporaries}
use Rattle.tl_lowering.specs.Fit.{loops}
use Rattle.tl_lowering.specs.Names.{Names, index_of, inside, IsNew, HasValue, with_value, with_place}
use Rattle.tl_lowering.specs.Naming.{IsNumber, IsPlace, Locks, IsHalved, declares}
use Rattle.tl_lowering.specs.Paths.{known}
use Rattle.tl_lowering.specs.Reading.{Leaves, IsAtOffset, IsTried, IsBlock, AreStatements, IsStatement, IsGiven}

-- ---- a declaration

-- whether the statement declares names for the rest of its block
abbrev pub opens : StatementForm → Bool
opens (T.Act' action o) = declares action
opens form = false

-- what a `let` or a `lock` is about to declare
pub data IsOpening (names : Names) (form : StatementForm) : Head → Type 0 where
  opening_value : (other : Option Otherwise) {name : Name} {number : TextExpression} {x : ℕ} {e : Expression} →
      form ≡ T.Act (A.Let name number) other → x ≡ names.values → IsNew names name → HasValue names → IsNumber names number.form e → HasTemporaries e names.values →
      IsOpening names form (H.Value name x e)
  opening_nodes : (other : Option Otherwise) {text : TextPlace} {locking : Locking} → form ≡ T.Act (A.Lock text) other →
      Locks names text locking → IsOpening names form (H.Nodes locking)

-- the head of the statement's declaration; None if it declares nothing
abbrev pub IsHeadOf : Names → StatementForm → Option Head → Type 0
IsHeadOf names form None = opens form ≡ false
IsHeadOf names form (Some head) = IsOpening names form head

-- how a declaration may fail before its `else`
abbrev pub head_failure : Head → Option Failure
head_failure (H.Value name x e) = number_failure (may_fail e)
head_failure (H.Nodes locking) = Some (place_failure locking.place)

-- what a declaration without an `else` does where it fails and the code is read
pub record IsMissing (readers : Readers) (head : Head) (a : Statement) : Type 0 where
  pub failure : Failure
  pub told : is_told readers.code (head_failure head) ≡ true
  pub failure_is : head_failure head ≡ Some failure
  pub leaves_code : IsFailure readers.code (E.Constant (code_of failure)) a

-- the `else` of a declaration, if there is one, or if it fails and the code is read
pub data IsElse (before : List Declaration) (readers : Readers) (names : Names) (form : StatementForm) (head : Head) : Option (Statement × Flow) → Type 0 where
  no_else : {action : Action} → form ≡ T.Act action None → is_told readers.code (head_failure head) ≡ false → IsElse before readers names form head None
  missing_else : {action : Action} {a : Statement} {flow : Flow} → form ≡ T.Act action None → IsMissing readers head a → IsElse before readers names form head (Some (a, flow))
  one_else : {action : Action} {o : Otherwise} {a : Statement} {flow : Flow} → form ≡ T.Act action (Some o) →
      IsBlock before readers names (out-Otherwise o).body.items a → IsElse before readers names form head (Some (a, flow))

abbrev pub IsElseOf : List Declaration → Readers → Names → StatementForm → Head → Option (Statement × Flow) → Type 0
IsElseOf before readers names form head other = (action : Action) (o : Option Otherwise) → form ≡ T.Act action o → IsElse before readers names form head other

-- a missing `else` fails
abbrev pub other_of : Option (Statement × Flow) → Statement
other_of None = S.Fail
other_of (Some other) = other.0

-- a declaration with its `else`, and the meanings of names after it
pub data Opens (before : List Declaration) (readers : Readers) (names : Names) (form : StatementForm) : Binding → Names → Type 0 where
  opens_value : {name : Name} {number : TextExpression} {x : ℕ} {e : Expression} → form ≡ T.Act (A.Let name number) None →
      x ≡ names.values → IsNew names name → HasValue names → IsNumber names number.form e → HasTemporaries e names.values →
      is_told readers.code (number_failure (may_fail e)) ≡ false → Opens before readers names form (B.Value x e) (with_value names name)
  opens_value_told : {name : Name} {number : TextExpression} {x : ℕ} {e : Expression} {other : Statement} → form ≡ T.Act (A.Let name number) None →
      x ≡ names.values → IsNew names name → HasValue names → IsNumber names number.form e → HasTemporaries e names.values →
      is_told readers.code (number_failure (may_fail e)) ≡ true → IsFailure readers.code (E.Constant (code_of F.Number)) other →
      Opens before readers names form (B.ValueElse x e other) (with_value names name)
  opens_value_else : {name : Name} {number : TextExpression} {o : Otherwise} {x : ℕ} {e : Expression} {other : Statement} →
      form ≡ T.Act (A.Let name number) (Some o) → x ≡ names.values → IsNew names name → HasValue names → IsNumber names number.form e → HasTemporaries e names.values →
      IsBlock before readers names (out-Otherwise o).body.items other → Leaves other → Opens before readers names form (B.ValueElse x e other) (with_value names name)
  opens_nodes : {text : TextPlace} {place : Place} {other : Statement} → form ≡ T.Act (A.Lock text) None → IsPlace names text place →
      IsFailure readers.code (E.Constant (code_of (place_failure place))) other → Opens before readers names form (B.Nodes place other) (with_place names text)
  opens_nodes_else : {text : TextPlace} {o : Otherwise} {place : Place} {other : Statement} → form ≡ T.Act (A.Lock text) (Some o) →
      IsPlace names text place → IsBlock before readers names (out-Otherwise o).body.items other → Leaves other →
      Opens before readers names form (B.Nodes place other) (with_place names text)

-- the declaration with the rest of its block
pub data Binds : Binding → Statement → Statement → Type 0 where
  binds_value : {x : ℕ} {e : Expression} {p : _} {rest : Statement} → Binds (B.Value x e) rest (S.Let' x e p rest)
  binds_value_else : {x : ℕ} {e : Expression} {p q : _} {rest other : Statement} →
      Binds (B.ValueElse x e other) rest (S.LetElse' x e p rest q other)
  binds_nodes : {place : Place} {p q : _} {rest other : Statement} → Binds (B.Nodes place other) rest (S.Lock' place p rest q other)

-- the same after the block's statements before the declaration
pub record Encloses (o : Opened) (rest whole : Statement) : Type 0 where
  pub bound : Statement
  pub at_offset : Statement
  pub bound_is : Binds o.binding rest bound
  pub placed_is : IsAtOffset o.offset bound at_offset
  pub joined : IsHalved whole (o.earlier.items ++ at_offset ∷ [])

-- ---- a block

-- what a block with open declarations is lowered to; the declarations are listed with the last first
pub data Ends : List Opened → List Statement → List Statement → Type 0 where
  none_open : {items : List Statement} → Ends [] items items
  last_open : {o : Opened} {outer : List Opened} {items all : List Statement} {rest bound at_offset : Statement} → IsHalved rest items →
      Binds o.binding rest bound → IsAtOffset o.offset bound at_offset → Ends outer (o.earlier.items ++ at_offset ∷ []) all →
      Ends (o ∷ outer) items all

-- what the whole block is lowered to if these statements follow the part that was read
abbrev pub Becomes : Draft → List Statement → List Statement → Type 0
Becomes draft items all = Ends (reverse draft.opened.items) (draft.statements.items ++ items) all

-- the whole block, if nothing follows
pub record IsFinished (draft : Draft) (whole : Statement) : Type 0 where
  pub parts : List Statement
  pub becomes : Becomes draft [] parts
  pub joined : IsHalved whole parts

-- if control doesn't go on, nothing follows
abbrev pub MayFollow : Flow → List TextStatement → Type 0
MayFollow flow rest = known flow.after ≡ None → rest ≡ []

-- the block is still lowered to `all` if s and then the rest follow the part that was read
pub record IsExtended (before : List Declaration) (readers : Readers) (names : Names) (s : TextStatement) (rest : List TextStatement) (draft : Draft) (all : List Statement) : Type 0 where
  pub items : List Statement
  pub are : AreStatements before readers names (s ∷ rest) items
  pub becomes : Becomes draft items all

-- a statement with the block of its `else`
pub record IsHandled (before : List Declaration) (readers : Readers) (names : Names) (body : Statement) (handler : List TextStatement) (whole : Statement) : Type 0 where
  pub other : Statement
  pub block : IsBlock before readers names handler other
  pub tried : IsTried body other whole

-- a statement whose failure leaves its code in the next value register, with the block of its `else`, in which the name denotes the code
pub record IsHeard (before : List Declaration) (readers : Readers) (names : Names) (why : Name) (body : Statement) (handler : List TextStatement) (whole : Statement) : Type 0 where
  pub other : Statement
  pub attempt : Statement
  pub block : IsBlock before readers (with_value names why) handler other
  pub tried : IsTried body other attempt
  pub bound : Binds (B.Value names.values (E.Constant (pos 0))) attempt whole

-- a `try` of these blocks, wherever the text has them in memory
abbrev pub IsTry : List Declaration → Readers → Names → Option Name → List TextStatement → List TextStatement → Statement → Type 0
IsTry before readers names why body handler whole =
    (xs ys : Vec TextStatement Global) → body ≡ xs.items → handler ≡ ys.items → IsStatement before readers names (T.Try why xs ys) whole

-- ---- a part where it is used

pub record IsUsed (before : List Declaration) (readers : Readers) (names : Names) (name : Name) (arguments : List TextExpression) (whole : Statement) : Type 0 where
  pub index : ℕ
  pub part : Part
  pub index_is : index_of names name ≡ Some index
  pub part_is : slice_get before index ≡ Some (D.Part part)
  pub given : IsGiven (take index before) (in_part readers) names (inside index names) part.parameters.items arguments part.body.items whole
  pub nests : names.loops + loops whole ≤ MAX_DEPTH
