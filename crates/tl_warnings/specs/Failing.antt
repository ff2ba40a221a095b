-- What may fail, where each operation may, and each branch may be taken. Each says whether the part of the text may.
use Rattle.std.specs.Prelude.{ℤ, List, [], ◌∷◌, ◌++◌, Bool, true, false, ◌||◌, ◌&&◌, Option, Some, None, is_some}
use Rattle.std.specs.declared.vec.Vec.{Vec}
use Rattle.std.specs.declared.boxed.Box.{Box}
use Rattle.std.specs.declared.alloc.Global.{Global}
use Rattle.tl_syntax.specs.declared.operator.Operator.{Operator}
use Rattle.tl_syntax.specs.declared.parsed.Name.{Name}
use Rattle.tl_syntax.specs.declared.parsed.Comparison.{Comparison}
use Rattle.tl_syntax.specs.declared.parsed.Form.{Form}
use Rattle.tl_syntax.specs.declared.parsed.Form.TheVariants as F
use Rattle.tl_syntax.specs.declared.parsed.Expression.{Expression}
use Rattle.tl_syntax.specs.declared.parsed.Place.{Place}
use Rattle.tl_syntax.specs.declared.parsed.Change.{Change}
use Rattle.tl_syntax.specs.declared.parsed.Change.TheVariants as H
use Rattle.tl_syntax.specs.declared.parsed.Leave.{Leave}
use Rattle.tl_syntax.specs.declared.parsed.Leave.TheVariants as L
use Rattle.tl_syntax.specs.declared.parsed.Write.{Write}
use Rattle.tl_syntax.specs.declared.parsed.Action.{Action}
use Rattle.tl_syntax.specs.declared.parsed.Action.TheVariants as A
use Rattle.tl_syntax.specs.declared.parsed.Question.{Question}
use Rattle.tl_syntax.specs.declared.parsed.Question.TheVariants as Q
use Rattle.tl_syntax.specs.declared.parsed.Otherwise.{Otherwise, out-Otherwise}
use Rattle.tl_syntax.specs.declared.parsed.Statement.{Statement}
use Rattle.tl_syntax.specs.declared.parsed.StatementForm.{StatementForm}
use Rattle.tl_syntax.specs.declared.parsed.StatementForm.TheVariants as T

-- a number or a condition: it may if there is an operation in it
pub data Fails : Form → Bool → Type 0 where
  number : {w : ℤ} → Fails (F.Number w) false
  named : {name : Name} → Fails (F.Named name) false
  field : {node field : Name} → Fails (F.Field node field) false
  children : {node : Name} → Fails (F.Children node) false
  negated : {a : Box Expression Global} → Fails (F.Negated a) true
  calculated : {operator : Operator} {a b : Box Expression Global} → Fails (F.Calculated operator a b) true
  compared : {k : Comparison} {a b : Box Expression Global} {r s : Bool} → Fails a.value.form r → Fails b.value.form s → Fails (F.Compared k a b) (r || s)
  negation : {a : Box Expression Global} {r : Bool} → Fails a.value.form r → Fails (F.Not a) r
  conjunction : {a b : Box Expression Global} {r s : Bool} → Fails a.value.form r → Fails b.value.form s → Fails (F.And a b) (r || s)
  disjunction : {a b : Box Expression Global} {r s : Bool} → Fails a.value.form r → Fails b.value.form s → Fails (F.Or a b) (r || s)

-- one of these numbers
pub data AnyFails : List Expression → Bool → Type 0 where
  no_numbers : AnyFails [] false
  more_numbers : {es : List Expression} (e : Expression) {r s : Bool} → AnyFails es r → Fails e.form s → AnyFails (es ++ e ∷ []) (r || s)

-- a change of a value or a field by this number; a sum and a difference are operations
pub data ChangeFails : Change → Expression → Bool → Type 0 where
  set : {e : Expression} {r : Bool} → Fails e.form r → ChangeFails H.Set e r
  add : {e : Expression} → ChangeFails H.Add e true
  subtract : {e : Expression} → ChangeFails H.Subtract e true

pub data WritesFail : List Write → Bool → Type 0 where
  no_writes : WritesFail [] false
  more_writes : {ws : List Write} (w : Write) {r s : Bool} → WritesFail ws r → ChangeFails w.change w.value s → WritesFail (ws ++ w ∷ []) (r || s)

abbrev pub is_fail : Leave → Bool
is_fail L.Break = false
is_fail L.Return = false
is_fail L.Fail = true

pub data ActionFails : Action → Bool → Type 0 where
  lets : {name : Name} {e : Expression} {r : Bool} → Fails e.form r → ActionFails (A.Let name e) r
  assigns : {name : Name} {change : Change} {e : Expression} {r : Bool} → ChangeFails change e r → ActionFails (A.Assign name change e) r
  writes : {w : Write} {ws : Vec Write Global} {r s : Bool} → ChangeFails w.change w.value r → WritesFail ws.items s → ActionFails (A.Write w ws) (r || s)
  emits : {es : Vec Expression Global} {r : Bool} → AnyFails es.items r → ActionFails (A.Emit es) r
  requires : {e : Expression} {why : Option Expression} → ActionFails (A.Require e why) true
  locks : {p : Place} → ActionFails (A.Lock p) true
  descends : {name : Name} {e : Expression} → ActionFails (A.Descend name e) true
  takes : {name from : Name} → ActionFails (A.Take name from) false
  frees : {name : Name} → ActionFails (A.Free name) false
  leaves : {leave : Leave} → ActionFails (A.Leave leave) (is_fail leave)
  fails_with : {e : Expression} → ActionFails (A.Fail e) true
  breaks_with : {es : Vec Expression Global} {r : Bool} → AnyFails es.items r → ActionFails (A.BreakWith es) r
  -- any part may
  uses : {name : Name} {es : Vec Expression Global} → ActionFails (A.Use name es) true

-- what an `if` asks; where a lock doesn't succeed, the second block follows
pub data QuestionFails : Question → Bool → Type 0 where
  condition : {e : Expression} {r : Bool} → Fails e.form r → QuestionFails (Q.Condition e) r
  lock : {p : Place} → QuestionFails (Q.Lock p) false

mutual
  pub data BlockFails : List Statement → Bool → Type 0 where
    no_statements : BlockFails [] false
    more_statements : {ss : List Statement} (s : Statement) {r t : Bool} → BlockFails ss r → StatementFails s.form t → BlockFails (ss ++ s ∷ []) (r || t)

  -- where something handles a failure, only this may fail then
  pub data StatementFails : StatementForm → Bool → Type 0 where
    act : {a : Action} {o : Option Otherwise} {r s : Bool} → ActionFails a r → ElseFails o s → StatementFails (T.Act a o) (r && s)
    try : {why : Option Name} (xs ys : Vec Statement Global) {r s : Bool} → BlockFails xs.items r → BlockFails ys.items s → StatementFails (T.Try why xs ys) (r && s)
    if : {q : Question} (xs ys : Vec Statement Global) {r s t : Bool} → QuestionFails q r → BlockFails xs.items s → BlockFails ys.items t →
        StatementFails (T.If q xs ys) (r || (s || t))
    -- the turns may be more than the bound
    repeat : {turns : Expression} {most : Option Expression} (xs : Vec Statement Global) {r : Bool} → BlockFails xs.items r →
        StatementFails (T.Repeat turns most xs) (is_some most || r)
    -- and so may the children
    for_each : {child parent : Name} {index : Option Name} {most : Expression} (xs : Vec Statement Global) →
        StatementFails (T.ForEach child index parent most xs) true
    block_alone : (xs : Vec Statement Global) {r : Bool} → BlockFails xs.items r → StatementFails (T.Block xs) r
    search : {names : Vec Name Global} (xs ys zs : Vec Statement Global) {r s t : Bool} → BlockFails xs.items r → BlockFails ys.items s → BlockFails zs.items t →
        StatementFails (T.Search xs names ys zs) (r || (s || t))

  -- a failure without an `else` stays one
  pub data ElseFails : Option Otherwise → Bool → Type 0 where
    no_else : ElseFails None true
    some_else : {o : Otherwise} {r : Bool} → BlockFails (out-Otherwise o).body.items r → ElseFails (Some o) r
