-- What reads the value of the name whose symbol is x: each says whether the part of the text does.
use Rattle.std.specs.Prelude.{ℕ, ℤ, nat_eq, List, [], ◌∷◌, ◌++◌, Bool, false, ◌||◌, Option, Some, None}
use Rattle.std.specs.declared.vec.Vec.{Vec}
use Rattle.std.specs.declared.boxed.Box.{Box}
use Rattle.std.specs.declared.alloc.Global.{Global}
use Rattle.tl_syntax.specs.declared.operator.Operator.{Operator}
use Rattle.tl_syntax.specs.declared.parsed.Name.{Name}
use Rattle.tl_syntax.specs.declared.parsed.Comparison.{Comparison}
use Rattle.tl_syntax.specs.declared.parsed.Form.{Form}
use Rattle.tl_syntax.specs.declared.parsed.Form.TheVariants as F
use Rattle.tl_syntax.specs.declared.parsed.Expression.{Expression}
use Rattle.tl_syntax.specs.declared.parsed.Child.{Child}
use Rattle.tl_syntax.specs.declared.parsed.Place.{Place}
use Rattle.tl_syntax.specs.declared.parsed.Place.TheVariants as P
use Rattle.tl_syntax.specs.declared.parsed.Change.{Change}
use Rattle.tl_syntax.specs.declared.parsed.Change.TheVariants as H
use Rattle.tl_syntax.specs.declared.parsed.Leave.{Leave}
use Rattle.tl_syntax.specs.declared.parsed.Write.{Write}
use Rattle.tl_syntax.specs.declared.parsed.Action.{Action}
use Rattle.tl_syntax.specs.declared.parsed.Action.TheVariants as A
use Rattle.tl_syntax.specs.declared.parsed.Question.{Question}
use Rattle.tl_syntax.specs.declared.parsed.Question.TheVariants as Q
use Rattle.tl_syntax.specs.declared.parsed.Otherwise.{Otherwise, out-Otherwise}
use Rattle.tl_syntax.specs.declared.parsed.Statement.{Statement}
use Rattle.tl_syntax.specs.declared.parsed.StatementForm.{StatementForm}
use Rattle.tl_syntax.specs.declared.parsed.StatementForm.TheVariants as T

-- a number or a condition; the name of a node is none of a value
pub data Reads (x : ℕ) : Form → Bool → Type 0 where
  number : {w : ℤ} → Reads x (F.Number w) false
  named : {name : Name} → Reads x (F.Named name) (nat_eq name.symbol.0 x)
  field : {node field : Name} → Reads x (F.Field node field) false
  children : {node : Name} → Reads x (F.Children node) false
  negated : {a : Box Expression Global} {r : Bool} → Reads x a.value.form r → Reads x (F.Negated a) r
  calculated : {operator : Operator} {a b : Box Expression Global} {r s : Bool} → Reads x a.value.form r → Reads x b.value.form s → Reads x (F.Calculated operator a b) (r || s)
  compared : {k : Comparison} {a b : Box Expression Global} {r s : Bool} → Reads x a.value.form r → Reads x b.value.form s → Reads x (F.Compared k a b) (r || s)
  negation : {a : Box Expression Global} {r : Bool} → Reads x a.value.form r → Reads x (F.Not a) r
  conjunction : {a b : Box Expression Global} {r s : Bool} → Reads x a.value.form r → Reads x b.value.form s → Reads x (F.And a b) (r || s)
  disjunction : {a b : Box Expression Global} {r s : Bool} → Reads x a.value.form r → Reads x b.value.form s → Reads x (F.Or a b) (r || s)

-- one of these numbers
pub data AnyReads (x : ℕ) : List Expression → Bool → Type 0 where
  no_numbers : AnyReads x [] false
  more_numbers : {es : List Expression} (e : Expression) {r s : Bool} → AnyReads x es r → Reads x e.form s → AnyReads x (es ++ e ∷ []) (r || s)

-- the new number of one of these fields
pub data WritesRead (x : ℕ) : List Write → Bool → Type 0 where
  no_writes : WritesRead x [] false
  more_writes : {ws : List Write} (w : Write) {r s : Bool} → WritesRead x ws r → Reads x w.value.form s → WritesRead x (ws ++ w ∷ []) (r || s)

pub data PlaceReads (x : ℕ) : Place → Bool → Type 0 where
  node : {name : Name} {offset : ℕ} {e : Expression} {r : Bool} → Reads x e.form r → PlaceReads x (P.Node name offset e) r
  child : {c : Child} {r : Bool} → Reads x c.number.form r → PlaceReads x (P.Child c) r
  pair : {c d : Child} {r s : Bool} → Reads x c.number.form r → Reads x d.number.form s → PlaceReads x (P.Pair c d) (r || s)

pub data QuestionReads (x : ℕ) : Question → Bool → Type 0 where
  condition : {e : Expression} {r : Bool} → Reads x e.form r → QuestionReads x (Q.Condition e) r
  lock : {p : Place} {r : Bool} → PlaceReads x p r → QuestionReads x (Q.Lock p) r

-- an assignment of this kind reads the value that it changes, if something is added to it or subtracted from it
abbrev pub changes : Change → Name → ℕ → Bool
changes H.Set name x = false
changes H.Add name x = nat_eq name.symbol.0 x
changes H.Subtract name x = nat_eq name.symbol.0 x

-- the code of a condition's failure, if it has one
pub data ReasonReads (x : ℕ) : Option Expression → Bool → Type 0 where
  no_reason : ReasonReads x None false
  reason : {e : Expression} {r : Bool} → Reads x e.form r → ReasonReads x (Some e) r

pub data ActionReads (x : ℕ) : Action → Bool → Type 0 where
  lets : {name : Name} {e : Expression} {r : Bool} → Reads x e.form r → ActionReads x (A.Let name e) r
  assigns : {name : Name} {change : Change} {e : Expression} {r : Bool} → Reads x e.form r → ActionReads x (A.Assign name change e) (changes change name x || r)
  writes : {w : Write} {ws : Vec Write Global} {r s : Bool} → Reads x w.value.form r → WritesRead x ws.items s → ActionReads x (A.Write w ws) (r || s)
  emits : {es : Vec Expression Global} {r : Bool} → AnyReads x es.items r → ActionReads x (A.Emit es) r
  requires : {e : Expression} {why : Option Expression} {r s : Bool} → Reads x e.form r → ReasonReads x why s → ActionReads x (A.Require e why) (r || s)
  locks : {p : Place} {r : Bool} → PlaceReads x p r → ActionReads x (A.Lock p) r
  descends : {name : Name} {e : Expression} {r : Bool} → Reads x e.form r → ActionReads x (A.Descend name e) r
  takes : {name from : Name} → ActionReads x (A.Take name from) false
  frees : {name : Name} → ActionReads x (A.Free name) false
  leaves : {leave : Leave} → ActionReads x (A.Leave leave) false
  fails_with : {e : Expression} {r : Bool} → Reads x e.form r → ActionReads x (A.Fail e) r
  breaks_with : {es : Vec Expression Global} {r : Bool} → AnyReads x es.items r → ActionReads x (A.BreakWith es) r
  -- what a part is given
  uses : {name : Name} {es : Vec Expression Global} {r : Bool} → AnyReads x es.items r → ActionReads x (A.Use name es) r

mutual
  pub data BlockReads (x : ℕ) : List Statement → Bool → Type 0 where
    no_statements : BlockReads x [] false
    more_statements : {ss : List Statement} (s : Statement) {r t : Bool} → BlockReads x ss r → StatementReads x s.form t → BlockReads x (ss ++ s ∷ []) (r || t)

  -- the bound of a loop is a constant
  pub data StatementReads (x : ℕ) : StatementForm → Bool → Type 0 where
    act : {a : Action} {o : Option Otherwise} {r s : Bool} → ActionReads x a r → ElseReads x o s → StatementReads x (T.Act a o) (r || s)
    try : {why : Option Name} (xs ys : Vec Statement Global) {r s : Bool} → BlockReads x xs.items r → BlockReads x ys.items s → StatementReads x (T.Try why xs ys) (r || s)
    if : {q : Question} (xs ys : Vec Statement Global) {r s t : Bool} → QuestionReads x q r → BlockReads x xs.items s → BlockReads x ys.items t →
        StatementReads x (T.If q xs ys) (r || (s || t))
    repeat : {turns : Expression} {most : Option Expression} (xs : Vec Statement Global) {r s : Bool} → Reads x turns.form r → BlockReads x xs.items s →
        StatementReads x (T.Repeat turns most xs) (r || s)
    for_each : {child parent : Name} {index : Option Name} {most : Expression} (xs : Vec Statement Global) {r : Bool} → BlockReads x xs.items r →
        StatementReads x (T.ForEach child index parent most xs) r
    block_alone : (xs : Vec Statement Global) {r : Bool} → BlockReads x xs.items r → StatementReads x (T.Block xs) r
    search : {names : Vec Name Global} (xs ys zs : Vec Statement Global) {r s t : Bool} → BlockReads x xs.items r → BlockReads x ys.items s → BlockReads x zs.items t →
        StatementReads x (T.Search xs names ys zs) (r || (s || t))

  pub data ElseReads (x : ℕ) : Option Otherwise → Bool → Type 0 where
    no_else : ElseReads x None false
    some_else : {o : Otherwise} {r : Bool} → BlockReads x (out-Otherwise o).body.items r → ElseReads x (Some o) r
