-- What may lock a child of the node whose name has the symbol x: each says whether the part of the text may.
use Rattle.std.specs.Prelude.{ℕ, nat_eq, List, [], ◌∷◌, ◌++◌, Bool, false, ◌||◌, Option, Some, None}
use Rattle.std.specs.declared.vec.Vec.{Vec}
use Rattle.std.specs.declared.alloc.Global.{Global}
use Rattle.tl_syntax.specs.declared.parsed.Name.{Name}
use Rattle.tl_syntax.specs.declared.parsed.Expression.{Expression}
use Rattle.tl_syntax.specs.declared.parsed.Child.{Child}
use Rattle.tl_syntax.specs.declared.parsed.Place.{Place}
use Rattle.tl_syntax.specs.declared.parsed.Place.TheVariants as P
use Rattle.tl_syntax.specs.declared.parsed.Change.{Change}
use Rattle.tl_syntax.specs.declared.parsed.Leave.{Leave}
use Rattle.tl_syntax.specs.declared.parsed.Write.{Write}
use Rattle.tl_syntax.specs.declared.parsed.Action.{Action}
use Rattle.tl_syntax.specs.declared.parsed.Action.TheVariants as A
use Rattle.tl_syntax.specs.declared.parsed.Question.{Question}
use Rattle.tl_syntax.specs.declared.parsed.Question.TheVariants as Q
use Rattle.tl_syntax.specs.declared.parsed.Otherwise.{Otherwise, out-Otherwise}
use Rattle.tl_syntax.specs.declared.parsed.Statement.{Statement}
use Rattle.tl_syntax.specs.declared.parsed.StatementForm.{StatementForm}
use Rattle.tl_syntax.specs.declared.parsed.StatementForm.TheVariants as T
use Rattle.tl_warnings.specs.Reading.{AnyReads}

abbrev pub place_locks : ℕ → Place → Bool
place_locks x (P.Node name offset e) = false
place_locks x (P.Child c) = nat_eq c.parent.symbol.0 x
place_locks x (P.Pair c d) = nat_eq c.parent.symbol.0 x || nat_eq d.parent.symbol.0 x

pub data ActionLocks (x : ℕ) : Action → Bool → Type 0 where
  lets : {name : Name} {e : Expression} → ActionLocks x (A.Let name e) false
  assigns : {name : Name} {change : Change} {e : Expression} → ActionLocks x (A.Assign name change e) false
  writes : {w : Write} {ws : Vec Write Global} → ActionLocks x (A.Write w ws) false
  emits : {es : Vec Expression Global} → ActionLocks x (A.Emit es) false
  requires : {e : Expression} {why : Option Expression} → ActionLocks x (A.Require e why) false
  locks : {p : Place} → ActionLocks x (A.Lock p) (place_locks x p)
  descends : {name : Name} {e : Expression} → ActionLocks x (A.Descend name e) false
  takes : {name from : Name} → ActionLocks x (A.Take name from) false
  frees : {name : Name} → ActionLocks x (A.Free name) false
  leaves : {leave : Leave} → ActionLocks x (A.Leave leave) false
  fails_with : {e : Expression} → ActionLocks x (A.Fail e) false
  breaks_with : {es : Vec Expression Global} → ActionLocks x (A.BreakWith es) false
  -- a part that is given the node may
  uses : {name : Name} {es : Vec Expression Global} {r : Bool} → AnyReads x es.items r → ActionLocks x (A.Use name es) r

abbrev pub question_locks : ℕ → Question → Bool
question_locks x (Q.Condition e) = false
question_locks x (Q.Lock p) = place_locks x p

mutual
  pub data BlockLocks (x : ℕ) : List Statement → Bool → Type 0 where
    no_statements : BlockLocks x [] false
    more_statements : {ss : List Statement} (s : Statement) {r t : Bool} → BlockLocks x ss r → StatementLocks x s.form t → BlockLocks x (ss ++ s ∷ []) (r || t)

  pub data StatementLocks (x : ℕ) : StatementForm → Bool → Type 0 where
    act : {a : Action} {o : Option Otherwise} {r s : Bool} → ActionLocks x a r → ElseLocks x o s → StatementLocks x (T.Act a o) (r || s)
    try : {why : Option Name} (xs ys : Vec Statement Global) {r s : Bool} → BlockLocks x xs.items r → BlockLocks x ys.items s → StatementLocks x (T.Try why xs ys) (r || s)
    if : {q : Question} (xs ys : Vec Statement Global) {s t : Bool} → BlockLocks x xs.items s → BlockLocks x ys.items t →
        StatementLocks x (T.If q xs ys) (question_locks x q || (s || t))
    repeat : {turns : Expression} {most : Option Expression} (xs : Vec Statement Global) {r : Bool} → BlockLocks x xs.items r → StatementLocks x (T.Repeat turns most xs) r
    for_each : {child parent : Name} {index : Option Name} {most : Expression} (xs : Vec Statement Global) {r : Bool} → BlockLocks x xs.items r →
        StatementLocks x (T.ForEach child index parent most xs) (nat_eq parent.symbol.0 x || r)
    block_alone : (xs : Vec Statement Global) {r : Bool} → BlockLocks x xs.items r → StatementLocks x (T.Block xs) r
    search : {names : Vec Name Global} (xs ys zs : Vec Statement Global) {r s t : Bool} → BlockLocks x xs.items r → BlockLocks x ys.items s → BlockLocks x zs.items t →
        StatementLocks x (T.Search xs names ys zs) (r || (s || t))

  pub data ElseLocks (x : ℕ) : Option Otherwise → Bool → Type 0 where
    no_else : ElseLocks x None false
    some_else : {o : Otherwise} {r : Bool} → BlockLocks x (out-Otherwise o).body.items r → ElseLocks x (Some o) r
