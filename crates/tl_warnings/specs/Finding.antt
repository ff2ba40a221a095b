-- The warnings of a text, in its order. Each definition has the warnings before a part of the text, and those behind it.
use Rattle.std.specs.Prelude.{ℕ, ℤ, List, [], ◌∷◌, ◌++◌, Bool, true, false, ◌||◌, Option, Some, None}
use Rattle.std.specs.declared.vec.Vec.{Vec}
use Rattle.std.specs.declared.alloc.Global.{Global}
use Rattle.tl_syntax.specs.declared.parsed.Name.{Name}
use Rattle.tl_syntax.specs.declared.parsed.Expression.{Expression}
use Rattle.tl_syntax.specs.declared.parsed.Action.{Action}
use Rattle.tl_syntax.specs.declared.parsed.Action.TheVariants as A
use Rattle.tl_syntax.specs.declared.parsed.Change.{Change}
use Rattle.tl_syntax.specs.declared.parsed.Child.{Child}
use Rattle.tl_syntax.specs.declared.parsed.Leave.{Leave}
use Rattle.tl_syntax.specs.declared.parsed.Place.{Place}
use Rattle.tl_syntax.specs.declared.parsed.Place.TheVariants as L
use Rattle.tl_syntax.specs.declared.parsed.Question.{Question}
use Rattle.tl_syntax.specs.declared.parsed.Question.TheVariants as Q
use Rattle.tl_syntax.specs.declared.parsed.Write.{Write}
use Rattle.tl_syntax.specs.declared.parsed.Otherwise.{Otherwise, out-Otherwise}
use Rattle.tl_syntax.specs.declared.parsed.Statement.{Statement}
use Rattle.tl_syntax.specs.declared.parsed.StatementForm.{StatementForm}
use Rattle.tl_syntax.specs.declared.parsed.StatementForm.TheVariants as T
use Rattle.tl_syntax.specs.declared.parsed.Procedure.{Procedure}
use Rattle.tl_syntax.specs.declared.parsed.Parameter.{Parameter}
use Rattle.tl_syntax.specs.declared.parsed.Parameter.TheVariants as P
use Rattle.tl_syntax.specs.declared.parsed.Part.{Part}
use Rattle.tl_syntax.specs.declared.parsed.Declaration.{Declaration}
use Rattle.tl_syntax.specs.declared.parsed.Declaration.TheVariants as D
use Rattle.tl_syntax.specs.Text.{IsText}
use Rattle.tl_warnings.specs.declared.warning.Needless.{Needless}
use Rattle.tl_warnings.specs.declared.warning.Needless.TheVariants as N
use Rattle.tl_warnings.specs.declared.warning.Warning.{Warning}
use Rattle.tl_warnings.specs.Reading.{BlockReads}
use Rattle.tl_warnings.specs.Failing.{ActionFails, BlockFails}
use Rattle.tl_warnings.specs.Walking.{BlockWalks}

-- one warning more, unless the thing is needed
abbrev pub unless : Bool → Needless → ℕ → List Warning → List Warning
unless true needless offset ws = ws
unless false needless offset ws = ws ++ record { needless = needless; offset = offset } ∷ []

-- the value of that name, where its name is known in these statements
pub data ValueWarns (name : Name) (known : List Statement) (ws : List Warning) : List Warning → Type 0 where
  value : {r : Bool} → BlockReads name.symbol.0 known r → ValueWarns name known ws (unless r N.Value name.offset ws)

-- the same, if there is a name
pub data NamedWarns (known : List Statement) (ws : List Warning) : Option Name → List Warning → Type 0 where
  no_value : NamedWarns known ws None ws
  some_value : {name : Name} {vs : List Warning} → ValueWarns name known ws vs → NamedWarns known ws (Some name) vs

-- the values of the first of these names
pub data ValuesWarn (known : List Statement) (ws : List Warning) : List Name → List Warning → Type 0 where
  no_values : ValuesWarn known ws [] ws
  more_values : {names : List Name} (name : Name) {vs us : List Warning} → ValuesWarn known ws names vs → ValueWarns name known vs us → ValuesWarn known ws (names ++ name ∷ []) us

-- the name of the value that an action declares for the rest of its block; a node that nothing reads is still locked
abbrev pub declared : Action → Option Name
declared (A.Let name e) = Some name
declared a = None

-- what is locked, whose names are known in these statements
pub data PlaceWarns (known : List Statement) (ws : List Warning) : Place → List Warning → Type 0 where
  one_node : {name : Name} {offset : ℕ} {e : Expression} {us : List Warning} → BlockWalks name.symbol.0 false known ws us → PlaceWarns known ws (L.Node name offset e) us
  one_child : {c : Child} {us : List Warning} → BlockWalks c.name.symbol.0 false known ws us → PlaceWarns known ws (L.Child c) us
  two_children : {c d : Child} {vs us : List Warning} → BlockWalks c.name.symbol.0 false known ws vs → BlockWalks d.name.symbol.0 false known vs us → PlaceWarns known ws (L.Pair c d) us

-- the nodes that an action locks for the rest of its block
pub data LockedWarns (rest : List Statement) (ws : List Warning) : Action → List Warning → Type 0 where
  lets : {name : Name} {e : Expression} → LockedWarns rest ws (A.Let name e) ws
  assigns : {name : Name} {change : Change} {e : Expression} → LockedWarns rest ws (A.Assign name change e) ws
  writes : {w : Write} {xs : Vec Write Global} → LockedWarns rest ws (A.Write w xs) ws
  emits : {es : Vec Expression Global} → LockedWarns rest ws (A.Emit es) ws
  requires : {e : Expression} {why : Option Expression} → LockedWarns rest ws (A.Require e why) ws
  locks : {p : Place} {us : List Warning} → PlaceWarns rest ws p us → LockedWarns rest ws (A.Lock p) us
  descends : {name : Name} {e : Expression} → LockedWarns rest ws (A.Descend name e) ws
  takes : {name from : Name} → LockedWarns rest ws (A.Take name from) ws
  frees : {name : Name} → LockedWarns rest ws (A.Free name) ws
  leaves : {leave : Leave} → LockedWarns rest ws (A.Leave leave) ws
  fails_with : {e : Expression} → LockedWarns rest ws (A.Fail e) ws
  breaks_with : {es : Vec Expression Global} → LockedWarns rest ws (A.BreakWith es) ws
  uses : {name : Name} {es : Vec Expression Global} → LockedWarns rest ws (A.Use name es) ws

-- the nodes that an `if` locks for its first block
pub data AskedWarns (body : List Statement) (ws : List Warning) : Question → List Warning → Type 0 where
  condition : {e : Expression} → AskedWarns body ws (Q.Condition e) ws
  lock : {p : Place} {us : List Warning} → PlaceWarns body ws p us → AskedWarns body ws (Q.Lock p) us

mutual
  pub data BlockWarns : List Statement → List Warning → List Warning → Type 0 where
    no_statements : {ws : List Warning} → BlockWarns [] ws ws
    next_statement : {s : Statement} {rest : List Statement} {ws vs us : List Warning} → StatementWarns s.offset s.form rest ws vs → BlockWarns rest vs us →
        BlockWarns (s ∷ rest) ws us

  -- a statement at this offset, with the rest of its block behind it
  pub data StatementWarns : ℕ → StatementForm → List Statement → List Warning → List Warning → Type 0 where
    act : {offset : ℕ} {a : Action} {o : Option Otherwise} {rest : List Statement} {r : Bool} {ws vs us ts : List Warning} →
        NamedWarns rest ws (declared a) vs → LockedWarns rest vs a us → ActionFails a r → ElseWarns r o us ts → StatementWarns offset (T.Act a o) rest ws ts
    try : {offset : ℕ} {why : Option Name} (xs ys : Vec Statement Global) {rest : List Statement} {r : Bool} {ws vs us ts : List Warning} →
        BlockFails xs.items r → BlockWarns xs.items (unless r N.Try offset ws) vs → NamedWarns ys.items vs why us → BlockWarns ys.items us ts →
        StatementWarns offset (T.Try why xs ys) rest ws ts
    if : {offset : ℕ} {q : Question} (xs ys : Vec Statement Global) {rest : List Statement} {ws vs us ts : List Warning} →
        AskedWarns xs.items ws q vs → BlockWarns xs.items vs us → BlockWarns ys.items us ts → StatementWarns offset (T.If q xs ys) rest ws ts
    repeat : {offset : ℕ} {turns : Expression} {most : Option Expression} (xs : Vec Statement Global) {rest : List Statement} {ws vs : List Warning} →
        BlockWarns xs.items ws vs → StatementWarns offset (T.Repeat turns most xs) rest ws vs
    for_each : {offset : ℕ} {child parent : Name} {index : Option Name} {most : Expression} (xs : Vec Statement Global) {rest : List Statement} {ws vs us ts : List Warning} →
        NamedWarns xs.items ws index vs → BlockWalks child.symbol.0 false xs.items vs us → BlockWarns xs.items us ts →
        StatementWarns offset (T.ForEach child index parent most xs) rest ws ts
    block_alone : {offset : ℕ} (xs : Vec Statement Global) {rest : List Statement} {ws vs : List Warning} →
        BlockWarns xs.items ws vs → StatementWarns offset (T.Block xs) rest ws vs
    search : {offset : ℕ} {names : Vec Name Global} (xs ys zs : Vec Statement Global) {rest : List Statement} {ws vs us ts all : List Warning} →
        BlockWarns xs.items ws vs → ValuesWarn ys.items vs names.items us → BlockWarns ys.items us ts → BlockWarns zs.items ts all →
        StatementWarns offset (T.Search xs names ys zs) rest ws all

  -- the `else` of what may fail or may not
  pub data ElseWarns : Bool → Option Otherwise → List Warning → List Warning → Type 0 where
    no_else : {r : Bool} {ws : List Warning} → ElseWarns r None ws ws
    some_else : {r : Bool} {o : Otherwise} {ws vs : List Warning} →
        BlockWarns (out-Otherwise o).body.items (unless r N.Else (out-Otherwise o).offset ws) vs → ElseWarns r (Some o) ws vs

-- an argument of a procedure
pub data ArgumentWarns (p : Procedure) (name : Name) (ws : List Warning) : List Warning → Type 0 where
  argument : {r s : Bool} → BlockReads name.symbol.0 p.body.items r → BlockReads name.symbol.0 p.otherwise.items s → ArgumentWarns p name ws (unless (r || s) N.Value name.offset ws)

-- its first arguments
pub data ArgumentsWarn (p : Procedure) (ws : List Warning) : List Name → List Warning → Type 0 where
  no_arguments : ArgumentsWarn p ws [] ws
  more_arguments : {names : List Name} (name : Name) {vs us : List Warning} → ArgumentsWarn p ws names vs → ArgumentWarns p name vs us → ArgumentsWarn p ws (names ++ name ∷ []) us

-- the `else` of a procedure whose body may fail or may not, at its first statement; an empty one is none
abbrev pub else_warned : Bool → List Statement → List Warning → List Warning
else_warned r [] ws = ws
else_warned r (s ∷ rest) ws = unless r N.Else s.offset ws

pub record ProcedureWarns (p : Procedure) (ws us : List Warning) : Type 0 where
  pub may_fail : Bool
  pub behind_arguments : List Warning
  pub behind_body : List Warning
  pub behind_why : List Warning
  pub arguments : ArgumentsWarn p ws p.arguments.items behind_arguments
  pub body : BlockWarns p.body.items behind_arguments behind_body
  pub fails : BlockFails p.body.items may_fail
  pub why : NamedWarns p.otherwise.items behind_body p.why behind_why
  pub otherwise : BlockWarns p.otherwise.items (else_warned may_fail p.otherwise.items behind_why) us

-- a name for what a part is given; a node that nothing uses is given all the same
pub data ParameterWarns (p : Part) (ws : List Warning) : Parameter → List Warning → Type 0 where
  node_parameter : {name : Name} {vs : List Warning} → BlockWalks name.symbol.0 false p.body.items ws vs → ParameterWarns p ws (P.Node name) vs
  variable_parameter : {name : Name} → ParameterWarns p ws (P.Variable name) ws
  value_parameter : {name : Name} {vs : List Warning} → ValueWarns name p.body.items ws vs → ParameterWarns p ws (P.Value name) vs

-- its first parameters
pub data ParametersWarn (p : Part) (ws : List Warning) : List Parameter → List Warning → Type 0 where
  no_parameters : ParametersWarn p ws [] ws
  more_parameters : {names : List Parameter} (name : Parameter) {vs us : List Warning} → ParametersWarn p ws names vs → ParameterWarns p vs name us →
      ParametersWarn p ws (names ++ name ∷ []) us

pub record PartWarns (p : Part) (ws us : List Warning) : Type 0 where
  pub behind_parameters : List Warning
  pub parameters : ParametersWarn p ws p.parameters.items behind_parameters
  pub body : BlockWarns p.body.items behind_parameters us

pub data DeclarationWarns (ws : List Warning) : Declaration → List Warning → Type 0 where
  field : {name : Name} {number : Expression} → DeclarationWarns ws (D.Field name number) ws
  constant : {name : Name} {value : Expression} → DeclarationWarns ws (D.Constant name value) ws
  procedure : {p : Procedure} {vs : List Warning} → ProcedureWarns p ws vs → DeclarationWarns ws (D.Procedure p) vs
  part : {p : Part} {vs : List Warning} → PartWarns p ws vs → DeclarationWarns ws (D.Part p) vs

-- the first of a text's declarations
pub data DeclarationsWarn (ws : List Warning) : List Declaration → List Warning → Type 0 where
  no_declarations : DeclarationsWarn ws [] ws
  more_declarations : {ds : List Declaration} (d : Declaration) {vs us : List Warning} → DeclarationsWarn ws ds vs → DeclarationWarns vs d us → DeclarationsWarn ws (ds ++ d ∷ []) us

-- These are the text's warnings, in its order.
pub record AreWarnings (text : List ℕ) (found : List Warning) : Type 0 where
  pub names : List (List ℕ)
  pub declarations : List Declaration
  pub read : IsText text names declarations
  pub warned : DeclarationsWarn [] declarations found
