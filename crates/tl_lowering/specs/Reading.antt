-- The core forms of blocks, procedures and texts.
use Rattle.std.specs.Prelude.{◌≡◌, ◌≤◌, ◌+◌, ℕ, suc, List, [], ◌∷◌, ◌++◌, Bool, true, false, Option, Some, None, length, take, get_or, slice_get, ℤ, pos, neg_ℤ}
use Rattle.tl_budget.specs.declared.limits.TheConstants.{MAX_DEPTH}
use Rattle.std.specs.declared.vec.Vec.{Vec}
use Rattle.std.specs.declared.alloc.Global.{Global}
use Rattle.tl_syntax.specs.declared.operator.Operator.TheVariants as O
use Rattle.tl_syntax.specs.declared.parsed.Name.{Name}
use Rattle.tl_syntax.specs.declared.parsed.Expression.{Expression as TextExpression}
use Rattle.tl_syntax.specs.declared.parsed.Place.{Place as TextPlace}
use Rattle.tl_syntax.specs.declared.parsed.Action.{Action}
use Rattle.tl_syntax.specs.declared.parsed.Action.TheVariants as A
use Rattle.tl_syntax.specs.declared.parsed.Question.TheVariants as Q
use Rattle.tl_syntax.specs.declared.parsed.Otherwise.{Otherwise, out-Otherwise}
use Rattle.tl_syntax.specs.declared.parsed.Statement.{Statement as TextStatement}
use Rattle.tl_syntax.specs.declared.parsed.StatementForm.{StatementForm}
use Rattle.tl_syntax.specs.declared.parsed.StatementForm.TheVariants as T
use Rattle.tl_syntax.specs.declared.parsed.Procedure.{Procedure as TextProcedure}
use Rattle.tl_syntax.specs.declared.parsed.Parameter.{Parameter}
use Rattle.tl_syntax.specs.declared.parsed.Parameter.TheVariants as G
use Rattle.tl_syntax.specs.declared.parsed.Part.{Part}
use Rattle.tl_syntax.specs.declared.parsed.Declaration.{Declaration}
use Rattle.tl_syntax.specs.declared.parsed.Declaration.TheVariants as D
use Rattle.tl_syntax.specs.Codes.{code_of}
use Rattle.tl_syntax.specs.Text.{IsText}
use Rattle.tl_syntax.specs.declared.failure.Failure.TheVariants as F
use Rattle.tl_syntax.specs.declared.parsed.Form.{Form}
use Rattle.tl_syntax.specs.declared.parsed.Leave.TheVariants as L
use Rattle.tl_instr.specs.declared.operand.Field.{Field}
use Rattle.tl_instr.specs.declared.operand.TheConstants.{VALUE_REGISTERS}
use Rattle.tl_lowering.specs.declared.program.Expression.{Expression}
use Rattle.tl_lowering.specs.declared.program.Expression.TheVariants as E
use Rattle.tl_lowering.specs.declared.program.Condition.{Condition}
use Rattle.tl_lowering.specs.declared.program.Condition.TheVariants as C
use Rattle.tl_lowering.specs.declared.program.Place.{Place}
use Rattle.tl_lowering.specs.declared.program.Place.TheVariants as P
use Rattle.tl_lowering.specs.declared.program.Statement.{Statement}
use Rattle.tl_lowering.specs.declared.program.Statement.TheVariants as S
use Rattle.tl_lowering.specs.declared.program.Procedure.{Procedure}
use Rattle.tl_lowering.specs.declared.scope.Meaning.TheVariants as M
use Rattle.tl_lowering.specs.Atomic.{IsAtomic}
use Rattle.tl_lowering.specs.declared.readers.Finding.{Finding}
use Rattle.tl_lowering.specs.declared.readers.Readers.{Readers}
use Rattle.tl_lowering.specs.Failing.{nothing_read, unread, reading, searching, in_part, number_failure, place_failure, is_told, IsFailure, IsMarked, IsRenewed}
use Rattle.tl_lowering.specs.Fit.{loops}
use Rattle.tl_lowering.specs.Giving.{IsNodeGiven, IsVariableGiven, IsValueGiven}
use Rattle.tl_lowering.specs.Outcomes.{may_fail, after}
use Rattle.tl_lowering.specs.Sets.{Nodes}
use Rattle.tl_lowering.specs.Registers.{behind, HasTemporaries, HasRegisters}
use Rattle.tl_lowering.specs.Names.{Names, without_meaning, stands_for, IsNew, HasNode, HasValue, HasLoop, in_loop, with_constant, with_field, index_of, inside, with_procedure, with_index, with_unnamed, with_value, with_values, with_room, with_variables, AreNew, AreFound, AreFresh, field_named, with_node, with_place}
use Rattle.tl_lowering.specs.Naming.{IsCalculated, IsNumber, IsConstant, IsCount, IsCondition, IsPlace, IsAction, IsThen, IsHalved}

-- a statement with its offset in the text
pub data IsAtOffset (offset : ℕ) (a : Statement) : Statement → Type 0 where
  at : {p : _} → IsAtOffset offset a (S.At' offset p a)

-- a statement with the handler of its failure
pub data IsTried (body handler : Statement) : Statement → Type 0 where
  tried : {p q : _} → IsTried body handler (S.Try' p body q handler)

-- control never goes on after the statement
abbrev pub Leaves : Statement → Type 0
Leaves s = (held : Nodes) → after s held ≡ None

-- the code of a failure, which takes no computing
pub record IsCode (names : Names) (form : Form) (e : Expression) : Type 0 where
  pub number_is : IsNumber names form e
  pub short : may_fail e ≡ false
  pub fits : HasTemporaries e names.values

-- the code of a condition's failure; without one it is 0
pub data IsReason (names : Names) : Option TextExpression → Expression → Type 0 where
  no_reason : IsReason names None (E.Constant (pos 0))
  reason : {code : TextExpression} {e : Expression} → IsCode names code.form e → IsReason names (Some code) e

-- a condition that is required, and the failure with its code where it doesn't hold
pub data IsRequired (readers : Readers) (names : Names) (form : Form) (why : Option TextExpression) : Statement → Type 0 where
  required : {p q : _} {c : Condition} {e : Expression} {refused : Statement} → IsCondition names form c → IsReason names why e → IsFailure readers.code e refused →
      IsRequired readers names form why (S.If' c p S.Skip q refused)

-- so many values, from register x on, are 0 before the statement
pub data AreNothing (x : ℕ) : ℕ → Statement → Statement → Type 0 where
  none_more : {a : Statement} → AreNothing x 0 a a
  one_more : {n : ℕ} {p : _} {a whole : Statement} → AreNothing x n (S.Let' (x + n) (E.Constant (pos 0)) p a) whole → AreNothing x (suc n) a whole

-- each number is put into a register of its own, from x on, and then the loop is left
pub data AreLeft (names : Names) (way : Statement) : ℕ → List TextExpression → Statement → Type 0 where
  none_left : {x : ℕ} → AreLeft names way x [] way
  next_left : {x : ℕ} {es : List TextExpression} {e : Expression} {rest whole : Statement} (a : TextExpression) → IsNumber names a.form e → HasTemporaries e names.values →
      AreLeft names way (x + 1) es rest → IsThen (S.Assign x e) rest whole → AreLeft names way x (a ∷ es) whole

-- what a loop that begins here is left with: a value that says whether it is, and so many above it
abbrev pub finding_at : Names → ℕ → Finding
finding_at names count = record { flag = names.values; count = count; depth = names.loops + 1 }

-- whether a loop was left with them
abbrev pub was_found : Finding → Condition
was_found f = C.Equal (E.Value f.flag) (E.Constant (pos 1))

-- As many turns as the node has children, each of which locks the next child. It fails if there are more children than turns, and where a child can't be locked.
pub data IsVisiting (index child parent turns : ℕ) (body : Statement) : Statement → Type 0 where
  visiting : {p q r s : _} {next : Expression} {turn : Statement} →
      IsCalculated O.Add (E.Value index) (E.Constant (pos 1)) next →
      IsThen (S.Assign index next) (S.Lock' (P.Child child parent (E.Value index)) p body q S.Fail) turn →
      IsVisiting index child parent turns body (S.Let' index (E.Constant (neg_ℤ (pos 1))) r (S.RepeatUpTo' (E.Children parent) turns s turn))

mutual
  pub data IsBlock : List Declaration → Readers → Names → List TextStatement → Statement → Type 0 where
    block : {before : List Declaration} {readers : Readers} {names : Names} {statements : List TextStatement} {parts : List Statement} {whole : Statement} →
        AreStatements before readers names statements parts → IsHalved whole parts → IsBlock before readers names statements whole

  -- the rest of the block after a `let` or a `lock` is the body of that declaration; its `else` leaves the block
  pub data AreStatements : List Declaration → Readers → Names → List TextStatement → List Statement → Type 0 where
    no_more : {before : List Declaration} {readers : Readers} {names : Names} → AreStatements before readers names [] []
    -- no statement follows one that leaves the block
    next : {before : List Declaration} {readers : Readers} {names : Names} {s : TextStatement} {rest : List TextStatement} {a b c : Statement} {parts : List Statement} →
        IsStatement before readers names s.form a → IsMarked readers.code a c → IsAtOffset s.offset c b → AreStatements before readers names rest parts → (Leaves a → rest ≡ []) →
        AreStatements before readers names (s ∷ rest) (b ∷ parts)
    let_rest : {before : List Declaration} {readers : Readers} {names : Names} {s : TextStatement} {rest : List TextStatement} {name : Name} {number : TextExpression} {e : Expression}
        {p : _} {body a : Statement} → s.form ≡ T.Act (A.Let name number) None → IsNew names name → HasValue names →
        IsNumber names number.form e → HasTemporaries e names.values → is_told readers.code (number_failure (may_fail e)) ≡ false →
        IsBlock before readers (with_value names name) rest body → IsAtOffset s.offset (S.Let' names.values e p body) a →
        AreStatements before readers names (s ∷ rest) (a ∷ [])
    -- a failure whose code is read leaves it
    let_told : {before : List Declaration} {readers : Readers} {names : Names} {s : TextStatement} {rest : List TextStatement} {name : Name} {number : TextExpression} {e : Expression}
        {p q : _} {body other a : Statement} → s.form ≡ T.Act (A.Let name number) None → IsNew names name → HasValue names →
        IsNumber names number.form e → HasTemporaries e names.values → is_told readers.code (number_failure (may_fail e)) ≡ true → IsFailure readers.code (E.Constant (code_of F.Number)) other →
        IsBlock before readers (with_value names name) rest body → IsAtOffset s.offset (S.LetElse' names.values e p body q other) a →
        AreStatements before readers names (s ∷ rest) (a ∷ [])
    let_else : {before : List Declaration} {readers : Readers} {names : Names} {s : TextStatement} {rest : List TextStatement} {name : Name} {number : TextExpression} {o : Otherwise}
        {e : Expression} {p q : _} {body other a : Statement} → s.form ≡ T.Act (A.Let name number) (Some o) →
        IsNew names name → HasValue names → IsNumber names number.form e → HasTemporaries e names.values →
        IsBlock before readers names (out-Otherwise o).body.items other → Leaves other → IsBlock before readers (with_value names name) rest body →
        IsAtOffset s.offset (S.LetElse' names.values e p body q other) a → AreStatements before readers names (s ∷ rest) (a ∷ [])
    -- a missing `else` fails
    lock_rest : {before : List Declaration} {readers : Readers} {names : Names} {s : TextStatement} {rest : List TextStatement} {text : TextPlace} {place : Place} {p q : _}
        {body other a : Statement} → s.form ≡ T.Act (A.Lock text) None → IsPlace names text place → IsFailure readers.code (E.Constant (code_of (place_failure place))) other →
        IsBlock before readers (with_place names text) rest body → IsAtOffset s.offset (S.Lock' place p body q other) a →
        AreStatements before readers names (s ∷ rest) (a ∷ [])
    lock_else : {before : List Declaration} {readers : Readers} {names : Names} {s : TextStatement} {rest : List TextStatement} {text : TextPlace} {o : Otherwise} {place : Place} {p q : _}
        {body other a : Statement} → s.form ≡ T.Act (A.Lock text) (Some o) → IsPlace names text place →
        IsBlock before readers names (out-Otherwise o).body.items other → Leaves other → IsBlock before readers (with_place names text) rest body →
        IsAtOffset s.offset (S.Lock' place p body q other) a → AreStatements before readers names (s ∷ rest) (a ∷ [])

  -- a statement that declares nothing for the rest of its block
  pub data IsStatement : List Declaration → Readers → Names → StatementForm → Statement → Type 0 where
    act : {before : List Declaration} {readers : Readers} {names : Names} {action : Action} {a : Statement} → IsActed before readers names action a → IsStatement before readers names (T.Act action None) a
    act_else : {before : List Declaration} {readers : Readers} {names : Names} {action : Action} {o : Otherwise} {a handler whole : Statement} → IsActed before (unread readers) names action a →
        IsBlock before readers names (out-Otherwise o).body.items handler → IsTried a handler whole → IsStatement before readers names (T.Act action (Some o)) whole
    try : {before : List Declaration} {readers : Readers} {names : Names} (xs ys : Vec TextStatement Global) {body handler whole : Statement} → IsBlock before (unread readers) names xs.items body →
        IsBlock before readers names ys.items handler → IsTried body handler whole → IsStatement before readers names (T.Try None xs ys) whole
    -- a failure of the body leaves its code in the next value register, which the name denotes in the handler
    try_told : {before : List Declaration} {readers : Readers} {names : Names} {why : Name} (xs ys : Vec TextStatement Global) {body handler tried : Statement} {p : _} →
        IsNew names why → HasValue names → IsBlock before (reading readers names.values) (with_unnamed names) xs.items body →
        IsBlock before readers (with_value names why) ys.items handler → IsTried body handler tried →
        IsStatement before readers names (T.Try (Some why) xs ys) (S.Let' names.values (E.Constant (pos 0)) p tried)
    if : {before : List Declaration} {readers : Readers} {names : Names} {question : TextExpression} (xs ys : Vec TextStatement Global) {c : Condition} {p q : _} {a b : Statement} →
        IsCondition names question.form c → IsBlock before readers names xs.items a → IsBlock before readers names ys.items b →
        IsStatement before readers names (T.If (Q.Condition question) xs ys) (S.If' c p a q b)
    if_lock : {before : List Declaration} {readers : Readers} {names : Names} {text : TextPlace} (xs ys : Vec TextStatement Global) {place : Place} {p q : _} {a b : Statement} →
        IsPlace names text place → IsBlock before readers (with_place names text) xs.items a → IsBlock before readers names ys.items b →
        IsStatement before readers names (T.If (Q.Lock text) xs ys) (S.Lock' place p a q b)
    repeat : {before : List Declaration} {readers : Readers} {names : Names} {count : TextExpression} (xs : Vec TextStatement Global) {turns : ℕ} {p : _} {a : Statement} →
        HasLoop names → IsCount names count.form turns → IsBlock before readers (in_loop names) xs.items a → IsStatement before readers names (T.Repeat count None xs) (S.Repeat' turns p a)
    repeat_up_to : {before : List Declaration} {readers : Readers} {names : Names} {number most : TextExpression} (xs : Vec TextStatement Global) {e : Expression} {turns : ℕ} {p : _}
        {a : Statement} → HasLoop names → IsNumber names number.form e → HasRegisters e names.values →
        behind e names.values + 1 ≤ VALUE_REGISTERS → IsCount names most.form turns → IsBlock before readers (in_loop names) xs.items a →
        IsStatement before readers names (T.Repeat number (Some most) xs) (S.RepeatUpTo' e turns p a)
    -- the child's index is in the next value register, whether it has a name or not
    for_each : {before : List Declaration} {readers : Readers} {names : Names} {child parent : Name} {index : Option Name} {most : TextExpression} (xs : Vec TextStatement Global) {n turns : ℕ}
        {a b whole : Statement} → HasLoop names → AreFresh names child index → HasNode names → names.values + 3 ≤ VALUE_REGISTERS → stands_for names parent ≡ M.Node n →
        IsCount names most.form turns → IsBlock before readers (with_node (with_index (in_loop names) index) child) xs.items a → IsRenewed readers.code a b →
        IsVisiting names.values names.nodes n turns b whole →
        IsStatement before readers names (T.ForEach child index parent most xs) whole
    block_alone : {before : List Declaration} {readers : Readers} {names : Names} (xs : Vec TextStatement Global) {a : Statement} → IsBlock before readers names xs.items a → IsStatement before readers names (T.Block xs) a
    -- A loop that may be left with numbers, and what is done behind it where it is, and where it isn't. Whether it is is in the next value register, and the numbers are in those above it: all are 0 before the loop.
    search : {before : List Declaration} {readers : Readers} {names : Names} (turns found other : Vec TextStatement Global) (ns : Vec Name Global) {a b c both whole : Statement} {p q : _} →
        HasLoop names → names.values + (length ns.items + 1) + 1 ≤ VALUE_REGISTERS →
        IsBlock before (searching readers (finding_at names (length ns.items))) (with_room names (length ns.items + 1)) turns.items a →
        AreFound (with_room names (length ns.items + 1)) (names.values + 1) ns.items →
        IsBlock before readers (with_variables (with_room names (length ns.items + 1)) (names.values + 1) ns.items) found.items b →
        IsBlock before readers (with_room names (length ns.items + 1)) other.items c → IsThen a (S.If' (was_found (finding_at names (length ns.items))) p b q c) both →
        AreNothing names.values (length ns.items + 1) both whole → IsStatement before readers names (T.Search turns ns found other) whole

  -- an action that declares nothing, where a part is expanded
  pub data IsActed : List Declaration → Readers → Names → Action → Statement → Type 0 where
    plain : {before : List Declaration} {readers : Readers} {names : Names} {action : Action} {a : Statement} → IsAction names action a → IsActed before readers names action a
    requires : {before : List Declaration} {readers : Readers} {names : Names} {condition : TextExpression} {why : Option TextExpression} {a : Statement} →
        IsRequired readers names condition.form why a → IsActed before readers names (A.Require condition why) a
    fails : {before : List Declaration} {readers : Readers} {names : Names} {a : Statement} → IsFailure readers.code (E.Constant (pos 0)) a → IsActed before readers names (A.Leave L.Fail) a
    fails_with : {before : List Declaration} {readers : Readers} {names : Names} {code : TextExpression} {e : Expression} {a : Statement} → IsCode names code.form e →
        IsFailure readers.code e a → IsActed before readers names (A.Fail code) a
    -- of the innermost loop, behind which its numbers have names
    breaks_with : {before : List Declaration} {readers : Readers} {names : Names} {values : Vec TextExpression Global} {f : Finding} {way a : Statement} → readers.finding ≡ Some f → f.depth ≡ names.loops →
        f.count ≡ length values.items → IsThen (S.Assign f.flag (E.Constant (pos 1))) S.Break way → AreLeft names way (f.flag + 1) values.items a → IsActed before readers names (A.BreakWith values) a
    -- the part's body knows the declarations before the part, and no others; its loops nest in those around its use
    used : {before : List Declaration} {readers : Readers} {names : Names} {name : Name} (arguments : Vec TextExpression Global) {k : ℕ} {p : Part} {a : Statement} →
        index_of names name ≡ Some k → slice_get before k ≡ Some (D.Part p) →
        IsGiven (take k before) (in_part readers) names (inside k names) p.parameters.items arguments.items p.body.items a → names.loops + loops a ≤ MAX_DEPTH →
        IsActed before readers names (A.Use name arguments) a

  -- the body of a part, with what is given for each of its names: a node, a value, or a number in a `let`
  pub data IsGiven : List Declaration → Readers → Names → Names → List Parameter → List TextExpression → List TextStatement → Statement → Type 0 where
    all_given : {before : List Declaration} {readers : Readers} {outer names : Names} {body : List TextStatement} {a : Statement} → IsBlock before readers names body a →
        IsGiven before readers outer names [] [] body a
    node_given : {before : List Declaration} {readers : Readers} {outer names later : Names} {name : Name} {parameters : List Parameter} {arguments : List TextExpression}
        {body : List TextStatement} {a : Statement} (argument : TextExpression) → IsNodeGiven outer names name argument later →
        IsGiven before readers outer later parameters arguments body a → IsGiven before readers outer names (G.Node name ∷ parameters) (argument ∷ arguments) body a
    variable_given : {before : List Declaration} {readers : Readers} {outer names later : Names} {name : Name} {parameters : List Parameter} {arguments : List TextExpression}
        {body : List TextStatement} {a : Statement} (argument : TextExpression) → IsVariableGiven outer names name argument later →
        IsGiven before readers outer later parameters arguments body a → IsGiven before readers outer names (G.Variable name ∷ parameters) (argument ∷ arguments) body a
    value_given : {before : List Declaration} {readers : Readers} {outer names later : Names} {name : Name} {parameters : List Parameter} {arguments : List TextExpression}
        {body : List TextStatement} {e : Expression} {p : _} {a : Statement} (argument : TextExpression) → IsValueGiven outer names name argument e later →
        IsGiven before readers outer later parameters arguments body a →
        IsGiven before readers outer names (G.Value name ∷ parameters) (argument ∷ arguments) body (S.Let' names.values e p a)

-- what is read of a failure in the body of a procedure, and below the meanings of names there and in its `else`
abbrev pub readers_in : Names → Option Name → Readers
readers_in names None = nothing_read
readers_in names (Some why) = reading nothing_read names.values

abbrev pub names_in_body : Names → Option Name → Names
names_in_body names None = names
names_in_body names (Some why) = with_unnamed names

abbrev pub names_in_else : Names → Option Name → Names
names_in_else names None = names
names_in_else names (Some why) = with_value names why

-- the name of the code, if it is given, is new, and there is a register for it
abbrev pub HasCode : Names → Option Name → Type 0
HasCode names None = Unit {0}
HasCode names (Some why) = IsNew names why × HasValue names

-- the body with its handler, in the register of the code if it is read
pub data IsCaught (names : Names) (body handler : Statement) : Option Name → Statement → Type 0 where
  unnamed : {whole : Statement} → IsTried body handler whole → IsCaught names body handler None whole
  named : {why : Name} {tried : Statement} {p : _} → IsTried body handler tried →
      IsCaught names body handler (Some why) (S.Let' names.values (E.Constant (pos 0)) p tried)

-- A failure that the procedure's `else` doesn't handle ends the procedure. Where an atomic procedure comes to its `else`, or its call ends by a failure, nothing has been written.
pub record IsBody (before : List Declaration) (names : Names) (text : TextProcedure) (whole : Statement) : Type 0 where
  pub body : Statement
  pub handler : Statement
  pub handled : Statement
  pub room : HasCode names text.why
  pub body_is : IsBlock before (readers_in names text.why) (names_in_body names text.why) text.body.items body
  pub handler_is : IsBlock before nothing_read (names_in_else names text.why) text.otherwise.items handler
  pub handled_is : IsCaught names body handler text.why handled
  pub whole_is : IsTried handled S.Skip whole
  pub atomic : text.is_atomic ≡ true → IsAtomic body
  pub atomic_else : text.is_atomic ≡ true → IsAtomic handled

-- a procedure's arguments are its first values
pub record IsProcedure (spellings : List (List ℕ)) (before : List Declaration) (names : Names) (text : TextProcedure) (procedure : Procedure) : Type 0 where
  pub name : procedure.name.items ≡ get_or spellings text.name.symbol.0 []
  pub offset : procedure.offset ≡ text.name.offset
  pub arity : procedure.arity ≡ length text.arguments.items
  pub arguments : AreNew names text.arguments.items
  pub body : IsBody before (with_values names text.arguments.items) text procedure.body

-- the name, which isn't yet that of a field, becomes the name of the field with this constant's number, from 0 to 7, by the declaration with this index
pub record IsWithField (index : ℕ) (names : Names) (name : Name) (number : TextExpression) (later : Names) : Type 0 where
  pub fresh : field_named names name ≡ None
  pub field : Field
  pub fits : field ≤ 7
  pub number_is : IsConstant names number.form (pos field)
  pub later_is : later ≡ with_field names name field index

-- the procedures among these declarations, which stand behind others
pub data AreDeclared (spellings : List (List ℕ)) : List Declaration → Names → List Declaration → List Procedure → Type 0 where
  none_declared : {before : List Declaration} {names : Names} → AreDeclared spellings before names [] []
  next_field : {before : List Declaration} {names later : Names} {name : Name} {number : TextExpression} {rest : List Declaration} {ps : List Procedure} →
      IsWithField (length before) names name number later → AreDeclared spellings (before ++ D.Field name number ∷ []) later rest ps →
      AreDeclared spellings before names (D.Field name number ∷ rest) ps
  next_constant : {before : List Declaration} {names : Names} {name : Name} {value : TextExpression} {number : ℤ} {rest : List Declaration} {ps : List Procedure} →
      IsNew names name → IsConstant names value.form number →
      AreDeclared spellings (before ++ D.Constant name value ∷ []) (with_constant names name number (length before)) rest ps →
      AreDeclared spellings before names (D.Constant name value ∷ rest) ps
  -- no other procedure and no part has its name
  next_procedure : {before : List Declaration} {names : Names} {text : TextProcedure} {p : Procedure} {rest : List Declaration} {ps : List Procedure} →
      index_of names text.name ≡ None → IsProcedure spellings before (with_procedure names text.name (length before)) text p →
      AreDeclared spellings (before ++ D.Procedure text ∷ []) (with_procedure names text.name (length before)) rest ps →
      AreDeclared spellings before names (D.Procedure text ∷ rest) (p ∷ ps)
  next_part : {before : List Declaration} {names : Names} {part : Part} {rest : List Declaration} {ps : List Procedure} →
      index_of names part.name ≡ None → AreDeclared spellings (before ++ D.Part part ∷ []) (with_procedure names part.name (length before)) rest ps →
      AreDeclared spellings before names (D.Part part ∷ rest) ps

-- the procedures of a text
pub record IsProgram (text : List ℕ) (procedures : List Procedure) : Type 0 where
  pub names : List (List ℕ)
  pub declarations : List Declaration
  pub read : IsText text names declarations
  pub declared : AreDeclared names [] (without_meaning (length names)) declarations procedures
