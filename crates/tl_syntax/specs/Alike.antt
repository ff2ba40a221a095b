-- When two declarations are the same except for the memory that their parts occupy: each box and each `Vec` may be a
-- different one with the same content.
use Rattle.std.specs.Prelude.{◌≡◌, ℕ, List, [], ◌∷◌, ◌++◌, Option, None, Some}
use Rattle.std.specs.declared.boxed.Box.{Box}
use Rattle.std.specs.declared.vec.Vec.{Vec}
use Rattle.std.specs.declared.alloc.Global.{Global}
use Rattle.tl_syntax.specs.declared.parsed.Name.{Name}
use Rattle.tl_syntax.specs.declared.parsed.Expression.{Expression}
use Rattle.tl_syntax.specs.declared.parsed.Form.{Form}
use Rattle.tl_syntax.specs.declared.parsed.Form.TheVariants as F
use Rattle.tl_syntax.specs.declared.parsed.Child.{Child}
use Rattle.tl_syntax.specs.declared.parsed.Place.{Place}
use Rattle.tl_syntax.specs.declared.parsed.Place.TheVariants as P
use Rattle.tl_syntax.specs.declared.parsed.Change.{Change}
use Rattle.tl_syntax.specs.declared.parsed.Write.{Write}
use Rattle.tl_syntax.specs.declared.parsed.Action.{Action}
use Rattle.tl_syntax.specs.declared.parsed.Action.TheVariants as A
use Rattle.tl_syntax.specs.declared.parsed.Question.{Question}
use Rattle.tl_syntax.specs.declared.parsed.Question.TheVariants as Q
use Rattle.tl_syntax.specs.declared.parsed.Otherwise.{Otherwise, out-Otherwise}
use Rattle.tl_syntax.specs.declared.parsed.Statement.{Statement}
use Rattle.tl_syntax.specs.declared.parsed.StatementForm.{StatementForm}
use Rattle.tl_syntax.specs.declared.parsed.StatementForm.TheVariants as S
use Rattle.tl_syntax.specs.declared.parsed.Procedure.{Procedure}
use Rattle.tl_syntax.specs.declared.parsed.Part.{Part}
use Rattle.tl_syntax.specs.declared.parsed.Declaration.{Declaration}
use Rattle.tl_syntax.specs.declared.parsed.Declaration.TheVariants as D
use Rattle.tl_syntax.specs.declared.expressions.Join.{Join}
use Rattle.tl_syntax.specs.Grammar.{form_by}

mutual
  pub data Alike : Expression → Expression → Type 0 where
    alike : {e f : Expression} → e.offset ≡ f.offset → AlikeForm e.form f.form → Alike e f

  pub data AlikeForm : Form → Form → Type 0 where
    same_form : {form : Form} → AlikeForm form form
    negated : {a b : Box Expression Global} → Alike a.value b.value → AlikeForm (F.Negated a) (F.Negated b)
    not : {a b : Box Expression Global} → Alike a.value b.value → AlikeForm (F.Not a) (F.Not b)
    joined : (join : Join) (a b c d : Box Expression Global) → Alike a.value c.value → Alike b.value d.value →
        AlikeForm (form_by join a b) (form_by join c d)

pub data AreAlike : List Expression → List Expression → Type 0 where
  none : AreAlike [] []
  next : {es fs : List Expression} {e f : Expression} → AreAlike es fs → Alike e f → AreAlike (es ++ e ∷ []) (fs ++ f ∷ [])

pub record AlikeChild (c d : Child) : Type 0 where
  pub name : c.name ≡ d.name
  pub parent : c.parent ≡ d.parent
  pub number : Alike c.number d.number

pub data AlikePlace : Place → Place → Type 0 where
  node : {name : Name} {offset : ℕ} {e f : Expression} → Alike e f → AlikePlace (P.Node name offset e) (P.Node name offset f)
  child : {c d : Child} → AlikeChild c d → AlikePlace (P.Child c) (P.Child d)
  pair : {a b c d : Child} → AlikeChild a c → AlikeChild b d → AlikePlace (P.Pair a b) (P.Pair c d)

pub record AlikeWrite (v w : Write) : Type 0 where
  pub node : v.node ≡ w.node
  pub field : v.field ≡ w.field
  pub change : v.change ≡ w.change
  pub value : Alike v.value w.value

-- one by one
pub data AlikeWrites : List Write → List Write → Type 0 where
  no_writes : AlikeWrites [] []
  more_writes : {vs ws : List Write} {v w : Write} → AlikeWrite v w → AlikeWrites vs ws → AlikeWrites (v ∷ vs) (w ∷ ws)

-- two codes, or none
pub data AlikeReason : Option Expression → Option Expression → Type 0 where
  no_reason : AlikeReason None None
  reason : {e f : Expression} → Alike e f → AlikeReason (Some e) (Some f)

pub data AlikeAction : Action → Action → Type 0 where
  same_action : {a : Action} → AlikeAction a a
  lets : {n : Name} {e f : Expression} → Alike e f → AlikeAction (A.Let n e) (A.Let n f)
  assigns : {n : Name} {c : Change} {e f : Expression} → Alike e f → AlikeAction (A.Assign n c e) (A.Assign n c f)
  writes : {v w : Write} {vs ws : Vec Write Global} → AlikeWrite v w → AlikeWrites vs.items ws.items → AlikeAction (A.Write v vs) (A.Write w ws)
  emits : {es fs : Vec Expression Global} → AreAlike es.items fs.items → AlikeAction (A.Emit es) (A.Emit fs)
  requires : {e f : Expression} {why why' : Option Expression} → Alike e f → AlikeReason why why' → AlikeAction (A.Require e why) (A.Require f why')
  locks : {p q : Place} → AlikePlace p q → AlikeAction (A.Lock p) (A.Lock q)
  descends : {n : Name} {e f : Expression} → Alike e f → AlikeAction (A.Descend n e) (A.Descend n f)
  fails_with : {e f : Expression} → Alike e f → AlikeAction (A.Fail e) (A.Fail f)
  breaks_with : {es fs : Vec Expression Global} → AreAlike es.items fs.items → AlikeAction (A.BreakWith es) (A.BreakWith fs)
  uses : {n : Name} {es fs : Vec Expression Global} → AreAlike es.items fs.items → AlikeAction (A.Use n es) (A.Use n fs)

pub data AlikeQuestion : Question → Question → Type 0 where
  condition : {e f : Expression} → Alike e f → AlikeQuestion (Q.Condition e) (Q.Condition f)
  lock : {p q : Place} → AlikePlace p q → AlikeQuestion (Q.Lock p) (Q.Lock q)

mutual
  pub data AlikeStatements : List Statement → List Statement → Type 0 where
    no_statements : AlikeStatements [] []
    next_statement : {ss ts : List Statement} {s t : Statement} → AlikeStatements ss ts → AlikeStatement s t →
        AlikeStatements (ss ++ s ∷ []) (ts ++ t ∷ [])

  pub data AlikeStatement : Statement → Statement → Type 0 where
    statement : {s t : Statement} → s.offset ≡ t.offset → AlikeStatementForm s.form t.form → AlikeStatement s t

  pub data AlikeStatementForm : StatementForm → StatementForm → Type 0 where
    act : {a b : Action} → AlikeAction a b → AlikeStatementForm (S.Act a None) (S.Act b None)
    act_else : {a b : Action} {o p : Otherwise} → AlikeAction a b → AlikeOtherwise o p → AlikeStatementForm (S.Act a (Some o)) (S.Act b (Some p))
    try : {why : Option Name} (body other body' other' : Vec Statement Global) → AlikeStatements body.items body'.items → AlikeStatements other.items other'.items →
        AlikeStatementForm (S.Try why body other) (S.Try why body' other')
    if : {q r : Question} (body other body' other' : Vec Statement Global) → AlikeQuestion q r → AlikeStatements body.items body'.items →
        AlikeStatements other.items other'.items → AlikeStatementForm (S.If q body other) (S.If r body' other')
    repeat : {e f : Expression} (body body' : Vec Statement Global) → Alike e f → AlikeStatements body.items body'.items →
        AlikeStatementForm (S.Repeat e None body) (S.Repeat f None body')
    repeat_at_most : {e f most most' : Expression} (body body' : Vec Statement Global) → Alike e f → Alike most most' →
        AlikeStatements body.items body'.items → AlikeStatementForm (S.Repeat e (Some most) body) (S.Repeat f (Some most') body')
    for_each : {child parent : Name} {place : Option Name} {most most' : Expression} (body body' : Vec Statement Global) → Alike most most' →
        AlikeStatements body.items body'.items → AlikeStatementForm (S.ForEach child place parent most body) (S.ForEach child place parent most' body')
    search : {names names' : Vec Name Global} (turns found other turns' found' other' : Vec Statement Global) → names.items ≡ names'.items → AlikeStatements turns.items turns'.items →
        AlikeStatements found.items found'.items → AlikeStatements other.items other'.items → AlikeStatementForm (S.Search turns names found other) (S.Search turns' names' found' other')
    block_alone : (body body' : Vec Statement Global) → AlikeStatements body.items body'.items → AlikeStatementForm (S.Block body) (S.Block body')

  pub data AlikeOtherwise : Otherwise → Otherwise → Type 0 where
    otherwise : {o p : Otherwise} → (out-Otherwise o).offset ≡ (out-Otherwise p).offset →
        AlikeStatements (out-Otherwise o).body.items (out-Otherwise p).body.items → AlikeOtherwise o p

pub record AlikeProcedure (p q : Procedure) : Type 0 where
  pub mark : p.is_atomic ≡ q.is_atomic
  pub name : p.name ≡ q.name
  pub arguments : p.arguments.items ≡ q.arguments.items
  pub body : AlikeStatements p.body.items q.body.items
  pub why : p.why ≡ q.why
  pub otherwise : AlikeStatements p.otherwise.items q.otherwise.items

pub record AlikePart (p q : Part) : Type 0 where
  pub name : p.name ≡ q.name
  pub parameters : p.parameters.items ≡ q.parameters.items
  pub body : AlikeStatements p.body.items q.body.items
  pub size : p.size ≡ q.size

pub data AlikeDeclaration : Declaration → Declaration → Type 0 where
  same_declaration : {d : Declaration} → AlikeDeclaration d d
  fields : {n : Name} {e f : Expression} → Alike e f → AlikeDeclaration (D.Field n e) (D.Field n f)
  constants : {n : Name} {e f : Expression} → Alike e f → AlikeDeclaration (D.Constant n e) (D.Constant n f)
  procedures : {p q : Procedure} → AlikeProcedure p q → AlikeDeclaration (D.Procedure p) (D.Procedure q)
  parts : {p q : Part} → AlikePart p q → AlikeDeclaration (D.Part p) (D.Part q)

pub data AlikeDeclarations : List Declaration → List Declaration → Type 0 where
  no_declarations : AlikeDeclarations [] []
  next_declaration : {ds es : List Declaration} {d e : Declaration} → AlikeDeclarations ds es → AlikeDeclaration d e →
      AlikeDeclarations (ds ++ d ∷ []) (es ++ e ∷ [])
