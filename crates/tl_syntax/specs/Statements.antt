-- The grammar of statements. Each rule says what the tokens from i up to but not including j denote.
use Rattle.std.specs.Prelude.{◌≡◌, ◌≢◌, ℕ, suc, ◌+◌, List, [], ◌∷◌, ◌++◌, Bool, true, false, Option, None, Some}
use Rattle.std.specs.declared.boxed.Box.{Box}
use Rattle.std.specs.declared.vec.Vec.{Vec}
use Rattle.std.specs.declared.alloc.Global.{Global}
use Rattle.tl_syntax.specs.declared.token.Token.{Token}
use Rattle.tl_syntax.specs.declared.token.TokenKind.{TokenKind}
use Rattle.tl_syntax.specs.declared.token.TokenKind.TheVariants as K
use Rattle.tl_syntax.specs.declared.failure.Failure.{Failure}
use Rattle.tl_syntax.specs.declared.failure.Failure.TheVariants as W
use Rattle.tl_syntax.specs.declared.parsed.Name.{Name}
use Rattle.tl_syntax.specs.declared.parsed.Expression.{Expression}
use Rattle.tl_syntax.specs.declared.parsed.Form.{Form}
use Rattle.tl_syntax.specs.declared.parsed.Form.TheVariants as F
use Rattle.tl_syntax.specs.declared.parsed.Child.{Child}
use Rattle.tl_syntax.specs.declared.parsed.Place.{Place}
use Rattle.tl_syntax.specs.declared.parsed.Place.TheVariants as P
use Rattle.tl_syntax.specs.declared.parsed.Change.{Change}
use Rattle.tl_syntax.specs.declared.parsed.Change.TheVariants as C
use Rattle.tl_syntax.specs.declared.parsed.Leave.{Leave}
use Rattle.tl_syntax.specs.declared.parsed.Leave.TheVariants as L
use Rattle.tl_syntax.specs.declared.parsed.Write.{Write}
use Rattle.tl_syntax.specs.declared.parsed.Action.{Action}
use Rattle.tl_syntax.specs.declared.parsed.Action.TheVariants as A
use Rattle.tl_syntax.specs.declared.parsed.Question.{Question}
use Rattle.tl_syntax.specs.declared.parsed.Question.TheVariants as Q
use Rattle.tl_syntax.specs.declared.parsed.Otherwise.{Otherwise, out-Otherwise}
use Rattle.tl_syntax.specs.declared.parsed.Statement.{Statement}
use Rattle.tl_syntax.specs.declared.parsed.StatementForm.{StatementForm}
use Rattle.tl_syntax.specs.declared.parsed.StatementForm.TheVariants as S
use Rattle.tl_syntax.specs.Codes.{code_of}
use Rattle.tl_syntax.specs.Grammar.{kind_at, offset_at, Stands, IsName, IsExpression, Disjunction}

-- the words that may also be used as names have the first symbols
abbrev pub word_at : TokenKind
word_at = K.Name (record { 0 = 0 })

abbrev pub word_each : TokenKind
word_each = K.Name (record { 0 = 1 })

abbrev pub word_most : TokenKind
word_most = K.Name (record { 0 = 2 })

abbrev pub word_of : TokenKind
word_of = K.Name (record { 0 = 3 })

abbrev pub word_to : TokenKind
word_to = K.Name (record { 0 = 4 })

abbrev pub word_while : TokenKind
word_while = K.Name (record { 0 = 6 })

abbrev pub word_with : TokenKind
word_with = K.Name (record { 0 = 9 })

abbrev pub word_found : TokenKind
word_found = K.Name (record { 0 = 10 })

abbrev pub IsLeave : List Token → ℕ → ℕ → Leave → Type 0
IsLeave tokens i j L.Break = Stands tokens K.Break i j
IsLeave tokens i j L.Return = Stands tokens K.Return i j
IsLeave tokens i j L.Fail = Stands tokens K.Fail i j

abbrev pub IsChange : List Token → ℕ → ℕ → Change → Type 0
IsChange tokens i j C.Set = Stands tokens K.Assign i j
IsChange tokens i j C.Add = Stands tokens K.AddAssign i j
IsChange tokens i j C.Subtract = Stands tokens K.SubtractAssign i j

-- one or more names, separated by commas
pub data AreNames (tokens : List Token) : ℕ → ℕ → List Name → Type 0 where
  one_name : {i j : ℕ} {n : Name} → IsName tokens i j n → AreNames tokens i j (n ∷ [])
  one_name_more : {i j k l : ℕ} {ns : List Name} {n : Name} → AreNames tokens i j ns → Stands tokens K.Comma j k → IsName tokens k l n →
      AreNames tokens i l (ns ++ n ∷ [])

-- an expression in parentheses
pub data IsArgument (tokens : List Token) (levels : ℕ) : ℕ → ℕ → Expression → Type 0 where
  argument : {i j k l : ℕ} {e : Expression} → Stands tokens K.LeftParenthesis i j → IsExpression tokens levels Disjunction j k e →
      Stands tokens K.RightParenthesis k l → IsArgument tokens levels i l e

-- the parent and the number of a child, which follow its name and `=`
pub data IsChild (tokens : List Token) (levels : ℕ) : ℕ → ℕ → Child → Type 0 where
  child : {i j k l m n o : ℕ} {c : Child} → Stands tokens K.Child i j → Stands tokens K.LeftParenthesis j k → IsName tokens k l c.parent →
      Stands tokens K.Comma l m → IsExpression tokens levels Disjunction m n c.number → Stands tokens K.RightParenthesis n o → IsChild tokens levels i o c

pub data IsPlace (tokens : List Token) (levels : ℕ) : ℕ → ℕ → Place → Type 0 where
  -- the offset is that of the word `node`
  node : {i j k l m offset : ℕ} {name : Name} {number : Expression} → IsName tokens i j name → Stands tokens K.Assign j k →
      Stands tokens K.Node k l → IsArgument tokens levels l m number → offset ≡ offset_at tokens k → IsPlace tokens levels i m (P.Node name offset number)
  child : {i j k l : ℕ} {c : Child} → IsName tokens i j c.name → Stands tokens K.Assign j k → IsChild tokens levels k l c → IsPlace tokens levels i l (P.Child c)
  pair : {i j k l m n o p : ℕ} {a b : Child} → IsName tokens i j a.name → Stands tokens K.Assign j k → IsChild tokens levels k l a →
      Stands tokens K.Comma l m → IsName tokens m n b.name → Stands tokens K.Assign n o → IsChild tokens levels o p b → IsPlace tokens levels i p (P.Pair a b)

-- one or more expressions, separated by commas
pub data AreExpressions (tokens : List Token) (levels : ℕ) : ℕ → ℕ → List Expression → Type 0 where
  one : {i j : ℕ} {e : Expression} → IsExpression tokens levels Disjunction i j e → AreExpressions tokens levels i j (e ∷ [])
  one_more : {i j k l : ℕ} {es : List Expression} {e : Expression} → AreExpressions tokens levels i j es → Stands tokens K.Comma j k →
      IsExpression tokens levels Disjunction k l e → AreExpressions tokens levels i l (es ++ e ∷ [])

pub data IsWrite (tokens : List Token) (levels : ℕ) : ℕ → ℕ → Write → Type 0 where
  write : {i j k l m o : ℕ} {w : Write} → IsName tokens i j w.node → Stands tokens K.Dot j k → IsName tokens k l w.field → IsChange tokens l m w.change →
      IsExpression tokens levels Disjunction m o w.value → IsWrite tokens levels i o w

-- the writes behind the first one, each behind a comma
pub data AreMoreWrites (tokens : List Token) (levels : ℕ) : ℕ → ℕ → List Write → Type 0 where
  no_more_writes : {i : ℕ} → AreMoreWrites tokens levels i i []
  next_write : {i j k l : ℕ} {ws : List Write} {w : Write} → AreMoreWrites tokens levels i j ws → Stands tokens K.Comma j k →
      IsWrite tokens levels k l w → AreMoreWrites tokens levels i l (ws ++ w ∷ [])

-- what a part is given, and the closing parenthesis
pub data AreGiven (tokens : List Token) (levels : ℕ) : ℕ → ℕ → List Expression → Type 0 where
  none_given : {i j : ℕ} → Stands tokens K.RightParenthesis i j → AreGiven tokens levels i j []
  some_given : {i j k : ℕ} {es : List Expression} → AreExpressions tokens levels i j es → Stands tokens K.RightParenthesis j k → AreGiven tokens levels i k es

-- behind a loop: `found` is also a name
pub record BeginsFound (tokens : List Token) (i : ℕ) : Type 0 where
  pub found : kind_at tokens i ≡ word_found
  pub opens : kind_at tokens (i + 1) ≡ K.LeftParenthesis

-- whether it is a number or a name
abbrev pub names_code : Form → Bool
names_code (F.Number n) = true
names_code (F.Named name) = true
names_code form = false

-- the code of a failure: nothing is computed for it
pub data IsCode (tokens : List Token) (levels : ℕ) : ℕ → ℕ → Expression → Type 0 where
  code : {i j : ℕ} {e : Expression} → IsExpression tokens levels Disjunction i j e → names_code e.form ≡ true → IsCode tokens levels i j e

-- the code of a condition's failure, behind a colon, if it is given
pub data IsReason (tokens : List Token) (levels : ℕ) : ℕ → ℕ → Option Expression → Type 0 where
  no_reason : {i : ℕ} → IsReason tokens levels i i None
  reason : {i j k : ℕ} {e : Expression} → Stands tokens K.Colon i j → IsCode tokens levels j k e → IsReason tokens levels i k (Some e)

-- a statement without blocks, up to the semicolon or `else` that follows it
pub data IsAction (tokens : List Token) (levels : ℕ) : ℕ → ℕ → Action → Type 0 where
  lets : {i j k l m : ℕ} {n : Name} {e : Expression} → Stands tokens K.Let i j → IsName tokens j k n → Stands tokens K.Assign k l →
      IsExpression tokens levels Disjunction l m e → IsAction tokens levels i m (A.Let n e)
  assigns : {i j k l : ℕ} {n : Name} {c : Change} {e : Expression} → IsName tokens i j n → IsChange tokens j k c →
      IsExpression tokens levels Disjunction k l e → IsAction tokens levels i l (A.Assign n c e)
  writes : {i j k : ℕ} {w : Write} {others : Vec Write Global} → IsWrite tokens levels i j w → AreMoreWrites tokens levels j k others.items →
      IsAction tokens levels i k (A.Write w others)
  emits : {i j k : ℕ} {es : Vec Expression Global} → Stands tokens K.Emit i j → AreExpressions tokens levels j k es.items → IsAction tokens levels i k (A.Emit es)
  requires : {i j k l : ℕ} {e : Expression} {why : Option Expression} → Stands tokens K.Require i j → IsExpression tokens levels Disjunction j k e →
      IsReason tokens levels k l why → IsAction tokens levels i l (A.Require e why)
  locks : {i j k : ℕ} {p : Place} → Stands tokens K.Lock i j → IsPlace tokens levels j k p → IsAction tokens levels i k (A.Lock p)
  descends : {i j k l m o : ℕ} {n : Name} {e : Expression} → Stands tokens K.Descend i j → IsName tokens j k n → Stands tokens word_to k l →
      Stands tokens K.Child l m → IsArgument tokens levels m o e → IsAction tokens levels i o (A.Descend n e)
  takes : {i j k l m : ℕ} {n from : Name} → Stands tokens K.Descend i j → IsName tokens j k n → Stands tokens word_to k l →
      IsName tokens l m from → IsAction tokens levels i m (A.Take n from)
  frees : {i j k : ℕ} {n : Name} → Stands tokens K.Free i j → IsName tokens j k n → IsAction tokens levels i k (A.Free n)
  leaves : {i j : ℕ} {l : Leave} → IsLeave tokens i j l → IsAction tokens levels i j (A.Leave l)
  breaks_with : {i j k l : ℕ} {es : Vec Expression Global} → Stands tokens K.Break i j → Stands tokens word_with j k → AreExpressions tokens levels k l es.items →
      IsAction tokens levels i l (A.BreakWith es)
  fails_with : {i j k : ℕ} {e : Expression} → Stands tokens K.Fail i j → IsCode tokens levels j k e → IsAction tokens levels i k (A.Fail e)
  -- the words `while` and `found` before a parenthesis belong to loops
  uses : {i j k l : ℕ} {n : Name} {es : Vec Expression Global} → IsName tokens i j n → K.Name n.symbol ≢ word_while → K.Name n.symbol ≢ word_found → Stands tokens K.LeftParenthesis j k →
      AreGiven tokens levels k l es.items → IsAction tokens levels i l (A.Use n es)

-- whether the statement may have an `else`
abbrev pub allows_else : Action → Bool
allows_else (A.Take n from) = false
allows_else (A.Free n) = false
allows_else (A.Leave l) = false
allows_else (A.Fail e) = false
allows_else (A.BreakWith es) = false
allows_else action = true

-- whether control doesn't go on behind it
abbrev pub leaves_block : Action → Bool
leaves_block (A.Leave l) = true
leaves_block (A.Fail e) = true
leaves_block (A.BreakWith es) = true
leaves_block action = false

pub data IsQuestion (tokens : List Token) (levels : ℕ) : ℕ → ℕ → Question → Type 0 where
  condition : {i j : ℕ} {e : Expression} → IsExpression tokens levels Disjunction i j e → IsQuestion tokens levels i j (Q.Condition e)
  lock : {i j k : ℕ} {p : Place} → Stands tokens K.Lock i j → IsPlace tokens levels j k p → IsQuestion tokens levels i k (Q.Lock p)

-- a name in parentheses, if it is given: of the index of a loop's child, or of a failure's code
pub data IsOptionalName (tokens : List Token) : ℕ → ℕ → Option Name → Type 0 where
  no_name : {i : ℕ} → IsOptionalName tokens i i None
  some_name : {i j k l : ℕ} {n : Name} → Stands tokens K.LeftParenthesis i j → IsName tokens j k n → Stands tokens K.RightParenthesis k l →
      IsOptionalName tokens i l (Some n)

-- one or more names in parentheses
pub data AreFoundNames (tokens : List Token) : ℕ → ℕ → List Name → Type 0 where
  found_names : {i j k l : ℕ} {ns : List Name} → Stands tokens K.LeftParenthesis i j → AreNames tokens j k ns → Stands tokens K.RightParenthesis k l →
      AreFoundNames tokens i l ns

-- `break;`, `return;` or `fail;`, with or without numbers or a code, as the only statement of an `else`
pub data IsLeaving (tokens : List Token) (levels : ℕ) : ℕ → ℕ → List Statement → Type 0 where
  leaving : {i j k : ℕ} {a : Action} {s : Statement} → IsAction tokens levels i j a → leaves_block a ≡ true → Stands tokens K.Semicolon j k → s.form ≡ S.Act a None →
      s.offset ≡ offset_at tokens i → IsLeaving tokens levels i k (s ∷ [])

-- the only statement, which begins at this offset
pub data IsOnly (offset : ℕ) (form : StatementForm) : List Statement → Type 0 where
  only : {s : Statement} → s.form ≡ form → s.offset ≡ offset → IsOnly offset form (s ∷ [])

-- two statements, which both begin at this offset
pub data AreTwo (offset : ℕ) (first second : StatementForm) : List Statement → Type 0 where
  two : {s t : Statement} → s.form ≡ first → s.offset ≡ offset → t.form ≡ second → t.offset ≡ offset → AreTwo offset first second (s ∷ t ∷ [])

-- how a place can't be locked
abbrev pub place_failure : Place → Failure
place_failure (P.Node name offset number) = W.Node
place_failure (P.Child c) = W.Child
place_failure (P.Pair a b) = W.Child

-- how a declaration fails, if the action is one
abbrev pub failure_of : Action → Option Failure
failure_of (A.Let n e) = Some W.Number
failure_of (A.Lock p) = Some (place_failure p)
failure_of action = None

-- a block in which the name has the number of the failure
pub data IsTold (why : Name) (failure : Failure) (body : Vec Statement Global) (all : List Statement) : Type 0 where
  told : {e : Expression} → e.form ≡ F.Number (code_of failure) → e.offset ≡ why.offset → AreTwo why.offset (S.Act (A.Let why e) None) (S.Block body) all →
      IsTold why failure body all

-- An action that begins at this offset, with its `else`. If a name is given for the failure's code, it is the value of this name, where the action declares something: so it may fail in one way. Another action is
-- the only statement of a `try`.
pub data IsElsed (offset : ℕ) (a : Action) : Option Name → Otherwise → StatementForm → Type 0 where
  unnamed : {o : Otherwise} → IsElsed offset a None o (S.Act a (Some o))
  in_try : {why : Name} {o : Otherwise} (body : Vec Statement Global) → failure_of a ≡ None → IsOnly offset (S.Act a None) body.items →
      IsElsed offset a (Some why) o (S.Try (Some why) body (out-Otherwise o).body)
  in_else : {why : Name} {failure : Failure} {o p : Otherwise} → failure_of a ≡ Some failure → IsTold why failure (out-Otherwise o).body (out-Otherwise p).body.items →
      (out-Otherwise p).offset ≡ (out-Otherwise o).offset → IsElsed offset a (Some why) o (S.Act a (Some p))

-- in each turn the body, or a `break` if the condition doesn't hold
pub data IsBoundedLoop (offset : ℕ) (condition most : Expression) (body : Vec Statement Global) : StatementForm → Type 0 where
  bounded : (other turn : Vec Statement Global) → IsOnly offset (S.Act (A.Leave L.Break) None) other.items →
      IsOnly offset (S.If (Q.Condition condition) body other) turn.items → IsBoundedLoop offset condition most body (S.Repeat most None turn)

-- a statement that fails if the condition holds, which begins at i and ends at the word `at`
pub data RequiresNot (tokens : List Token) (levels i offset : ℕ) : StatementForm → Type 0 where
  requires_not : {j k : ℕ} {e why : Expression} {a : Box Expression Global} → IsExpression tokens levels Disjunction i j a.value → Stands tokens word_at j k →
      e.form ≡ F.Not a → e.offset ≡ offset → why.form ≡ F.Number (code_of W.Bound) → why.offset ≡ offset →
      RequiresNot tokens levels i offset (S.Act (A.Require e (Some why)) None)

-- a `while` up to its block: its condition, and how often it turns at most
pub data IsWhile (tokens : List Token) (levels : ℕ) : ℕ → ℕ → Expression → Expression → Type 0 where
  heads : {i j k l m : ℕ} {condition most : Expression} → IsExpression tokens levels Disjunction i j condition → Stands tokens word_at j k →
      Stands tokens word_most k l → IsExpression tokens levels Disjunction l m most → IsWhile tokens levels i m condition most

-- the loop of a `while`, whose condition begins at i, and a statement behind it that fails if the condition holds
pub data IsLooped (tokens : List Token) (levels i offset : ℕ) (condition most : Expression) (body : Vec Statement Global) (all : List Statement) : Type 0 where
  looped : {repetition check : StatementForm} → IsBoundedLoop offset condition most body repetition → RequiresNot tokens levels i offset check →
      AreTwo offset repetition check all → IsLooped tokens levels i offset condition most body all

-- a semicolon, or nothing where no semicolon stands
pub data MayEnd (tokens : List Token) : ℕ → ℕ → Type 0 where
  no_semicolon : {i : ℕ} → kind_at tokens i ≢ K.Semicolon → MayEnd tokens i i
  semicolon : {i j : ℕ} → Stands tokens K.Semicolon i j → MayEnd tokens i j

-- `levels` is the number of levels that may still be opened. A block opens one, and an `if` or a `while` opens one for its condition and its
-- blocks.
mutual
  pub data IsBlock (tokens : List Token) : ℕ → ℕ → ℕ → List Statement → Type 0 where
    block : {levels i j k l : ℕ} {all : List Statement} → Stands tokens K.LeftBrace i j → AreStatements tokens levels j k all →
        Stands tokens K.RightBrace k l → IsBlock tokens (suc levels) i l all

  pub data AreStatements (tokens : List Token) : ℕ → ℕ → ℕ → List Statement → Type 0 where
    no_more : {levels i : ℕ} → AreStatements tokens levels i i []
    next : {levels i j k : ℕ} {all : List Statement} {s : Statement} → AreStatements tokens levels i j all → IsStatement tokens levels j k s →
        AreStatements tokens levels i k (all ++ s ∷ [])

  -- the offset is that of the first token
  pub data IsStatement (tokens : List Token) : ℕ → ℕ → ℕ → Statement → Type 0 where
    statement : {levels i j : ℕ} {s : Statement} → IsForm tokens levels i j s.form → s.offset ≡ offset_at tokens i → IsStatement tokens levels i j s

  pub data IsForm (tokens : List Token) : ℕ → ℕ → ℕ → StatementForm → Type 0 where
    act : {levels i j k : ℕ} {a : Action} → IsAction tokens levels i j a → Stands tokens K.Semicolon j k → IsForm tokens levels i k (S.Act a None)
    act_else : {levels i j k : ℕ} {a : Action} {why : Option Name} {o : Otherwise} {form : StatementForm} → IsAction tokens levels i j a → allows_else a ≡ true →
        IsOtherwise tokens levels j k why o → IsElsed (offset_at tokens i) a why o form → IsForm tokens levels i k form
    try : {levels i j k l m n : ℕ} {why : Option Name} (body other : Vec Statement Global) → Stands tokens K.Try i j → IsBlock tokens levels j k body.items →
        Stands tokens K.Else k l → IsOptionalName tokens l m why → IsBlock tokens levels m n other.items → IsForm tokens levels i n (S.Try why body other)
    if : {levels i j k l : ℕ} {q : Question} (body other : Vec Statement Global) → Stands tokens K.If i j → IsQuestion tokens levels j k q → IsBlock tokens levels k l body.items →
        other.items ≡ [] → IsForm tokens (suc levels) i l (S.If q body other)
    if_else : {levels i j k l m n : ℕ} {q : Question} (body other : Vec Statement Global) → Stands tokens K.If i j → IsQuestion tokens levels j k q →
        IsBlock tokens levels k l body.items → Stands tokens K.Else l m → IsOther tokens levels m n other.items → IsForm tokens (suc levels) i n (S.If q body other)
    loop : {levels i j : ℕ} {form : StatementForm} → IsLoop tokens levels i j form → (BeginsFound tokens j → ⊥) → IsForm tokens levels i j form
    -- a loop that may be left with numbers, and what is done behind it where it is, and where it isn't
    search : {levels i j k l m n : ℕ} {form : StatementForm} (turns found other : Vec Statement Global) (names : Vec Name Global) → IsLoop tokens levels i j form →
        IsOnly (offset_at tokens i) form turns.items → Stands tokens word_found j k → AreFoundNames tokens k l names.items → IsBlock tokens levels l m found.items →
        IsNotFound tokens levels m n other.items → IsForm tokens levels i n (S.Search turns names found other)
    block_alone : {levels i j : ℕ} (body : Vec Statement Global) → IsBlock tokens levels i j body.items → IsForm tokens levels i j (S.Block body)
    -- behind the loop the condition doesn't hold
    while : {levels i j k l : ℕ} {condition most : Expression} (body all : Vec Statement Global) → Stands tokens word_while i j →
        IsWhile tokens levels j k condition most → IsBlock tokens levels k l body.items → IsLooped tokens levels j (offset_at tokens i) condition most body all.items →
        IsForm tokens (suc levels) i l (S.Block all)

  -- a block behind `else`, or nothing where no `else` stands
  pub data IsNotFound (tokens : List Token) : ℕ → ℕ → ℕ → List Statement → Type 0 where
    nothing_else : {levels i : ℕ} → kind_at tokens i ≢ K.Else → IsNotFound tokens levels i i []
    otherwise : {levels i j k : ℕ} {all : List Statement} → Stands tokens K.Else i j → IsBlock tokens levels j k all → IsNotFound tokens levels i k all

  pub data IsLoop (tokens : List Token) : ℕ → ℕ → ℕ → StatementForm → Type 0 where
    repeat : {levels i j k l : ℕ} {turns : Expression} (body : Vec Statement Global) → Stands tokens K.Repeat i j → IsExpression tokens levels Disjunction j k turns →
        IsBlock tokens levels k l body.items → IsLoop tokens levels i l (S.Repeat turns None body)
    repeat_at_most : {levels i j k l m n o : ℕ} {turns most : Expression} (body : Vec Statement Global) → Stands tokens K.Repeat i j →
        IsExpression tokens levels Disjunction j k turns → Stands tokens word_at k l → Stands tokens word_most l m → IsExpression tokens levels Disjunction m n most →
        IsBlock tokens levels n o body.items → IsLoop tokens levels i o (S.Repeat turns (Some most) body)
    for_each : {levels i j k l m n o p q r s t : ℕ} {child parent : Name} {place : Option Name} {most : Expression} (body : Vec Statement Global) → Stands tokens K.For i j →
        Stands tokens word_each j k → Stands tokens K.Child k l → IsName tokens l m child → IsOptionalName tokens m n place → Stands tokens word_of n o →
        IsName tokens o p parent → Stands tokens word_at p q → Stands tokens word_most q r → IsExpression tokens levels Disjunction r s most → IsBlock tokens levels s t body.items →
        IsLoop tokens levels i t (S.ForEach child place parent most body)

  -- what follows the `else` of an `if`
  pub data IsOther (tokens : List Token) : ℕ → ℕ → ℕ → List Statement → Type 0 where
    other_block : {levels i j : ℕ} {all : List Statement} → IsBlock tokens levels i j all → IsOther tokens levels i j all
    other_if : {levels i j : ℕ} {s : Statement} → kind_at tokens i ≡ K.If → IsStatement tokens levels i j s → IsOther tokens levels i j (s ∷ [])

  -- the name that has the failure's code, if it is given, and the block; the offset is that of the word `else`
  pub data IsOtherwise (tokens : List Token) : ℕ → ℕ → ℕ → Option Name → Otherwise → Type 0 where
    block_else : {levels i j k l m : ℕ} {why : Option Name} {o : Otherwise} → Stands tokens K.Else i j → IsOptionalName tokens j k why →
        IsBlock tokens levels k l (out-Otherwise o).body.items → MayEnd tokens l m → (out-Otherwise o).offset ≡ offset_at tokens i → IsOtherwise tokens levels i m why o
    leave_else : {levels i j k : ℕ} {o : Otherwise} → Stands tokens K.Else i j → IsLeaving tokens levels j k (out-Otherwise o).body.items →
        (out-Otherwise o).offset ≡ offset_at tokens i → IsOtherwise tokens levels i k None o
