-- What an `if` tests, what a loop repeats, and what is done behind a loop that may be left with numbers.
use Rattle.std.specs.Prelude.{◌≡◌, ◌≤◌, ◌+◌, ℕ, List, length, Option, None, Some}
use Rattle.std.specs.declared.alloc.Global.{Global}
use Rattle.std.specs.declared.vec.Vec.{Vec}
use Rattle.tl_instr.specs.declared.operand.TheConstants.{VALUE_REGISTERS}
use Rattle.tl_syntax.specs.declared.parsed.Name.{Name}
use Rattle.tl_syntax.specs.declared.parsed.Form.{Form}
use Rattle.tl_syntax.specs.declared.parsed.Expression.{Expression as TextExpression}
use Rattle.tl_syntax.specs.declared.parsed.Place.{Place as TextPlace}
use Rattle.tl_syntax.specs.declared.parsed.Declaration.{Declaration}
use Rattle.tl_syntax.specs.declared.parsed.Question.{Question}
use Rattle.tl_syntax.specs.declared.parsed.Question.TheVariants as Q
use Rattle.tl_syntax.specs.declared.parsed.Statement.{Statement as TextStatement}
use Rattle.tl_syntax.specs.declared.parsed.StatementForm.TheVariants as T
use Rattle.tl_lowering.specs.declared.loops.Repetition.{Repetition}
use Rattle.tl_lowering.specs.declared.loops.Repetition.TheVariants as R
use Rattle.tl_lowering.specs.declared.loops.Visit.{Visit}
use Rattle.tl_lowering.specs.declared.lowering.Entrance.{Entrance}
use Rattle.tl_lowering.specs.declared.lowering.Entrance.TheVariants as E
use Rattle.tl_lowering.specs.declared.naming.Locking.{Locking}
use Rattle.tl_lowering.specs.declared.program.Condition.{Condition}
use Rattle.tl_lowering.specs.declared.program.Expression.{Expression}
use Rattle.tl_lowering.specs.declared.program.Statement.{Statement}
use Rattle.tl_lowering.specs.declared.program.Statement.TheVariants as S
use Rattle.tl_lowering.specs.declared.scope.Meaning.TheVariants as M
use Rattle.tl_lowering.specs.declared.readers.Finding.{Finding}
use Rattle.tl_lowering.specs.declared.readers.Readers.{Readers}
use Rattle.tl_lowering.specs.Failing.{searching, IsRenewed}
use Rattle.tl_lowering.specs.Registers.{behind, HasRegisters}
use Rattle.tl_lowering.specs.Names.{Names, stands_for, AreFresh, AreFound, HasNode, HasLoop, in_loop, with_index, with_node, with_room, with_variables}
use Rattle.tl_lowering.specs.Naming.{IsNumber, IsCount, IsCondition, IsThen, Locks, with_locking}
use Rattle.tl_lowering.specs.Reading.{IsVisiting, IsBlock, IsStatement, AreNothing, finding_at, was_found}

-- ---- a choice

pub data IsEntered (names : Names) : Question → Entrance → Type 0 where
  enters_condition : {question : TextExpression} {c : Condition} → IsCondition names question.form c →
      IsEntered names (Q.Condition question) (E.Condition c)
  enters_lock : {text : TextPlace} {locking : Locking} → Locks names text locking → IsEntered names (Q.Lock text) (E.Lock locking)

-- the meanings of names in the first block
abbrev pub names_behind : Names → Entrance → Names
names_behind names (E.Condition c) = names
names_behind names (E.Lock locking) = with_locking names locking

-- the choice between two statements
pub data IsChosen (first second : Statement) : Entrance → Statement → Type 0 where
  chosen_if : {c : Condition} {p q : _} → IsChosen first second (E.Condition c) (S.If' c p first q second)
  chosen_lock : {locking : Locking} {p q : _} → IsChosen first second (E.Lock locking) (S.Lock' locking.place p first q second)

-- an `if` with these blocks, wherever the text has them in memory
abbrev pub IsChoice : List Declaration → Readers → Names → Question → List TextStatement → List TextStatement → Statement → Type 0
IsChoice before readers names question body other whole =
    (xs ys : Vec TextStatement Global) → body ≡ xs.items → other ≡ ys.items → IsStatement before readers names (T.If question xs ys) whole

-- ---- a loop

-- the number of turns of a `repeat`
pub data IsRepeated (names : Names) (count : Form) : Option Form → Repetition → Type 0 where
  repeated_times : {w : ℕ} → HasLoop names → IsCount names count w → IsRepeated names count None (R.Times w)
  repeated_up_to : {most : Form} {e : Expression} {w : ℕ} → HasLoop names → IsNumber names count e →
      HasRegisters e names.values → behind e names.values + 1 ≤ VALUE_REGISTERS → IsCount names most w →
      IsRepeated names count (Some most) (R.UpTo e w)

-- the loop over a node's children, which uses the next node register for the child and the next value register for its index
pub data IsVisited (names : Names) (child : Name) (index : Option Name) (parent : Name) (most : Form) : Repetition → Type 0 where
  visited : {v : Visit} → HasLoop names → AreFresh names child index → HasNode names → names.values + 3 ≤ VALUE_REGISTERS → v.name ≡ child →
      v.index_name ≡ index → v.child ≡ names.nodes → v.index ≡ names.values → stands_for names parent ≡ M.Node v.parent → IsCount names most v.turns →
      IsVisited names child index parent most (R.Children v)

-- the meanings of names in the body
abbrev pub names_within : Names → Repetition → Names
names_within names (R.Times w) = in_loop names
names_within names (R.UpTo e w) = in_loop names
names_within names (R.Children v) = with_node (with_index (in_loop names) v.index_name) v.name

-- the loop with its body
pub data IsTurning (body : Statement) : Repetition → Statement → Type 0 where
  turning_times : {w : ℕ} {p : _} → IsTurning body (R.Times w) (S.Repeat' w p body)
  turning_up_to : {e : Expression} {w : ℕ} {p : _} → IsTurning body (R.UpTo e w) (S.RepeatUpTo' e w p body)
  turning_children : {v : Visit} {whole : Statement} → IsVisiting v.index v.child v.parent v.turns body whole →
      IsTurning body (R.Children v) whole

-- what follows the body of a turn
abbrev pub IsKept : Readers → Repetition → Statement → Statement → Type 0
IsKept readers (R.Times w) body kept = kept ≡ body
IsKept readers (R.UpTo e w) body kept = kept ≡ body
IsKept readers (R.Children v) body kept = IsRenewed readers.code body kept

pub record IsTurnBody (before : List Declaration) (readers : Readers) (names : Names) (repetition : Repetition) (block : List TextStatement) (body : Statement) : Type 0 where
  pub read : Statement
  pub read_is : IsBlock before readers (names_within names repetition) block read
  pub kept_is : IsKept readers repetition read body

pub record IsLoop (before : List Declaration) (readers : Readers) (names : Names) (repetition : Repetition) (block : List TextStatement) (whole : Statement) : Type 0 where
  pub body : Statement
  pub body_is : IsTurnBody before readers names repetition block body
  pub whole_is : IsTurning body repetition whole

-- ---- a loop that may be left with numbers

-- where they have registers
pub record IsSearched (before : List Declaration) (readers : Readers) (names : Names) (f : Finding) (turns : List TextStatement) (ns : List Name) (found other : List TextStatement) (whole : Statement) : Type 0 where
  pub turned : Statement
  pub first : Statement
  pub second : Statement
  pub choice : Statement
  pub room : names.values + 1 ≤ VALUE_REGISTERS
  pub turned_is : IsBlock before (searching readers f) names turns turned
  pub fresh : AreFound names (f.flag + 1) ns
  pub first_is : IsBlock before readers (with_variables names (f.flag + 1) ns) found first
  pub second_is : IsBlock before readers names other second
  pub choice_is : IsChosen first second (E.Condition (was_found f)) choice
  pub whole_is : IsThen turned choice whole

-- with the registers
pub record IsSearch (before : List Declaration) (readers : Readers) (names : Names) (turns : List TextStatement) (ns : List Name) (found other : List TextStatement) (whole : Statement) : Type 0 where
  pub searched : Statement
  pub deep : HasLoop names
  pub searched_is : IsSearched before readers (with_room names (length ns + 1)) (finding_at names (length ns)) turns ns found other searched
  pub whole_is : AreNothing names.values (length ns + 1) searched whole
