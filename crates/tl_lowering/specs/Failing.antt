-- What is read behind a place: the code of a failure, and what a loop is left with. How statements fail, and the codes that their failures leave.
use Rattle.std.specs.Prelude.{◌≡◌, ℕ, List, Bool, true, false, Option, Some, None, is_some}
use Rattle.std.specs.Option.{option_or}
use Rattle.tl_syntax.specs.Codes.{code_of}
use Rattle.tl_syntax.specs.declared.failure.Failure.{Failure}
use Rattle.tl_syntax.specs.declared.failure.Failure.TheVariants as F
use Rattle.tl_lowering.specs.declared.loops.Repetition.{Repetition}
use Rattle.tl_lowering.specs.declared.loops.Repetition.TheVariants as R
use Rattle.tl_lowering.specs.declared.program.Expression.{Expression}
use Rattle.tl_lowering.specs.declared.program.Expression.TheVariants as E
use Rattle.tl_lowering.specs.declared.program.Place.{Place}
use Rattle.tl_lowering.specs.declared.program.Place.TheVariants as P
use Rattle.tl_lowering.specs.declared.program.Statement.{Statement}
use Rattle.tl_lowering.specs.declared.program.Statement.TheVariants as S
use Rattle.tl_lowering.specs.declared.readers.Finding.{Finding}
use Rattle.tl_lowering.specs.declared.readers.Readers.{Readers}
use Rattle.tl_lowering.specs.Naming.{IsThen}
use Rattle.tl_lowering.specs.Outcomes.{may_fail, condition_may_fail}

-- where nothing is read
abbrev pub nothing_read : Readers
nothing_read = record { code = None; finding = None }

-- where nothing reads the code of a failure
abbrev pub unread : Readers → Readers
unread readers = record readers { code = None }

-- where it is read from register r
abbrev pub reading : Readers → ℕ → Readers
reading readers r = record readers { code = Some r }

-- in the block of a loop that may be left with these values
abbrev pub searching : Readers → Finding → Readers
searching readers f = record readers { finding = Some f }

-- in a part, which leaves none of the loops around its use
abbrev pub in_part : Readers → Readers
in_part readers = record readers { finding = None }

-- how computing a number fails, if it may
abbrev pub number_failure : Bool → Option Failure
number_failure true = Some F.Number
number_failure false = None

-- how a place can't be locked
abbrev pub place_failure : Place → Failure
place_failure (P.Node n e) = F.Node
place_failure (P.Child n p e) = F.Child
place_failure (P.Pair n k p a b) = F.Child

-- how a loop up to a number may fail by itself: in a `let` it goes over children, whose place is the value
abbrev pub loop_failure : Bool → Failure
loop_failure true = F.Children
loop_failure false = F.Bound

-- how the statement, which may be that of a `let`, may fail by itself: before control comes to a statement of the text in it
abbrev pub failure_at : Bool → Statement → Option Failure
failure_at in_let (S.Sequence' p a q b) = option_or (failure_at false a) (failure_at false b)
failure_at in_let (S.Assign v e) = number_failure (may_fail e)
failure_at in_let (S.Write n f e) = number_failure (may_fail e)
failure_at in_let (S.Emit e) = number_failure (may_fail e)
failure_at in_let (S.Descend n e) = Some F.Child
failure_at in_let (S.If' c p a q b) = number_failure (condition_may_fail c)
failure_at in_let (S.Let' v e p a) = option_or (number_failure (may_fail e)) (failure_at true a)
failure_at in_let (S.RepeatUpTo' e w p a) = Some (loop_failure in_let)
failure_at in_let a = None

abbrev pub own_failure : Statement → Option Failure
own_failure = failure_at false

-- whether it leaves its code, if there is one, in a register
abbrev pub is_told : Option ℕ → Option Failure → Bool
is_told None failure = false
is_told (Some r) failure = is_some failure

-- a failure with this code, which it leaves in the register, if it is read there
pub data IsFailure : Option ℕ → Expression → Statement → Type 0 where
  bare : {e : Expression} → IsFailure None e S.Fail
  coded : {r : ℕ} {e : Expression} {whole : Statement} → IsThen (S.Assign r e) S.Fail whole → IsFailure (Some r) e whole

-- the statement, behind a mark that says how it fails by itself, if it may
pub data IsMarked : Option ℕ → Statement → Statement → Type 0 where
  not_read : {a : Statement} → IsMarked None a a
  sure : {r : ℕ} {a : Statement} → own_failure a ≡ None → IsMarked (Some r) a a
  marked : {r : ℕ} {f : Failure} {a whole : Statement} → own_failure a ≡ Some f → IsThen (S.Assign r (E.Constant (code_of f))) a whole →
      IsMarked (Some r) a whole

-- the body of a loop over children, behind which the loop may fail again by itself
pub data IsRenewed : Option ℕ → Statement → Statement → Type 0 where
  not_renewed : {a : Statement} → IsRenewed None a a
  renewed : {r : ℕ} {a whole : Statement} → IsThen a (S.Assign r (E.Constant (code_of F.Children))) whole → IsRenewed (Some r) a whole
