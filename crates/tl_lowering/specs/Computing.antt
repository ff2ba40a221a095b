-- What is done once numbers are computed.
use Rattle.std.specs.Prelude.{◌≡◌, ℕ, ◌<◌, ◌≤◌, false}
use Rattle.tl_syntax.specs.declared.parsed.Write.{Write}
use Rattle.tl_instr.specs.declared.operand.TheConstants.{VALUE_REGISTERS}
use Rattle.tl_lowering.specs.declared.program.Expression.{Expression}
use Rattle.tl_lowering.specs.declared.program.Expression.TheVariants as E
use Rattle.tl_lowering.specs.declared.paths.Held.{Held}
use Rattle.tl_lowering.specs.declared.program.Statement.{Statement}
use Rattle.tl_lowering.specs.declared.program.Statement.TheVariants as S
use Rattle.tl_lowering.specs.Entering.{before_of}
use Rattle.tl_lowering.specs.Names.{Names}
use Rattle.tl_lowering.specs.Naming.{IsUpdate, IsThen, rewrites}
use Rattle.tl_lowering.specs.Passing.{on_entered, entered, EntersOnce}
use Rattle.tl_lowering.specs.Paths.{nodes_of, on, outcomes}
use Rattle.tl_lowering.specs.Registers.{HasTemporaries}
use Rattle.tl_lowering.specs.Scopes.{View, is_in_loop}
use Rattle.tl_lowering.specs.Sound.{IsWellFormed}

-- a statement that is in order where t values have registers, or more, and goes on without a failure
pub record CannotFail (t : ℕ) (scope : View) (held : Held) (s : Statement) : Type 0 where
  pub sound : (d : ℕ) → t ≤ d → IsWellFormed s d scope.nodes (nodes_of held) (is_in_loop scope)
  pub paths : outcomes s (nodes_of held) ≡ on (nodes_of held)
  pub once : EntersOnce s (before_of held)
  pub entered : entered s (before_of held) ≡ on_entered (before_of held)

-- the number e of a write is computed in register t, and `more` is `done` and then the write
pub record IsComputed (names : Names) (t : ℕ) (w : Write) (e : Expression) (done more : Statement) : Type 0 where
  pub node : ℕ
  pub field : ℕ
  pub update : IsUpdate names w node field e
  pub apart : rewrites done node field ≡ false
  pub room : t < VALUE_REGISTERS
  pub temporaries : HasTemporaries e t
  pub behind : IsThen done (S.Write node field (E.Value t)) more
